use Rattle.std.proofs.Common.{[], ◌∷◌}
use Rattle.std.specs.Prelude.{codes}
use Rattle.json.specs.Json.{object}
use Rattle.s3_day_log.specs.Inner.Events.{day_of}
use Rattle.s3_day_log.specs.Inner.Lines.{day_pairs, kind, members_of}
use Rattle.s3_day_log.proofs.WritingLemmas.{begin_written, one}
use Rattle.s3_day_log.proofs.writing.Line.begin.Goals as goal

pub returns : goal.returns
returns c = begin_written c.begun.result _ _ _ _ (kind (codes "begin") ∷ []) (codes "day") (object (members_of (day_pairs (day_of c.args.day.now)))) c.in_ok-members.ensures (one _ c.in_ok-key.ensures) c.begun.ensures
