use Rattle.std.proofs.Common.{[], ◌∷◌}
use Rattle.std.specs.Prelude.{codes}
use Rattle.json.specs.Json.{string}
use Rattle.s3_day_log.specs.Inner.Events.{said_of}
use Rattle.s3_day_log.specs.Inner.Lines.{pairs_of, tree_of}
use Rattle.s3_day_log.proofs.WritingLemmas.{object_written, one}
use Rattle.s3_day_log.proofs.writing.Line.record.Goals as goal

pub returns : goal.returns
unfolding tree_of
returns c =
    object_written c.end_object.result _ _ _ _ _ ((codes "at", string c.args.at.now) ∷ []) (pairs_of (said_of c.args.event.now))
    (one _ c.in_ok-begin_object.ensures) c.in_ok-members.ensures c.in_ok-event.ensures (one c.end_object.result c.end_object.ensures)
