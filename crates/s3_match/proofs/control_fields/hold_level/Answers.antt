use Rattle.std.proofs.Common.{ap, sym, ◌∙◌, ◌&&◌, not}
use Rattle.std.specs.Prelude.{Option, is_some, option_map}
use Rattle.s3_meaning.specs.Selection.{same_key}
use Rattle.s3_match.specs.declared.levels.LevelField.{LevelField}
use Rattle.s3_match.specs.Inner.Controls.{held_in}
use Rattle.s3_match.specs.Inner.LevelField.{compared_at}
use Rattle.s3_match.proofs.HoldingLemmas.{held_none, held_some}
use Rattle.s3_match.proofs.control_fields.hold_level.Goals as goal

pub returns-in-Some-clause-breaks : goal.returns-in-Some-clause-breaks
returns-in-Some-clause-breaks c =
    c.hold_at.ensures.breaks
    ∙ ap (λ (o : Option LevelField). is_some (option_map (compared_at c.args.bytes.now) o) && not (same_key (option_map (compared_at c.args.bytes.now) o) (held_in c.args.held.now c.args.level))) c.in-Some.ensures.found

pub returns-in-Some-clause-held : goal.returns-in-Some-clause-held
returns-in-Some-clause-held c =
    held_some c.args.fields.now.fields c.args.bytes.now (held_in c.args.held.now) (held_in c.hold_at.new.held) c.args.level (compared_at c.args.bytes.now c.in-Some.field) (sym (ap (option_map (compared_at c.args.bytes.now)) c.in-Some.ensures.found)) c.hold_at.ensures.held

pub returns-in-None-clause-breaks : goal.returns-in-None-clause-breaks
returns-in-None-clause-breaks c =
    ap (λ (o : Option LevelField). is_some (option_map (compared_at c.args.bytes.now) o) && not (same_key (option_map (compared_at c.args.bytes.now) o) (held_in c.args.held.now c.args.level))) c.in-None.ensures.found

pub returns-in-None-clause-held : goal.returns-in-None-clause-held
returns-in-None-clause-held c = held_none c.args.fields.now.fields c.args.bytes.now (held_in c.args.held.now) c.args.level (sym c.in-None.ensures.found)
