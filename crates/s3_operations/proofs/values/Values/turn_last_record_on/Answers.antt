use Rattle.std.proofs.Common.{true}
use Rattle.s3_lines.specs.declared.indicator.Indicator.TheVariants.{LastRecord}
use Rattle.s3_meaning.specs.Environment.{turn, turn_levels}
use Rattle.s3_operations.proofs.ChangeLemmas.{after}
use Rattle.s3_operations.proofs.values.Values.turn_last_record_on.Goals as goal

pub returns : goal.returns
returns c = after c.args.program.now c.args.self.now c.turn_levels.new.self _ (λ source. turn_levels true) (λ source. turn LastRecord true) c.turn_levels.ensures c.turn.ensures
