use Rattle.std.proofs.Common.{◌∙◌, ap}
use Rattle.s3_operations.specs.Inner.Indicators.{is_settable_entry}
use Rattle.s3_cycle.specs.declared.stepper.Stepper.{Stepper}
use Rattle.s3_cycle.proofs.PrintLemmas.{overflow_settable, carriage_overflows, carriage_stays}
use Rattle.s3_cycle.proofs.stepper.Stepper.move_carriage.Goals as goal

pub turn_entry-requires-clause-settable : goal.turn_entry-requires-clause-settable
turn_entry-requires-clause-settable c = ap (λ (k : Stepper). is_settable_entry k.overflow) c.put_carriage.ensures.stays ∙ overflow_settable c.args.self.now c.requires

pub returns-then-to : goal.returns-then-to
returns-then-to c = carriage_overflows c.args.self.now c.put_carriage.new.self c.turn_entry.new.self c.args.to c.requires c.if-to.true c.put_carriage.ensures c.turn_entry.ensures

pub returns-else-to : goal.returns-else-to
returns-else-to c = carriage_stays c.args.self.now c.put_carriage.new.self c.args.to c.requires c.if-to.false c.put_carriage.ensures
