use Rattle.s3_cycle.proofs.TurnLemmas.{begins_last, begins_reading}
use Rattle.s3_cycle.proofs.stepper.Stepper.begin_reading.Goals as goal

pub returns-then-is_on : goal.returns-then-is_on
returns-then-is_on c = begins_last c.args.self.now c.clear.new.self _ c.is_on.result c.clear.ensures c.is_on.ensures c.if-is_on.true c.total_last.ensures

pub returns-else-is_on : goal.returns-else-is_on
returns-else-is_on c = begins_reading c.args.self.now c.clear.new.self _ c.is_on.result c.clear.ensures c.is_on.ensures c.if-is_on.false c.read_first.ensures
