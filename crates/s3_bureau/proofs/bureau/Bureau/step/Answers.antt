use Rattle.s3_bureau.specs.Inner.Held.{HoldsFor}
use Rattle.s3_level.proofs.Turns.{one_step}
use Rattle.s3_bureau.proofs.bureau.Bureau.step.Goals as goal

pub returns-clause-own : goal.returns-clause-own
returns-clause-own g c = one_step c.args.entry.action c.in_ok-repeat.field-0 (HoldsFor c.args.entry.level c.args.self.now) (HoldsFor c.args.entry.level c.repeat.new.self) c.in_ok-repeat.ensures.times c.in_ok-repeat.ensures.own
