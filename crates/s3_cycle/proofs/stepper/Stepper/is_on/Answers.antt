use Rattle.s3_cycle.specs.Inner.Environment.{environment, others}
use Rattle.s3_cycle.proofs.stepper.Stepper.is_on.Goals as goal

pub returns : goal.returns
unfolding environment
returns c = c.is_on.ensures (others c.args.self.now.program c.args.self.now.state)
