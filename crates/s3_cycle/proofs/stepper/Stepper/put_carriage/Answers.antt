use Rattle.s3_cycle.proofs.PrintLemmas.{carriage_put}
use Rattle.s3_cycle.proofs.stepper.Stepper.put_carriage.Goals as goal

pub returns : goal.returns
returns c = carriage_put c.args.self.now c.args.to c.requires
