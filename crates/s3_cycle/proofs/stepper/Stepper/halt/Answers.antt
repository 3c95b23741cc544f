use Rattle.s3_cycle.proofs.GoingLemmas.{halts}
use Rattle.s3_cycle.proofs.stepper.Stepper.halt.Goals as goal

pub returns : goal.returns
returns c = halts c.args.self.now _ c.args.code c.args.then c.wait.ensures c.requires.running c.requires.then
