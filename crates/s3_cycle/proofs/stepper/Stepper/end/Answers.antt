use Rattle.s3_cycle.proofs.EndLemmas.{ends}
use Rattle.s3_cycle.proofs.stepper.Stepper.end.Goals as goal

pub returns : goal.returns
returns c = ends c.args.self.now _ c.args.at_once c.wait.ensures c.requires
