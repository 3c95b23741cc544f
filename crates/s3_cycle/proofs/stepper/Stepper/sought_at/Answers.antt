use Rattle.s3_cycle.proofs.StandingLemmas.{seeks_there}
use Rattle.s3_cycle.proofs.stepper.Stepper.sought_at.Goals as goal

pub returns-in-Some : goal.returns-in-Some
returns-in-Some c = seeks_there c.args.self.now c.args.place c.in-Some.chained.now c.sought.result c.in-Some.ensures c.sought.ensures
