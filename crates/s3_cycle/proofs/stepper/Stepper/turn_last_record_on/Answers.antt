use Rattle.std.proofs.Common.{refl}
use Rattle.s3_cycle.proofs.GoingLemmas.{values_changed}
use Rattle.s3_cycle.proofs.stepper.Stepper.turn_last_record_on.Goals as goal

pub returns : goal.returns
returns c = values_changed c.args.self.now _ _ _ refl c.requires c.turn_last_record_on.ensures
