use Rattle.std.proofs.Common.{refl}
use Rattle.s3_cycle.proofs.GoingLemmas.{values_changed}
use Rattle.s3_cycle.proofs.stepper.Stepper.identify_type.Goals as goal

pub returns : goal.returns
returns c = values_changed c.args.self.now _ _ _ refl c.requires.sound c.show_type.ensures
