use Rattle.std.proofs.Common.{refl}
use Rattle.s3_operations.specs.Inner.Indicating.{cleared_of}
use Rattle.s3_cycle.proofs.GoingLemmas.{values_changed}
use Rattle.s3_cycle.proofs.stepper.Stepper.clear.Goals as goal

pub returns : goal.returns
returns c = values_changed c.args.self.now _ _ cleared_of refl c.requires.sound c.clear.ensures
