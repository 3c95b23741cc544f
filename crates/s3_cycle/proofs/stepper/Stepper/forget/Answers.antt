use Rattle.std.proofs.Common.{refl}
use Rattle.s3_cycle.proofs.ForgetLemmas.{forgets}
use Rattle.s3_cycle.proofs.stepper.Stepper.forget.Goals as goal

pub returns : goal.returns
returns c = forgets c.args.self.now c.args.file _ c.clear_types_of.new.values c.requires.sound c.requires.within refl c.clear_types_of.ensures
