use Rattle.std.proofs.Common.{refl}
use Rattle.s3_operations.specs.Inner.Places.{indicator_place}
use Rattle.s3_cycle.proofs.ClearingLemmas.{type_turned}
use Rattle.s3_cycle.proofs.indicating.show_type.Goals as goal

pub returns : goal.returns
returns c =
    type_turned c.args.program.now c.args.values.now _ c.args.start c.place_of-place.result c.requires.sound c.requires.starts c.place_of-place.ensures.place refl refl refl refl (λ other. c.set.ensures (indicator_place other))
