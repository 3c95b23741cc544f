use Rattle.std.proofs.Common.{refl}
use Rattle.s3_operations.proofs.PlaceLemmas.{no_place}
use Rattle.s3_operations.proofs.bits.Bits.none.Goals as goal

pub returns : goal.returns
returns c = λ place. no_place _ place refl
