use Rattle.std.proofs.Common.{refl}
use Rattle.s3_operations.proofs.PlaceLemmas.{has_levels}
use Rattle.s3_operations.proofs.indicating.levels.Goals as goal

pub returns : goal.returns
returns c = λ other. has_levels _ other refl refl
