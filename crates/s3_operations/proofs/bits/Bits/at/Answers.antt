use Rattle.std.proofs.Common.{◌%◌, refl, arith}
use Rattle.std.proofs.lemmas.Nat.{one_shl}
use Rattle.s3_operations.proofs.PlaceLemmas.{one_place}
use Rattle.s3_operations.proofs.bits.Bits.at.Goals as goal

pub returns-clause-mask : goal.returns-clause-mask
returns-clause-mask c = one_shl (c.args.place % 64) 64 (omega arith)

pub returns-clause-places : goal.returns-clause-places
returns-clause-places c = λ other. one_place _ c.args.place other refl refl
