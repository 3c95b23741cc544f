use Rattle.std.proofs.Common.{◌≡◌, drop}
use Rattle.std.specs.Prelude.{nat_eq}
use Rattle.std.specs.Cmp.Lexicographic.{pointwise}
use Rattle.s3_decimal.specs.Records.{zoned_digits}
use Rattle.s3_match.proofs.compared.are_zoned_digits.Given as goal

abbrev pub invariant-loop-place : goal.invariant-loop-place
invariant-loop-place l = pointwise nat_eq (zoned_digits l.bytes) l.digits ≡ pointwise nat_eq (zoned_digits (drop l.place l.bytes)) (drop l.place l.digits)
