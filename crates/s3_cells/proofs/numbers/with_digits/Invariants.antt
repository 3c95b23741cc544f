use Rattle.std.proofs.Common.{◌≡◌, ◌≤◌, ◌^◌, ◌++◌, ℕ, List, map, take, min}
use Rattle.s3_decimal.specs.Records.{number_of}
use Rattle.s3_cells.specs.Inner.Numbers.{digit_value}
use Rattle.s3_cells.proofs.numbers.with_digits.Given as goal

abbrev pub invariant-loop-digit : goal.invariant-loop-digit
invariant-loop-digit l = record {
  few : l.whole ≤ 10 ^ 15;
  value : (before : List ℕ) → l.magnitude ≡ min (number_of before) (10 ^ 15) → l.whole ≡ min (number_of (before ++ map digit_value (take l.digit-index l.digits))) (10 ^ 15);
}
