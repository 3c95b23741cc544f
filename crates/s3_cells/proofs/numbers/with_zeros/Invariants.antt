use Rattle.std.proofs.Common.{◌≡◌, ◌≤◌, ◌^◌, ◌++◌, ℕ, List, replicate, min}
use Rattle.s3_decimal.specs.Records.{number_of}
use Rattle.s3_cells.proofs.numbers.with_zeros.Given as goal

abbrev pub invariant-loop-zero : goal.invariant-loop-zero
invariant-loop-zero l = record {
  few : l.whole ≤ 10 ^ 15;
  value : (before : List ℕ) → l.magnitude ≡ min (number_of before) (10 ^ 15) → l.whole ≡ min (number_of (before ++ replicate l._zero 0)) (10 ^ 15);
}
