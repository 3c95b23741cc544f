-- The digits of the numbers so far.
use Rattle.std.proofs.Common.{◌≡◌, ◌<◌, ◌+◌, ◌/◌, ℕ, length}
use Rattle.std.specs.Prelude.{slice_index}
use Rattle.s3_bureau.proofs.report.first_digits.Given as goal

abbrev pub invariant-loop-number : goal.invariant-loop-number
invariant-loop-number l = ((number : ℕ) → number < l.number → slice_index l.digits number ≡ 48 + number / 10) × (length l.digits ≡ 100)
