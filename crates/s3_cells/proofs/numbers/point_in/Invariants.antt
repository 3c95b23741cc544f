use Rattle.std.proofs.Common.{◌≡◌, ◌<◌, ℕ, false, get_or}
use Rattle.s3_cells.specs.Inner.Numbers.{is_point}
use Rattle.s3_cells.proofs.numbers.point_in.Given as goal

abbrev pub invariant-loop-place : goal.invariant-loop-place
invariant-loop-place l = (k : ℕ) → k < l.place → is_point (get_or l.text k 0) ≡ false
