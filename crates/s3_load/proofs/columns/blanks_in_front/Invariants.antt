use Rattle.std.proofs.Common.{◌≡◌, ◌<◌, ℕ, true, get_or}
use Rattle.s3_load.specs.Inner.Columns.{is_blank}
use Rattle.s3_load.proofs.columns.blanks_in_front.Given as goal

abbrev pub invariant-loop-place : goal.invariant-loop-place
invariant-loop-place l = (k : ℕ) → k < l.place → is_blank (get_or l.cell k 0) ≡ true
