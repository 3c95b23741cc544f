use Rattle.std.proofs.Common.{◌≡◌, drop}
use Rattle.s3_cells.specs.Inner.Marks.{are_in_place}
use Rattle.s3_cells.proofs.marks.are_in_place.Given as goal

abbrev pub invariant-loop-place : goal.invariant-loop-place
invariant-loop-place l = are_in_place l.mark l.whole ≡ are_in_place l.mark (drop l.place l.whole)
