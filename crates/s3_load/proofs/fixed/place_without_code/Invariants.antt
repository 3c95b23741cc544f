use Rattle.std.proofs.Common.{◌≡◌, true, take}
use Rattle.std.specs.List.{list_all}
use Rattle.s3_cells.specs.Inner.Texts.{has_code}
use Rattle.s3_load.proofs.fixed.place_without_code.Given as goal

abbrev pub invariant-loop-place : goal.invariant-loop-place
invariant-loop-place l = list_all has_code (take l.place l.piece) ≡ true
