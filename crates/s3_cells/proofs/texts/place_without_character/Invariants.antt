use Rattle.std.proofs.Common.{◌≡◌, true, take}
use Rattle.std.specs.List.{list_all}
use Rattle.s3_cells.specs.Inner.Texts.{has_character}
use Rattle.s3_cells.proofs.texts.place_without_character.Given as goal

abbrev pub invariant-loop-place : goal.invariant-loop-place
invariant-loop-place l = list_all has_character (take l.place l.codes) ≡ true
