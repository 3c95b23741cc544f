use Rattle.std.proofs.Common.{◌≡◌, map, take}
use Rattle.s3_cells.specs.Inner.Marks.{capital}
use Rattle.s3_cells.proofs.marks.capitals_of.Given as goal

abbrev pub invariant-loop-byte : goal.invariant-loop-byte
invariant-loop-byte l = l.capitals.items ≡ map capital (take l.byte-index l.text)
