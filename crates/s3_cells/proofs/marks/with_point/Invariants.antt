use Rattle.std.proofs.Common.{◌≡◌, map, take}
use Rattle.s3_cells.specs.Inner.Marks.{swapped}
use Rattle.s3_cells.proofs.marks.with_point.Given as goal

abbrev pub invariant-loop-byte : goal.invariant-loop-byte
invariant-loop-byte l = l.text.items ≡ map (swapped l.decimal) (take l.byte-index l.cell)
