use Rattle.std.proofs.Common.{◌≡◌, ◌++◌, map, take}
use Rattle.s3_cells.specs.Inner.Numbers.{digit_character}
use Rattle.s3_cells.proofs.numbers.push_digits.Given as goal

abbrev pub invariant-loop-byte : goal.invariant-loop-byte
invariant-loop-byte l = l.text.items ≡ l.initial.text.items ++ map digit_character (take l.byte-index l.zoned)
