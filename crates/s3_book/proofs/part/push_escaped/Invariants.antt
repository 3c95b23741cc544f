-- The bytes so far.
use Rattle.std.proofs.Common.{◌≡◌, ◌++◌, take, vec_items}
use Rattle.std.specs.List.{flat_map}
use Rattle.s3_book.specs.Inner.Parts.{escaped}
use Rattle.s3_book.proofs.part.push_escaped.Given as goal

abbrev pub invariant-loop-byte : goal.invariant-loop-byte
invariant-loop-byte l = vec_items l.text ≡ vec_items l.initial.text ++ flat_map escaped (take l.byte-index l.value)
