-- The bytes so far.
use Rattle.std.proofs.Common.{◌≡◌, ◌++◌, take, vec_items}
use Rattle.std.specs.List.{flat_map}
use Rattle.s3_book.specs.Inner.Parts.{linked}
use Rattle.s3_book.proofs.part.push_linked.Given as goal

abbrev pub invariant-loop-byte : goal.invariant-loop-byte
invariant-loop-byte l = vec_items l.text ≡ vec_items l.initial.text ++ flat_map linked (take l.byte-index l.name)
