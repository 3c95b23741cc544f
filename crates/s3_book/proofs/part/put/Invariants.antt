-- The parts so far.
use Rattle.std.proofs.Common.{◌≡◌, ◌++◌, take, vec_items}
use Rattle.std.specs.List.{flat_map}
use Rattle.s3_book.specs.Inner.Parts.{bytes_of, piece_of}
use Rattle.s3_book.proofs.part.put.Given as goal

abbrev pub invariant-loop-part : goal.invariant-loop-part
invariant-loop-part l = vec_items l.text ≡ vec_items l.initial.text ++ flat_map (λ part. bytes_of (piece_of part)) (take l.part-index l.parts)
