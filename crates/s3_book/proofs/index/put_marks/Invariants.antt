-- The texts so far.
use Rattle.std.proofs.Common.{◌≡◌, ◌++◌, take, vec_items}
use Rattle.std.specs.List.{flat_map}
use Rattle.s3_book.specs.Inner.Index.{mark}
use Rattle.s3_book.specs.Inner.Parts.{page_of}
use Rattle.s3_book.proofs.index.put_marks.Given as goal

abbrev pub invariant-loop-halt : goal.invariant-loop-halt
invariant-loop-halt l = vec_items l.text ≡ vec_items l.initial.text ++ flat_map (λ h. page_of (mark l.turns h)) (take l.halt-index l.halts)
