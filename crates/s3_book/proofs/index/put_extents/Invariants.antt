-- The texts so far.
use Rattle.std.proofs.Common.{◌≡◌, ◌++◌, take, vec_items}
use Rattle.std.specs.List.{flat_map}
use Rattle.s3_book.specs.Inner.Index.{extent_bar}
use Rattle.s3_book.specs.Inner.Parts.{page_of}
use Rattle.s3_book.proofs.index.put_extents.Given as goal

abbrev pub invariant-loop-file : goal.invariant-loop-file
invariant-loop-file l = vec_items l.text ≡ vec_items l.initial.text ++ flat_map (λ e. page_of (extent_bar l.whole e)) (take l.file-index l.files)
