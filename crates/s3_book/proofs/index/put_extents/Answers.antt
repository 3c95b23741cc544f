use Rattle.std.proofs.Common.{arith}
use Rattle.std.proofs.lemmas.List.{take_all}
use Rattle.s3_book.specs.Inner.Index.{extent_bar}
use Rattle.s3_book.specs.Inner.Parts.{page_of}
use Rattle.s3_book.proofs.PartLemmas.{all_of}
use Rattle.s3_book.proofs.index.put_extents.Goals as goal

pub returns : goal.returns
returns c = all_of (λ e. page_of (extent_bar c.args.whole e)) c.args.files.now _ _ _ (take_all c.loop-file.file-index c.args.files.now (omega arith)) c.loop-file.invariant
