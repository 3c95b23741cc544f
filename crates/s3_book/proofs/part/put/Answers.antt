use Rattle.std.proofs.Common.{arith}
use Rattle.std.proofs.lemmas.List.{take_all}
use Rattle.s3_book.specs.Inner.Parts.{bytes_of, page_of, piece_of}
use Rattle.s3_book.proofs.PartLemmas.{all_values_of}
use Rattle.s3_book.proofs.part.put.Goals as goal

pub returns : goal.returns
unfolding page_of
returns c = all_values_of bytes_of piece_of c.args.parts.now _ _ _ (take_all c.loop-part.part-index c.args.parts.now (omega arith)) c.loop-part.invariant
