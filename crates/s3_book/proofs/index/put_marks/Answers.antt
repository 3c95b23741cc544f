use Rattle.std.proofs.Common.{arith}
use Rattle.std.proofs.lemmas.List.{take_all}
use Rattle.s3_book.specs.Inner.Index.{mark}
use Rattle.s3_book.specs.Inner.Parts.{page_of}
use Rattle.s3_book.proofs.PartLemmas.{all_of}
use Rattle.s3_book.proofs.index.put_marks.Goals as goal

pub returns : goal.returns
returns c = all_of (λ h. page_of (mark c.args.turns h)) c.args.halts.now _ _ _ (take_all c.loop-halt.halt-index c.args.halts.now (omega arith)) c.loop-halt.invariant
