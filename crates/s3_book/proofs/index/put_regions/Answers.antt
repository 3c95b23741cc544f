use Rattle.std.proofs.Common.{arith}
use Rattle.std.proofs.lemmas.List.{take_all}
use Rattle.s3_book.specs.Inner.Index.{region_text}
use Rattle.s3_book.proofs.PartLemmas.{all_of}
use Rattle.s3_book.proofs.index.put_regions.Goals as goal

pub returns : goal.returns
returns c = all_of (λ r. region_text c.args.whole r) c.args.regions.now _ _ _ (take_all c.loop-region.region-index c.args.regions.now (omega arith)) c.loop-region.invariant
