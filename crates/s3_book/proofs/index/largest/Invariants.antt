-- The largest region so far and of those that are left is the largest of all.
use Rattle.std.proofs.Common.{◌≡◌, max, drop}
use Rattle.s3_book.specs.Inner.Index.{largest}
use Rattle.s3_book.proofs.index.largest.Given as goal

abbrev pub invariant-loop-region : goal.invariant-loop-region
invariant-loop-region l = max l.most (largest (drop l.region-index l.regions)) ≡ largest l.regions
