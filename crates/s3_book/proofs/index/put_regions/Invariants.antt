-- The texts so far.
use Rattle.std.proofs.Common.{◌≡◌, ◌++◌, take, vec_items}
use Rattle.std.specs.List.{flat_map}
use Rattle.s3_book.specs.Inner.Index.{region_text}
use Rattle.s3_book.proofs.index.put_regions.Given as goal

abbrev pub invariant-loop-region : goal.invariant-loop-region
invariant-loop-region l = vec_items l.text ≡ vec_items l.initial.text ++ flat_map (λ r. region_text l.whole r) (take l.region-index l.regions)
