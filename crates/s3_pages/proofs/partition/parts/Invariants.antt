-- The parts so far, and those of the lines that are left.
use Rattle.std.proofs.Common.{◌≡◌, ◌++◌, drop, map, vec_items}
use Rattle.s3_pages.specs.Inner.Parts.{parts_of}
use Rattle.s3_pages.proofs.partition.parts.Given as goal

abbrev pub invariant-loop-count : goal.invariant-loop-count
invariant-loop-count l = map (λ part. part.now) (vec_items l.all) ++ parts_of (drop l.count-index l.counts) l.rest ≡ parts_of l.counts l.lines
