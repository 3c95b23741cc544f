-- The pages so far.
use Rattle.std.proofs.Common.{◌≡◌, ◌++◌, vec_items}
use Rattle.std.specs.List.{flat_map, range_with_len}
use Rattle.s3_pages.specs.Inner.Bodies.{kid}
use Rattle.s3_pages.proofs.bodies.push_kids.Given as goal

abbrev pub invariant-loop-place : goal.invariant-loop-place
invariant-loop-place l = vec_items l.text ≡ vec_items l.initial.text ++ flat_map kid (range_with_len 0 l.place)
