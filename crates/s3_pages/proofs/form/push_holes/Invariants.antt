-- The holes so far.
use Rattle.std.proofs.Common.{◌≡◌, ◌++◌, vec_items}
use Rattle.std.specs.List.{flat_map, range_with_len}
use Rattle.s3_pages.specs.Inner.Forms.{hole}
use Rattle.s3_pages.proofs.form.push_holes.Given as goal

abbrev pub invariant-loop-hole : goal.invariant-loop-hole
invariant-loop-hole l = vec_items l.text ≡ vec_items l.initial.text ++ flat_map (λ _. hole) (range_with_len 0 l._hole)
