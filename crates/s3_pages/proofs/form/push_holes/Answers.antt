use Rattle.std.proofs.Common.{◌++◌, ap, ◌∙◌}
use Rattle.s3_pages.specs.Inner.Forms.{hole}
use Rattle.s3_pages.proofs.Ranges.{numbers_step}
use Rattle.s3_pages.proofs.form.push_holes.Goals as goal

pub loop-hole-preserved : goal.loop-hole-preserved
loop-hole-preserved c = numbers_step (λ _. hole) _ _ _ c.loop-hole._hole c.loop-hole.invariant (c.in_ok-extend_from_slice.ensures.items ∙ ap (λ one. c.loop-hole.text.items ++ one) c.drawn_hole.ensures)
