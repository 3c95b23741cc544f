use Rattle.s3_pages.specs.Inner.Forms.{line_number}
use Rattle.s3_pages.proofs.Ranges.{numbers_step}
use Rattle.s3_pages.proofs.form.push_line_numbers.Goals as goal

pub loop-place-preserved : goal.loop-place-preserved
loop-place-preserved c = numbers_step line_number _ _ _ c.loop-place.place c.loop-place.invariant c.in_ok-push_line_number.ensures
