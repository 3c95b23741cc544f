use Rattle.s3_pages.specs.Inner.Bodies.{kid}
use Rattle.s3_pages.proofs.Ranges.{numbers_step}
use Rattle.s3_pages.proofs.bodies.push_kids.Goals as goal

pub loop-place-preserved : goal.loop-place-preserved
loop-place-preserved c = numbers_step kid _ _ _ c.loop-place.place c.loop-place.invariant c.in_ok-push_kid.ensures
