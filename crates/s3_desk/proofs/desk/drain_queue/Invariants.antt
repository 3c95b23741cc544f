-- Lines were drained so far, or none was.
use Rattle.std.proofs.Common.{◌≡◌, ◌≢◌}
use Rattle.s3_desk.specs.declared.desk.Went.TheVariants.{Cut}
use Rattle.s3_desk.specs.Inner.Calls.{GoesAfter, KeepsFrom}
use Rattle.s3_desk.specs.Inner.Desk.{DrainsSoFar, TakesLines, Uses}
use Rattle.s3_desk.proofs.desk.drain_queue.Given as goal

abbrev pub invariant-loop-left : goal.invariant-loop-left
invariant-loop-left g l =
    DrainsSoFar g.M.Machine.holds l.fn.level l.fn.performed l.performed l.fn.bureau l.bureau l.went
    × (Uses l.fn.level l.fn.performed l.performed l.fn.left l.left l.went
    × ((l.went ≢ Cut)
    × (GoesAfter g.M.Machine.after l.fn.performed l.performed l.fn.bureau l.bureau
    × (KeepsFrom g.M.Machine.keeps l.fn.bureau l.bureau
    × ((g.M.Machine.failures l.bureau ≡ g.M.Machine.failures l.fn.bureau) × TakesLines l.fn.level l.fn.performed l.performed)))))

abbrev pub decreases-loop-left : goal.decreases-loop-left
decreases-loop-left g l = l.left.lines
