-- The entry was performed so many times, and the bureau is open.
use Rattle.std.proofs.Common.{◌≡◌, ◌≤◌, ◌-◌, replicate, true}
use Rattle.s3_bureau.specs.Inner.Held.{held_by, is_open}
use Rattle.s3_bureau.specs.Inner.Underway.{KeepSaying, Leaves, Performs}
use Rattle.s3_bureau.proofs.runs.repeat.Given as goal

abbrev pub invariant-loop-most : goal.invariant-loop-most
invariant-loop-most g l =
    Performs (replicate (l.count - l.left) l.entry) (held_by l.initial.bureau) (held_by l.bureau)
    × ((is_open l.bureau ≡ true) × (Leaves (replicate (l.count - l.left) l.entry) l.initial.bureau l.bureau × ((l.bureau.beside.state.failures ≡ l.initial.bureau.beside.state.failures) × (KeepSaying l.initial.bureau l.bureau × (l.left ≤ l.count)))))

abbrev pub decreases-loop-most : goal.decreases-loop-most
decreases-loop-most g l = l.left
