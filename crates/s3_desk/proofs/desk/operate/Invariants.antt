-- Both levels have gone on, and so has the day; and less is left to do.
use Rattle.std.proofs.Common.{None, false, ◌≡◌}
use Rattle.s3_cards.specs.declared.levels.LevelId.TheVariants.{One, Two}
use Rattle.s3_desk.specs.Inner.Calls.{GoesAfter, KeepsFrom}
use Rattle.s3_desk.specs.Inner.Desk.{Counts, GoesOn, HasReached, IsPastReply, Spends, work_left}
use Rattle.s3_desk.specs.Inner.Rounds.{SitsFrom}
use Rattle.s3_desk.proofs.desk.operate.Given as goal

abbrev pub invariant-loop-ends : goal.invariant-loop-ends
invariant-loop-ends g l =
    GoesOn g.M.Machine.holds l.fn.performed l.performed l.fn.bureau l.bureau
    × (SitsFrom g.M.Machine.holds g.O.Operator.meets (λ level entries. IsPastReply level l.fn.performed entries) (λ level entries. HasReached level l.fn.performed entries l.fn.bounds) l.fn.performed l.performed l.fn.bureau l.fn.operator l.operator false false l.seat_one.is_shown l.seat_two.is_shown None
    × (Spends One l.fn.performed l.performed l.fn.bounds l.seat_one.left
    × (Spends Two l.fn.performed l.performed l.fn.bounds l.seat_two.left
    × (GoesAfter g.M.Machine.after l.fn.performed l.performed l.fn.bureau l.bureau
    × (KeepsFrom g.M.Machine.keeps l.fn.bureau l.bureau
    × ((g.M.Machine.failures l.bureau ≡ g.M.Machine.failures l.fn.bureau)
    × (Counts One l.fn.performed l.performed 0 l.seat_one.answers × Counts Two l.fn.performed l.performed 0 l.seat_two.answers)))))))

abbrev pub decreases-loop-ends : goal.decreases-loop-ends
decreases-loop-ends g l = work_left l.seat_one l.seat_two
