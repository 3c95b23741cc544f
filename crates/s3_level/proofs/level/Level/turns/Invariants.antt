-- So many turns acted, nothing else has changed, and after them a job is running.
use Rattle.std.proofs.Common.{◌≡◌, ◌-◌, ◌≤◌, true, is_some}
use Rattle.s3_level.specs.Inner.Holds.{around}
use Rattle.s3_level.proofs.Repeating.{TurnedSo}
use Rattle.s3_level.proofs.level.Level.turns.Given as goal

abbrev pub invariant-loop-most : goal.invariant-loop-most
invariant-loop-most g l =
    TurnedSo (l.all - l.left) l.initial.self l.self (around l.initial.pack.areas (g.P.Sectors.state l.initial.pack.pool) l.initial.spool) (around l.pack.areas (g.P.Sectors.state l.pack.pool) l.spool)
    × (l.left ≤ l.all)
    × (1 ≤ l.all - l.left → is_some l.self.job ≡ true)

abbrev pub decreases-loop-most : goal.decreases-loop-most
decreases-loop-most g l = l.left
