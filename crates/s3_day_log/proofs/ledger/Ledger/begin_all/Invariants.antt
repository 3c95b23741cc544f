-- The jobs that have begun so far, and those that are left, make the same as all of them did; and the ledger is as it was otherwise.
use Rattle.std.proofs.Common.{◌≡◌, ◌-◌, length, drop}
use Rattle.s3_day_log.specs.Inner.Counting.{BeginsSilent}
use Rattle.s3_day_log.specs.Inner.Endings.{Begins, begun_by, overs}
use Rattle.s3_day_log.proofs.ledger.Ledger.begin_all.Given as goal

abbrev pub invariant-loop-self : goal.invariant-loop-self
invariant-loop-self l =
    (begun_by l.initial.self.place (drop (length (overs l.self.begun.items)) l.initial.self.jobs.items) (overs l.self.begun.items)
    ≡ begun_by l.initial.self.place (drop (length (overs l.initial.self.begun.items)) l.initial.self.jobs.items) (overs l.initial.self.begun.items))
    × Begins l.initial.self.begun.items l.self.begun.items
    × BeginsSilent l.initial.self.begun.items l.self.begun.items
    × (l.self.counted ≡ l.initial.self.counted)
    × (l.self.jobs ≡ l.initial.self.jobs) × (l.self.place ≡ l.initial.self.place) × (l.self.is_open ≡ l.initial.self.is_open)

abbrev pub decreases-loop-self : goal.decreases-loop-self
decreases-loop-self l = length l.self.jobs.items - length l.self.begun.items
