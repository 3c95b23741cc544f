-- The days that are left have the same ones from the pack; and they get fewer.
use Rattle.std.proofs.Common.{◌≡◌, length}
use Rattle.s3_journal.specs.Inner.Posted.{from_pack, lines_of}
use Rattle.s3_journal.proofs.standing.from_pack.Given as goal

abbrev pub invariant-loop-day : goal.invariant-loop-day
invariant-loop-day l = from_pack l.fn.pack (lines_of l.rest) ≡ from_pack l.fn.pack (lines_of l.fn.days)

abbrev pub decreases-loop-day : goal.decreases-loop-day
decreases-loop-day l = length l.rest
