-- The days that are left have made the pack from which the last one that was found began; and they get fewer.
use Rattle.std.proofs.Common.{◌≡◌, length}
use denote.Text.{Utf8}
use denote.Shadow.{shadow}
use Rattle.s3_journal.specs.Inner.Posted.{lines_of, posted_by, posted_in}
use Rattle.s3_journal.proofs.standing.posted_day.Given as goal

abbrev pub invariant-loop-day : goal.invariant-loop-day
invariant-loop-day l = shadow (Utf8 l.made) × (posted_in (posted_by l.fn.posting) l.made (lines_of l.rest) ≡ posted_in (posted_by l.fn.posting) l.fn.pack (lines_of l.fn.days))

abbrev pub decreases-loop-day : goal.decreases-loop-day
decreases-loop-day l = length l.rest
