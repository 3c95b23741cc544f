-- The days of the lines that are left, after those so far, if there were none before; and the lines that are left get fewer.
use Rattle.std.proofs.Common.{◌≡◌, [], length, map}
use denote.Text.{Utf8}
use denote.Shadow.{shadow}
use Rattle.s3_journal.specs.Inner.Days.{day_of}
use Rattle.s3_journal.proofs.JournalLemmas.{Followed}
use Rattle.s3_journal.proofs.reading.Lines.take_all.Given as goal

abbrev pub invariant-loop-line : goal.invariant-loop-line
invariant-loop-line l = shadow (Utf8 l.rest) × (l.fn.self.last.now ≡ [] → l.fn.self.days.items ≡ [] → Followed l.fn.text l.rest l.self.last.now (map day_of l.self.days.items))

abbrev pub decreases-loop-line : goal.decreases-loop-line
decreases-loop-line l = length l.rest
