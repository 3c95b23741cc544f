-- The events of the lines that are left, after those so far; and the lines that are left get fewer.
use Rattle.std.proofs.Common.{length}
use denote.Text.{Utf8}
use denote.Shadow.{shadow}
use Rattle.s3_day_log.specs.Inner.Logged.{log_in}
use Rattle.s3_day_log.proofs.LogLemmas.{Followed}
use Rattle.s3_day_log.proofs.day_log.DayLog.read_rest.Given as goal

abbrev pub invariant-loop-line : goal.invariant-loop-line
invariant-loop-line l = shadow (Utf8 l.rest) × Followed l.fn.text l.rest (log_in l.fn.self) (log_in l.self) l.number

abbrev pub decreases-loop-line : goal.decreases-loop-line
decreases-loop-line l = length l.rest
