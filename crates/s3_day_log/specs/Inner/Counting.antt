-- Which job has printed which lines of a level.
use Rattle.std.specs.Prelude.{◌≡◌, ◌+◌, ◌-◌, ◌^◌, min, ℕ, Bool, true, false, List, ◌++◌, length, get_or, map, replicate, set}
use Rattle.s3_day_log.specs.declared.ledger.BegunJob.{BegunJob}

-- how many lines each job that was begun has printed
abbrev pub lines_of : List BegunJob → List ℕ
lines_of jobs = map (λ job. job.lines) jobs

-- so many lines more are the last job's; a count ends at the greatest number of 64 bits
abbrev pub with_more : ℕ → List ℕ → List ℕ
with_more new lines = set lines (length lines - 1) (min (get_or lines (length lines - 1) 0 + new) (2 ^ 64 - 1))

-- The lines of a level since it was looked at last. If a job was at work or halted then, they are that job's, and those that have begun
-- since have none yet. If not, they are the last one's of those that have begun since, or of the job before these if there is none.
abbrev pub lines_behind : (was_open : Bool) → (since begun : ℕ) → List ℕ → List ℕ
lines_behind true since begun lines = with_more since lines ++ replicate begun 0
lines_behind false since begun lines = with_more since (lines ++ replicate begun 0)

pub record CountsLines (was_open : Bool) (since : ℕ) (old new : List BegunJob) : Type 0 where
  pub begun : ℕ
  pub many : length new ≡ length old + begun
  pub lines : lines_of new ≡ lines_behind was_open since begun (lines_of old)

-- ---- steps
-- jobs begin without lines
pub record BeginsSilent (old new : List BegunJob) : Type 0 where
  pub count : ℕ
  pub many : length new ≡ length old + count
  pub lines : lines_of new ≡ lines_of old ++ replicate count 0
