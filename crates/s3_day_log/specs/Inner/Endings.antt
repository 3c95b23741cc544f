-- How the jobs of a day end.
use Rattle.std.specs.Prelude.{◌≡◌, ℕ, ◌==◌, ◌-◌, nat_le, Bool, true, false, not, ◌||◌, ◌&&◌, List, [], ◌∷◌, ◌++◌, length, drop, map, replicate, set, slice_get, Option, None, Some, is_some, if◌then◌else◌}
use Rattle.std.specs.List.{list_any}
use Rattle.s3_ocl.specs.Jobs.{place_after}
use Rattle.s3_decks.specs.declared.job_list.JobEntry.{JobEntry}
use Rattle.s3_decks.specs.Inner.Days.{said}
use Rattle.s3_solo.specs.World.{World}
use Rattle.s3_day_log.specs.declared.event.JobEnd.{JobEnd}
use Rattle.s3_day_log.specs.declared.event.JobEnd.TheVariants.{Ended, Replied, PassedOver}
use Rattle.s3_day_log.specs.declared.endings.LevelEnd.{LevelEnd}
use Rattle.s3_day_log.specs.declared.endings.LevelEnd.TheVariants.{Done, Halted, CutByTurns, CutByLines, Stopped, Unread}
use Rattle.s3_day_log.specs.declared.endings.Verdict.{Verdict}
use Rattle.s3_day_log.specs.declared.endings.Verdict.TheVariants.{Clean, Passed, Unfinished}
use Rattle.s3_day_log.specs.declared.which_pack.Standing.{Standing}
use Rattle.s3_day_log.specs.declared.which_pack.Standing.TheVariants.{First, Saved, Other}
use Rattle.s3_day_log.specs.declared.ledger.BegunJob.{BegunJob}
use Rattle.s3_operator.specs.Inner.Starts.{is_at_start}
use Rattle.s3_operator.specs.declared.halt_code.HaltCode.{HaltCode}
use Rattle.s3_operator.specs.Halts.{waiting}

-- how a job that is over ended, by the halt and the reply that ended it, if one did: a job that couldn't be started was passed over
abbrev pub end_of : Option (HaltCode × ℕ) → JobEnd
end_of None = Ended
end_of (Some (code, digit)) = if is_at_start code then PassedOver else Replied

-- The begun jobs after a reply to the last one's halt. After 0 the job continues; any other digit ends it, at once if it couldn't be
-- started.
abbrev pub behind_reply : (code : HaltCode) → (digit : ℕ) → List BegunJob → List BegunJob
behind_reply code digit jobs = if digit == 0 then jobs else on (slice_get jobs (length jobs - 1))
  where
    on : Option BegunJob → List BegunJob
    on None = jobs
    on (Some job) = set jobs (length jobs - 1) (record job { ending = Some (code, digit); is_over = job.is_over || is_at_start code })

-- whether the last job is at work or halted after such a reply
abbrev pub is_open_behind : (code : HaltCode) → (digit : ℕ) → Bool → Bool
is_open_behind code digit was_open = if digit == 0 then was_open else if is_at_start code then false else was_open

-- for each job that was begun, the halt and the reply that ended it, if a reply did
abbrev pub endings : List BegunJob → List (Option (HaltCode × ℕ))
endings jobs = map (λ job. job.ending) jobs

-- jobs have begun, which no reply has ended, and the jobs before them have ended as they had
pub record Begins (old new : List BegunJob) : Type 0 where
  pub count : ℕ
  pub begun : endings new ≡ endings old ++ replicate count None

-- ---- which jobs have begun, and which are over
-- for each job that was begun, whether it is over
abbrev pub overs : List BegunJob → List Bool
overs jobs = map (λ job. job.is_over) jobs

-- the last job is over, too
abbrev pub closed : List Bool → List Bool
closed before = set before (length before - 1) true

-- a job has begun if the place that the level has come to isn't before its end
abbrev pub has_begun : (place : ℕ) → JobEntry → Bool
has_begun place entry = nat_le (place_after (said entry.statements)) place

-- of the jobs that are left those have begun that come before the first one that hasn't, each after the one before it was over
abbrev pub begun_by : (place : ℕ) → (left : List JobEntry) → List Bool → List Bool
begun_by place [] before = before
begun_by place (entry ∷ left) before = if has_begun place entry then begun_by place left (closed before ++ false ∷ []) else before

-- whether there is a next job, and it has begun
abbrev pub has_begun_if_any : (place : ℕ) → Option JobEntry → Bool
has_begun_if_any place None = false
has_begun_if_any place (Some entry) = has_begun place entry

abbrev pub begins_next : (place : ℕ) → List JobEntry → (begun : ℕ) → Bool
begins_next place jobs begun = has_begun_if_any place (slice_get jobs begun)

abbrev pub same_bool : Bool → Bool → Bool
same_bool true other = other
same_bool false other = not other

-- the level is at the same place as before, and a job is at work or halted as before
abbrev pub stands_still : (old_place place : ℕ) → (was_open is_open : Bool) → Bool
stands_still old_place place was_open is_open = (old_place == place) && same_bool was_open is_open

-- Whether each job is over, after a look at a level. The last job isn't over if it runs or is halted.
abbrev pub overs_behind : (old_place place : ℕ) → (was_open is_open : Bool) → List JobEntry → List Bool → List Bool
overs_behind old_place place was_open is_open jobs before =
    if stands_still old_place place was_open is_open then before
    else (if is_open then begun_by place (drop (length before) jobs) before else closed (begun_by place (drop (length before) jobs) before))

-- a level's job is at work, or its halt waits
abbrev pub has_open_job : World → Bool
has_open_job w = is_some w.job || is_some (waiting w.halts)

-- a job was ended by a reply, or passed over
abbrev pub has_passed : List BegunJob → Bool
has_passed jobs = list_any (λ job. is_some job.ending) jobs

abbrev pub is_done : LevelEnd → Bool
is_done Done = true
is_done Halted = false
is_done CutByTurns = false
is_done CutByLines = false
is_done Stopped = false
is_done Unread = false

-- what became of a day, by how both levels ended and by the jobs that they began
abbrev pub verdict_of : (one two : LevelEnd) → (jobs1 jobs2 : List BegunJob) → Verdict
verdict_of one two jobs1 jobs2 = if is_done one && is_done two then (if has_passed jobs1 || has_passed jobs2 then Passed else Clean) else Unfinished

-- which pack of a logged day a pack is: the one that it was begun with, also if it has saved the same one; else the one that it saved
abbrev pub standing_of : (is_first is_saved : Bool) → Standing
standing_of is_first is_saved = if is_first then First else if is_saved then Saved else Other
