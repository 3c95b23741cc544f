-- Queries on a level's world: whether work is left; and for the running job its files, its unread data cards and its cycle.
use Rattle.std.specs.Prelude.{◌≡◌, ℕ, Bool, true, false, ◌||◌, List, [], ◌∷◌, slice_range, Option, Some, None, is_some, Result}
use Rattle.s3_cycle.specs.declared.stepper.Stepper.{Stepper}
use Rattle.s3_cycle.specs.Inner.Following.{Follows}
use Rattle.s3_job_files.specs.Files.{JobFile}
use Rattle.s3_ocl.specs.declared.faults.FaultyJob.{FaultyJob}
use Rattle.s3_ocl.specs.Jobs.{Job}
use Rattle.s3_solo.specs.World.{World, JobAtWork}
use Rattle.s3_level.specs.declared.queries.DataCards.{DataCards}

-- some job of the deck hasn't begun
abbrev pub is_left : List (Result Job FaultyJob) → Bool
is_left [] = false
is_left (job ∷ jobs) = true

-- work is left: a job is running, or one hasn't begun
abbrev pub has_work : World → Bool
has_work w = is_some w.job || is_left w.deck.jobs

-- the files of the running job, if there is one
abbrev pub files_of : Option JobAtWork → List JobFile
files_of None = []
files_of (Some job) = job.files

-- the unread data cards of the running job are those between these places of the deck
abbrev pub AreUnread : Option DataCards → (deck : List (List ℕ)) → Option JobAtWork → Type 0
AreUnread None deck None = Unit {0}
AreUnread (Some unread) deck (Some job) = job.cards ≡ slice_range deck unread.next unread.end
AreUnread _ deck _ = ⊥

-- the cycle continues as the running job does
abbrev pub IsCycleOf : Option Stepper → World → Option JobAtWork → Type 0
IsCycleOf None w None = Unit {0}
IsCycleOf (Some cycle) w (Some job) = Follows job.source w.switches w.date job.past cycle
IsCycleOf _ w _ = ⊥
