-- Results of calls on a deck: the place of the next job, and that job or its error, with its place in the deck.
use Rattle.std.specs.Prelude.{◌≡◌, ◌<◌, ◌≤◌, ℕ, List, Option, Some, None, Result, Ok, Err, length, nat_lt, if◌then◌else◌}
use Rattle.s3_ocl.specs.declared.faults.FaultyJob.{FaultyJob}
use Rattle.s3_ocl.specs.declared.jobs.OclFault.{OclFault}
use Rattle.s3_ocl.specs.declared.jobs.OclFault.TheVariants.{NoMemory, Faulty}
use Rattle.s3_ocl.specs.Jobs.{Job, next_job}

-- the place of the next job, from a place on; none if there is no further job
abbrev pub job_place : List (List ℕ) → ℕ → Option ℕ
job_place cards from = if nat_lt (next_job cards from) (length cards) then Some (next_job cards from) else None

-- the result is this job or its error, unless memory runs out
abbrev pub Gives : Result Job OclFault → Result Job FaultyJob → Type 0
Gives (Err NoMemory) meant = Unit {0}
Gives (Err (Faulty faulty)) meant = meant ≡ Err faulty
Gives (Ok job) meant = meant ≡ Ok job

-- a job that begins at a place, and its card in error, are within the deck
abbrev pub LiesWithin : List (List ℕ) → ℕ → Result Job OclFault → Type 0
LiesWithin cards place (Err NoMemory) = Unit {0}
LiesWithin cards place (Err (Faulty faulty)) =
    (place < faulty.card) × (faulty.card ≤ length cards) × (place < faulty.after) × (faulty.after ≤ length cards)
LiesWithin cards place (Ok job) =
    (place < job.data_from) × (job.data_from ≤ job.data_to) × (job.data_to ≤ job.after) × (job.after ≤ length cards)
