-- The list of jobs from a place on, as a relation, and its uniqueness.
use Rattle.std.specs.Prelude.{◌≡◌, ◌<◌, ◌≤◌, ℕ, List, [], ◌∷◌, Result, length}
use Rattle.s3_ocl.specs.declared.faults.FaultyJob.{FaultyJob}
use Rattle.s3_ocl.specs.Jobs.{Job, job_at, next_job, place_after}
use Rattle.s3_ocl.specs.Streams.{jobs_from}

-- The jobs from a place on. There are none if only separators follow; otherwise separators, a job, and the jobs after it follow.
pub data Stream (cards : List (List ℕ)) : ℕ → List (Result Job FaultyJob) → Type 0 where
  ends : (from : ℕ) → length cards ≤ next_job cards from → Stream cards from []
  next : (from : ℕ) (jobs : List (Result Job FaultyJob)) → next_job cards from < length cards
      → Stream cards (place_after (job_at cards (next_job cards from))) jobs
      → Stream cards from (job_at cards (next_job cards from) ∷ jobs)

-- for all cards and places, exactly one list of jobs satisfies the relation
abbrev pub OneStream : Type 0
OneStream =
    (cards : List (List ℕ)) (from : ℕ)
    → Stream cards from (jobs_from cards from) × ((jobs : List (Result Job FaultyJob)) → Stream cards from jobs → jobs ≡ jobs_from cards from)
