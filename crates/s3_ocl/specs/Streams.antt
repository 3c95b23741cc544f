-- The job stream of a list of cards.
use Rattle.std.specs.Prelude.{ℕ, zero, suc, List, [], ◌∷◌, Result, length, nat_lt, if◌then◌else◌}
use Rattle.s3_ocl.specs.declared.faults.FaultyJob.{FaultyJob}
use Rattle.s3_ocl.specs.Jobs.{Job, job_at, next_job, place_after}

-- the jobs from a place on, at most `turns` of them
unfoldable pub jobs_within : ℕ → List (List ℕ) → ℕ → List (Result Job FaultyJob)
jobs_within zero cards from = []
jobs_within (suc turns) cards from =
    if nat_lt (next_job cards from) (length cards)
    then job_at cards (next_job cards from) ∷ jobs_within turns cards (place_after (job_at cards (next_job cards from)))
    else []

-- the jobs from a place on
abbrev pub jobs_from : List (List ℕ) → ℕ → List (Result Job FaultyJob)
jobs_from cards from = jobs_within (length cards) cards from
