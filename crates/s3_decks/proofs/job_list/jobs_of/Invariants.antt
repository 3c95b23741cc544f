-- The jobs so far, and those from here on.
use Rattle.std.proofs.Common.{◌≡◌, ◌-◌, ◌++◌, length, map, vec_items}
use Rattle.s3_ocl.specs.Streams.{jobs_from, jobs_within}
use Rattle.s3_decks.specs.Inner.Days.{said}
use Rattle.s3_decks.proofs.job_list.jobs_of.Given as goal

abbrev pub invariant-loop-job : goal.invariant-loop-job
invariant-loop-job l = jobs_from l.deck 0 ≡ map (λ entry. said entry.statements) (vec_items l.jobs) ++ jobs_within (length l.deck - l._job) l.deck l.place
