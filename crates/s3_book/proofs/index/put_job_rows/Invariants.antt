-- The texts so far.
use Rattle.std.proofs.Common.{◌≡◌, ◌++◌, take, vec_items}
use Rattle.std.specs.List.{flat_map}
use Rattle.s3_book.specs.Inner.Index.{job_text}
use Rattle.s3_book.proofs.index.put_job_rows.Given as goal

abbrev pub invariant-loop-job : goal.invariant-loop-job
invariant-loop-job l = vec_items l.text ≡ vec_items l.initial.text ++ flat_map job_text (take l.job-index l.jobs)
