-- The texts so far and of the jobs that are left are the texts of all.
use Rattle.std.proofs.Common.{◌≡◌, ◌++◌, drop, vec_items}
use Rattle.s3_book.specs.Inner.Index.{bars}
use Rattle.s3_book.proofs.index.put_bars.Given as goal

abbrev pub invariant-loop-job : goal.invariant-loop-job
invariant-loop-job l = vec_items l.text ++ bars l.turns l.edge (drop l.job-index l.jobs) ≡ vec_items l.initial.text ++ bars l.turns 0 l.jobs
