use Rattle.std.proofs.Common.{◌-◌, length}
use Rattle.s3_ocl.proofs.JobLemmas.{JobSoFar}
use Rattle.s3_ocl.proofs.jobs.read_job.Given as goal

abbrev pub invariant-loop-pieces : goal.invariant-loop-pieces
invariant-loop-pieces l = JobSoFar l.cards l.start l.place l.contents

abbrev pub decreases-loop-pieces : goal.decreases-loop-pieces
decreases-loop-pieces l = length l.cards - l.place
