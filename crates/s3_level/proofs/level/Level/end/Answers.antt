use Rattle.s3_level.proofs.Leaving.{leaves_err, leaves_ok}
use Rattle.s3_level.proofs.level.Level.end.Goals as goal

pub returns-in_err-end_job-clause-leaves : goal.returns-in_err-end_job-clause-leaves
returns-in_err-end_job-clause-leaves g c = leaves_err c.from_residual.result c.from_residual.ensures.1 c.in_err-end_job.ensures.leaves

pub returns-clause-leaves : goal.returns-clause-leaves
returns-clause-leaves g c = leaves_ok _ c.in_ok-end_job.ensures.leaves
