use Rattle.s3_job_files.proofs.Packs.{pack_closed}
use Rattle.s3_level.proofs.job.OpenJob.close.Goals as goal

pub returns-clause-pack : goal.returns-clause-pack
returns-clause-pack g c = pack_closed c.close.result c.close.ensures.pack c.close.ensures.others c.close.ensures.spares c.close.ensures.says c.close.ensures.failures
