use Rattle.s3_job_files.proofs.Packs.{pack_changed}
use Rattle.s3_level.proofs.Requests.{updates_told}
use Rattle.s3_level.proofs.job.change.Goals as goal

pub returns-clause-serves : goal.returns-clause-serves
returns-clause-serves g c =
    updates_told c.update.result _ c.codes.result.now c.marks.result.now c.args.changes.now c.args.place _ _ c.codes.ensures c.marks.ensures c.update.ensures.serves

pub returns-clause-pack : goal.returns-clause-pack
returns-clause-pack g c = pack_changed c.update.result c.update.ensures.pack c.update.ensures.areas c.update.ensures.spares c.update.ensures.says c.update.ensures.failures
