use Rattle.s3_job_files.proofs.OneFile.{by_key_stored}
use Rattle.s3_job_files.proofs.file.OpenFile.add.Goals as goal

pub add-requires-clause-stored : goal.add-requires-clause-stored
add-requires-clause-stored g c = by_key_stored _ c.args.self.now.label c.args.self.now.records c.in-ByKey.file c.requires.usable c.in-ByKey.is
