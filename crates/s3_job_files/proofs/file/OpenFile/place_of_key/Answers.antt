use Rattle.s3_job_files.proofs.OneFile.{by_key_stored}
use Rattle.s3_job_files.proofs.file.OpenFile.place_of_key.Goals as goal

pub find-requires-clause-stored : goal.find-requires-clause-stored
find-requires-clause-stored g c = by_key_stored _ c.args.self.now.label c.args.self.now.records c.in-ByKey.file c.requires.usable c.in-ByKey.is
