use Rattle.s3_job_files.proofs.OneFile.{in_order_stored, by_key_stored}
use Rattle.s3_job_files.proofs.file.OpenFile.put.Goals as goal

pub put-requires-clause-stored : goal.put-requires-clause-stored
put-requires-clause-stored g c = in_order_stored _ c.args.self.now.label c.args.self.now.records c.in-InOrder.file c.requires.usable c.in-InOrder.is

pub replace-requires-clause-stored : goal.replace-requires-clause-stored
replace-requires-clause-stored g c = by_key_stored _ c.args.self.now.label c.args.self.now.records c.in-ByKey.file c.requires.usable c.in-ByKey.is
