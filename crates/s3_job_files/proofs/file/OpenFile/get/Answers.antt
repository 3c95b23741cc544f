use Rattle.s3_job_files.proofs.OneFile.{in_order_stored, by_key_stored}
use Rattle.s3_job_files.proofs.file.OpenFile.get.Goals as goal

pub get-requires-clause-stored : goal.get-requires-clause-stored
get-requires-clause-stored g c = in_order_stored _ c.args.self.now.label c.args.self.now.records c.in-InOrder.file c.requires.usable c.in-InOrder.is

pub get-requires-in-ByKey-clause-stored : goal.get-requires-in-ByKey-clause-stored
get-requires-in-ByKey-clause-stored g c = by_key_stored _ c.args.self.now.label c.args.self.now.records c.in-ByKey.file c.requires.usable c.in-ByKey.is
