use Rattle.s3_job_files.proofs.OneFile.{in_order_stored, by_key_stored}
use Rattle.s3_job_files.proofs.file.OpenFile.append.Goals as goal

pub append-requires-clause-stored : goal.append-requires-clause-stored
append-requires-clause-stored g c = in_order_stored _ c.args.self.now.label c.args.self.now.records c.in-InOrder.file c.requires.usable c.in-InOrder.is

pub load-requires-clause-stored : goal.load-requires-clause-stored
load-requires-clause-stored g c = by_key_stored _ c.args.self.now.label c.args.self.now.records c.in-ByKey.file c.requires.usable c.in-ByKey.is
