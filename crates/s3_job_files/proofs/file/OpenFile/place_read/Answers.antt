use Rattle.s3_job_files.proofs.OneFile.{by_key_stored, read_by_key_if, read_in_order, read_past}
use Rattle.s3_job_files.proofs.file.OpenFile.place_read.Goals as goal

pub nth-requires-clause-stored : goal.nth-requires-clause-stored
nth-requires-clause-stored g c = by_key_stored _ c.args.self.now.label c.args.self.now.records c.in-ByKey.file c.requires.usable c.in-ByKey.is

pub returns-in-ByKey-clause-place : goal.returns-in-ByKey-clause-place
returns-in-ByKey-clause-place g c =
    read_by_key_if _ c.args.self.now.label c.args.self.now.records c.in-ByKey.file c.args.n c.nth.result c.requires.usable c.in-ByKey.is c.if-n-self.false c.nth.ensures.place

pub returns-in-InOrder-clause-place : goal.returns-in-InOrder-clause-place
returns-in-InOrder-clause-place g c = read_in_order _ c.args.self.now.label c.args.self.now.records c.in-InOrder.field-0 c.args.n c.requires.usable c.in-InOrder.is c.if-n-self.false

pub returns-then-n-self-clause-place : goal.returns-then-n-self-clause-place
returns-then-n-self-clause-place g c = read_past c.args.self.now.label _ c.args.n c.if-n-self.true
