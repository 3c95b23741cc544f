use Rattle.s3_job_files.proofs.OneFile.{by_key_stored, noted_sought, noted_there}
use Rattle.s3_job_files.proofs.file.OpenFile.get_noted.Goals as goal

pub get_noted-requires-clause-stored : goal.get_noted-requires-clause-stored
get_noted-requires-clause-stored g c = by_key_stored _ c.args.self.now.label c.args.self.now.records c.in-ByKey.file c.requires.usable c.in-ByKey.is

pub returns-clause-place : goal.returns-clause-place
returns-clause-place g c =
    noted_sought _ c.args.self.now.label c.args.self.now.records c.in-ByKey.file c.args.key.now c.get_noted.result c.requires.usable c.in-ByKey.is c.get_noted.ensures.place

pub returns-clause-got : goal.returns-clause-got
returns-clause-got g c = noted_there _ c.args.self.now.records c.in-ByKey.file c.get_noted.new.bytes c.get_noted.result c.in-ByKey.is c.get_noted.ensures.got
