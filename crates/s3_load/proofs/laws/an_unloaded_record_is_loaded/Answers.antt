use Rattle.s3_load.proofs.RowLaws.{unloaded_loaded}
use Rattle.s3_load.proofs.laws.an_unloaded_record_is_loaded.Goals as goal

pub returns : goal.returns
returns c = unloaded_loaded
