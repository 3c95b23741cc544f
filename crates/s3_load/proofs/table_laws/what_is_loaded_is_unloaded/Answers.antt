use Rattle.s3_load.proofs.LoadedFiles.{loaded_unloaded}
use Rattle.s3_load.proofs.table_laws.what_is_loaded_is_unloaded.Goals as goal

pub returns : goal.returns
returns c = loaded_unloaded
