use Rattle.s3_load.proofs.ReadAgain.{unloaded_again, written_reads}
use Rattle.s3_load.proofs.table_laws.what_is_unloaded_is_loaded.Goals as goal

pub returns-clause-read : goal.returns-clause-read
returns-clause-read c = unloaded_again

pub returns-clause-written : goal.returns-clause-written
returns-clause-written c = written_reads
