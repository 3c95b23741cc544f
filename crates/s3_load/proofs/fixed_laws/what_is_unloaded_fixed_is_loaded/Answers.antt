use Rattle.s3_load.proofs.FixedLaws.{written_loaded, written_read}
use Rattle.s3_load.proofs.fixed_laws.what_is_unloaded_fixed_is_loaded.Goals as goal

pub returns-clause-read : goal.returns-clause-read
returns-clause-read c = written_read

pub returns-clause-loaded : goal.returns-clause-loaded
returns-clause-loaded c = written_loaded
