use Rattle.s3_load.proofs.RowLaws.{loaded_shown, loaded_values}
use Rattle.s3_load.proofs.laws.a_loaded_row_is_unloaded.Goals as goal

pub returns-clause-shown : goal.returns-clause-shown
returns-clause-shown c = loaded_shown

pub returns-clause-values : goal.returns-clause-values
returns-clause-values c = loaded_values
