use Rattle.s3_cells.proofs.CellLaws.{taken_back, taken_shown}
use Rattle.s3_cells.proofs.laws.what_is_taken_is_shown.Goals as goal

pub returns-clause-shown : goal.returns-clause-shown
returns-clause-shown c = taken_shown

pub returns-clause-value : goal.returns-clause-value
returns-clause-value c = taken_back
