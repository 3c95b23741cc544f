use Rattle.s3_cells.proofs.CellLaws.{shown_again, shown_held}
use Rattle.s3_cells.proofs.laws.what_is_shown_is_taken.Goals as goal

pub returns-clause-held : goal.returns-clause-held
returns-clause-held c = shown_held

pub returns-clause-bytes : goal.returns-clause-bytes
returns-clause-bytes c = shown_again
