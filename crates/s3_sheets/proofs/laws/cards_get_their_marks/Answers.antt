use Rattle.s3_sheets.proofs.MarkRows.{file_marks_found, field_marks_found, calculation_marks_found}
use Rattle.s3_sheets.proofs.laws.cards_get_their_marks.Goals as goal

pub returns-clause-file : goal.returns-clause-file
returns-clause-file c = file_marks_found

pub returns-clause-field : goal.returns-clause-field
returns-clause-field c = field_marks_found

pub returns-clause-calculation : goal.returns-clause-calculation
returns-clause-calculation c = calculation_marks_found
