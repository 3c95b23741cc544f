use Rattle.s3_sheets.proofs.PartLemmas.{told_1, told_2, told_3, told_4, told_13}
use Rattle.s3_sheets.proofs.parts.numbers_stand_on_entries.Goals as goal

pub returns-clause-sheet : goal.returns-clause-sheet
returns-clause-sheet c = told_1

pub returns-clause-entry : goal.returns-clause-entry
returns-clause-entry c = told_2

pub returns-clause-name : goal.returns-clause-name
returns-clause-name c = told_3

pub returns-clause-number : goal.returns-clause-number
returns-clause-number c = told_4

pub returns-clause-many : goal.returns-clause-many
returns-clause-many c = told_13
