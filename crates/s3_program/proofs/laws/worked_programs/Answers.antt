use Rattle.s3_program.proofs.Worked.{whole_valid, slots_refused, tables_refused, lines_refused}
use Rattle.s3_program.proofs.laws.worked_programs.Goals as goal

pub returns-clause-valid : goal.returns-clause-valid
returns-clause-valid c = whole_valid

pub returns-clause-slots : goal.returns-clause-slots
returns-clause-slots c = slots_refused

pub returns-clause-tables : goal.returns-clause-tables
returns-clause-tables c = tables_refused

pub returns-clause-lines : goal.returns-clause-lines
returns-clause-lines c = lines_refused
