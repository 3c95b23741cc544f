use Rattle.s3_sheets.proofs.Rows.{whole_accepted, whole_read}
use Rattle.s3_sheets.proofs.laws.every_entry_is_read.Goals as goal

pub returns-clause-accepted : goal.returns-clause-accepted
returns-clause-accepted c = whole_accepted

pub returns-clause-lines : goal.returns-clause-lines
returns-clause-lines c = whole_read
