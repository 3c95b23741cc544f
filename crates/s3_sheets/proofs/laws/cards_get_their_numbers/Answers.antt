use Rattle.s3_sheets.proofs.Rows.{order_rows_found, file_rows_1_found, file_rows_2_found, file_rows_3_found, record_rows_1_found, record_rows_2_found, field_rows_1_found, field_rows_2_found, calculation_rows_1_found, calculation_rows_2_found, calculation_rows_3_found, line_rows_1_found, line_rows_2_found, put_rows_1_found, put_rows_2_found, put_rows_3_found}
use Rattle.s3_sheets.proofs.laws.cards_get_their_numbers.Goals as goal

pub returns-clause-order : goal.returns-clause-order
returns-clause-order c = order_rows_found

pub returns-clause-file_1 : goal.returns-clause-file_1
returns-clause-file_1 c = file_rows_1_found

pub returns-clause-file_2 : goal.returns-clause-file_2
returns-clause-file_2 c = file_rows_2_found

pub returns-clause-file_3 : goal.returns-clause-file_3
returns-clause-file_3 c = file_rows_3_found

pub returns-clause-record_1 : goal.returns-clause-record_1
returns-clause-record_1 c = record_rows_1_found

pub returns-clause-record_2 : goal.returns-clause-record_2
returns-clause-record_2 c = record_rows_2_found

pub returns-clause-field_1 : goal.returns-clause-field_1
returns-clause-field_1 c = field_rows_1_found

pub returns-clause-field_2 : goal.returns-clause-field_2
returns-clause-field_2 c = field_rows_2_found

pub returns-clause-calculation_1 : goal.returns-clause-calculation_1
returns-clause-calculation_1 c = calculation_rows_1_found

pub returns-clause-calculation_2 : goal.returns-clause-calculation_2
returns-clause-calculation_2 c = calculation_rows_2_found

pub returns-clause-calculation_3 : goal.returns-clause-calculation_3
returns-clause-calculation_3 c = calculation_rows_3_found

pub returns-clause-line_1 : goal.returns-clause-line_1
returns-clause-line_1 c = line_rows_1_found

pub returns-clause-line_2 : goal.returns-clause-line_2
returns-clause-line_2 c = line_rows_2_found

pub returns-clause-put_1 : goal.returns-clause-put_1
returns-clause-put_1 c = put_rows_1_found

pub returns-clause-put_2 : goal.returns-clause-put_2
returns-clause-put_2 c = put_rows_2_found

pub returns-clause-put_3 : goal.returns-clause-put_3
returns-clause-put_3 c = put_rows_3_found
