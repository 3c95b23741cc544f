use Rattle.s3_match.proofs.AnswerLemmas.{record_counted, record_stands, record_out_of_sequence, record_unidentified, file_ended}
use Rattle.s3_match.proofs.laws.an_answer_stands_at_its_file.Goals as goal

pub returns-clause-counted : goal.returns-clause-counted
returns-clause-counted c = record_counted

pub returns-clause-stands : goal.returns-clause-stands
returns-clause-stands c = record_stands

pub returns-clause-out_of_sequence : goal.returns-clause-out_of_sequence
returns-clause-out_of_sequence c = record_out_of_sequence

pub returns-clause-unidentified : goal.returns-clause-unidentified
returns-clause-unidentified c = record_unidentified

pub returns-clause-ended : goal.returns-clause-ended
returns-clause-ended c = file_ended
