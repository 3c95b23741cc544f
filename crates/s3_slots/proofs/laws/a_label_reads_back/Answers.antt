use Rattle.s3_slots.proofs.ReadBack.{reads_back, reads_back_first}
use Rattle.s3_slots.proofs.laws.a_label_reads_back.Goals as goal

pub returns-clause-second : goal.returns-clause-second
returns-clause-second c = λ label is. reads_back label is

pub returns-clause-first : goal.returns-clause-first
returns-clause-first c = λ label is one. reads_back_first label is one
