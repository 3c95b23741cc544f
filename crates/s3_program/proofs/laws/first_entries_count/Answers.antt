use Rattle.std.proofs.Common.{[], refl}
use Rattle.s3_program.proofs.GivenLemmas.{first_found, all_distinct, first_shapes, reserved_first, distinct_first}
use Rattle.s3_program.proofs.laws.first_entries_count.Goals as goal

pub returns-clause-found : goal.returns-clause-found
returns-clause-found c = λ name entries. first_found name entries

pub returns-clause-distinct : goal.returns-clause-distinct
returns-clause-distinct c = λ entries. all_distinct [] entries refl

pub returns-clause-shapes : goal.returns-clause-shapes
returns-clause-shapes c = λ entries. first_shapes entries

pub returns-clause-reserved : goal.returns-clause-reserved
returns-clause-reserved c = λ entries. reserved_first entries

pub returns-clause-own : goal.returns-clause-own
returns-clause-own c = λ entries. distinct_first entries
