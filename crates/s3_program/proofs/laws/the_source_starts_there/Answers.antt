use Rattle.s3_program.proofs.StartedLemmas.{types_stand, outputs_stand}
use Rattle.s3_program.proofs.laws.the_source_starts_there.Goals as goal

pub returns-clause-types : goal.returns-clause-types
returns-clause-types c = λ program. types_stand program

pub returns-clause-outputs : goal.returns-clause-outputs
returns-clause-outputs c = λ program. outputs_stand program
