use Rattle.s3_program.specs.declared.program.Program.{Program}
use Rattle.s3_match.specs.Inner.Selecting.{inputs_of}
use Rattle.s3_match.specs.Inner.Reading.{AreRead}
use Rattle.s3_match.proofs.reading.Reading.first_unread_from.Given as goal

abbrev pub invariant-loop-place : goal.invariant-loop-place
invariant-loop-place l = (program : Program) → AreRead (inputs_of program l.self.files.items) l.from l.place
