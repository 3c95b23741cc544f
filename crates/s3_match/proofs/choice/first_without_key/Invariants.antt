use Rattle.std.proofs.Common.{◌≡◌, drop}
use Rattle.std.specs.List.{All}
use Rattle.s3_program.specs.declared.program.Program.{Program}
use Rattle.s3_match.specs.Inner.Heads.{IsInput}
use Rattle.s3_match.proofs.ChoiceLemmas.{keyless_in}
use Rattle.s3_match.proofs.choice.first_without_key.Given as goal

abbrev pub invariant-loop-place : goal.invariant-loop-place
invariant-loop-place l = (program : Program) → All (IsInput program) l.files → keyless_in program l.files ≡ keyless_in program (drop l.place l.files)
