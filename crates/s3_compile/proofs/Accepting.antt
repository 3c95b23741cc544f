-- Lines without diagnostics satisfy the requirements of translation.
use Rattle.std.proofs.Common.{◌≡◌, ℕ, List, [], Result, Ok, Err, IsErrAnd}
use Rattle.std.specs.Prelude.{IsTrue}
use Rattle.s3_lines.specs.declared.sheet.Line.{Line}
use Rattle.s3_lines.specs.Inner.Ranges.{are_read}
use Rattle.s3_program.specs.declared.definitions.Definitions.{Definitions}
use Rattle.s3_program.specs.Inner.Translation.{IsAccepted}
use Rattle.s3_diagnose.specs.Diagnostics.{compile_diagnostics}
use Rattle.s3_program.specs.declared.program.Program.{Program}
use Rattle.s3_compile.specs.declared.compiler.CompileFault.{CompileFault}
use Rattle.s3_compile.specs.declared.compiler.CompileFault.TheVariants.{NoMemory, Diagnostics}
use Rattle.s3_compile.specs.Inner.Compiles.{Compiles}
use Rattle.s3_compile.specs.Inner.Defines.{Defines}
use Rattle.s3_compile.proofs.Meanings.{meanings_shown}
use Rattle.s3_compile.proofs.Clearing.{clear_of_none}
use Rattle.s3_compile.proofs.Defining.{defined_of_clear}
use Rattle.s3_compile.proofs.Righting.{accepted_of_clear}

pub accepted_of_none : (run_card : ℕ) (known : Definitions) (lines : List Line) → Defines known lines → IsTrue (are_read lines) → compile_diagnostics run_card lines ≡ []
    → IsAccepted known lines
accepted_of_none run_card known lines defines read none =
    let same = meanings_shown known lines defines in
    let clear = clear_of_none run_card known lines same none in
    accepted_of_clear known lines defines (defined_of_clear known lines same clear) read clear

-- if memory runs out, the result claims nothing about the lines
pub without_memory : (lines : List Line) (run_card : ℕ) (result : Result Program CompileFault) → IsErrAnd result (λ fault. fault ≡ NoMemory) → Compiles lines run_card result
without_memory lines run_card (Ok program) fault = absurd fault
without_memory lines run_card (Err NoMemory) fault = tt
without_memory lines run_card (Err (Diagnostics found)) fault = cc
