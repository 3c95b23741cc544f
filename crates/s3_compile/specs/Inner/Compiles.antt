-- The result of compiling: a correct program for the lines, or their diagnostics.
use Rattle.std.specs.Prelude.{◌≡◌, ◌≢◌, ℕ, List, [], Result, Ok, Err}
use Rattle.s3_lines.specs.declared.sheet.Line.{Line}
use Rattle.s3_program.specs.declared.program.Program.{Program}
use Rattle.s3_program.specs.Inner.Translation.{StandsFor}
use Rattle.s3_diagnose.specs.Diagnostics.{compile_diagnostics}
use Rattle.s3_compile.specs.declared.compiler.CompileFault.{CompileFault}
use Rattle.s3_compile.specs.declared.compiler.CompileFault.TheVariants.{NoMemory, Diagnostics}

-- a correct program for lines without diagnostics; otherwise the diagnostics, unless memory runs out
abbrev pub Compiles : List Line → ℕ → Result Program CompileFault → Type 0
Compiles lines run_card (Ok program) = (compile_diagnostics run_card lines ≡ []) × StandsFor program lines
Compiles lines run_card (Err NoMemory) = Unit {0}
Compiles lines run_card (Err (Diagnostics found)) = (found.items ≢ []) × (found.items ≡ compile_diagnostics run_card lines)
