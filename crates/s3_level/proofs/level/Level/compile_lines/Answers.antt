use Rattle.std.proofs.Common.{◌≡◌, ◌≢◌, List, [], Err, sym, subst}
use Rattle.s3_lines.specs.declared.diagnostic.Diagnostic.{Diagnostic}
use Rattle.s3_diagnose.specs.Diagnostics.{compile_diagnostics}
use Rattle.s3_compile.specs.Inner.Compiles.{Compiles}
use Rattle.s3_compile.specs.declared.compiler.CompileFault.{CompileFault}
use Rattle.s3_level.proofs.Compiling.{diagnosed_source, stocked_source}
use Rattle.s3_level.specs.Inner.Holds.{HoldsParts}
use Rattle.s3_level.proofs.level.Level.compile_lines.Goals as goal

pub returns-in-Ok-clause-world : goal.returns-in-Ok-clause-world
returns-in-Ok-clause-world c = λ s.
    stocked_source c.stock.result c.args.number c.args.run_card c.args.lines.now c.in-Ok.program (HoldsParts c.args.self.now s) (HoldsParts c.stock.new.self s) c.in-Ok.ensures.0 c.in-Ok.ensures.1 (c.stock.ensures.world s)

pub returns-in-Err-Diagnostics-clause-world : goal.returns-in-Err-Diagnostics-clause-world
returns-in-Err-Diagnostics-clause-world c = λ s.
    let given : (c.in-Err-Diagnostics.found.items ≢ []) × (c.in-Err-Diagnostics.found.items ≡ compile_diagnostics c.args.run_card c.args.lines.now) =
    subst (λ (fault : CompileFault). Compiles c.args.lines.now c.args.run_card (Err fault)) c.in-Err-Diagnostics.field-0-is c.in-Err-Diagnostics.ensures in
    let found = subst (λ (all : List Diagnostic). (all ≢ []) × (all ≡ compile_diagnostics c.args.run_card c.args.lines.now)) (sym c.deref.ensures.value) given in
    diagnosed_source c.show_diagnostics.result c.args.number c.args.run_card c.args.lines.now c.deref.result.now (HoldsParts c.args.self.now s) (HoldsParts c.show_diagnostics.new.self s)
    found.0 found.1 (c.show_diagnostics.ensures.world s)
