use Rattle.std.proofs.Common.{◌≡◌, ◌≢◌, ◌∙◌, ℕ, List, [], Err, sym, subst, slice_range}
use Rattle.s3_lines.specs.declared.diagnostic.Diagnostic.{Diagnostic}
use Rattle.s3_sheets.specs.Inner.Sheets.{Reads}
use Rattle.s3_sheets.specs.Sheets.{sheet_diagnostics}
use Rattle.s3_sheets.specs.declared.fault.SheetFault.{SheetFault}
use Rattle.s3_level.proofs.Compiling.{compiled_source, diagnosed_cards}
use Rattle.s3_level.specs.Inner.Holds.{HoldsParts}
use Rattle.s3_level.proofs.level.Level.compile.Goals as goal

pub returns-clause-world : goal.returns-clause-world
returns-clause-world c = λ s.
    compiled_source c.compile_lines.result c.args.number c.args.run_card c.args.from (slice_range c.args.self.now.deck c.args.from c.args.to)
    c.deref-2.result.now (HoldsParts c.args.self.now s) (HoldsParts c.compile_lines.new.self s)
    c.in-Ok.ensures.0 (c.deref-2.ensures.value ∙ c.in-Ok.ensures.1) (c.compile_lines.ensures.world s)

pub returns-in-Err-Diagnostics-clause-world : goal.returns-in-Err-Diagnostics-clause-world
returns-in-Err-Diagnostics-clause-world c = λ s.
    let cards : List (List ℕ) = slice_range c.args.self.now.deck c.args.from c.args.to in
    let given : (c.in-Err-Diagnostics.found.items ≢ []) × (c.in-Err-Diagnostics.found.items ≡ sheet_diagnostics c.args.from cards) =
    subst (λ (fault : SheetFault). Reads c.args.from cards (Err fault)) c.in-Err-Diagnostics.field-0-is c.in-Err-Diagnostics.ensures in
    let found = subst (λ (all : List Diagnostic). (all ≢ []) × (all ≡ sheet_diagnostics c.args.from cards)) (sym c.deref.ensures.value) given in
    diagnosed_cards c.show_diagnostics.result c.args.number c.args.run_card c.args.from cards c.deref.result.now (HoldsParts c.args.self.now s) (HoldsParts c.show_diagnostics.new.self s)
    found.0 found.1 (c.show_diagnostics.ensures.world s)
