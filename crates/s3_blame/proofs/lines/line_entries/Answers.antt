use Rattle.std.specs.Prelude.{IfOk, Result, Ok, Err}
use Rattle.std.proofs.lemmas.Result.{IfOk-weaker}
use Rattle.s3_lines.specs.declared.sheet.SheetLine.TheVariants as sheet
use Rattle.s3_blame.specs.Inner.Names.{names_known}
use Rattle.s3_blame.proofs.PartLemmas.{named_on}
use Rattle.s3_blame.proofs.lines.line_entries.Goals as goal

by_both : {X E : Type 0} (r : Result X E) (P Q R : X → Type 0) → ((x : X) → P x → Q x → R x) → IfOk r P → IfOk r Q → IfOk r R
by_both (Ok x) P Q R f p q = f x p q
by_both (Err e) P Q R f p q = tt

pub returns-in-File-clause-named : goal.returns-in-File-clause-named
returns-in-File-clause-named c = by_both c.file_entries.result _ _ _
    (λ found of own. named_on (names_known c.args.known.now) c.args.line.now (sheet.File c.in-File.file) c.args.number found.items c.in-File.is of (λ shut. own))
    c.file_entries.ensures.of c.file_entries.ensures.named

pub returns-in-Input-clause-named : goal.returns-in-Input-clause-named
returns-in-Input-clause-named c = by_both c.input_entries.result _ _ _
    (λ found of own. named_on (names_known c.args.known.now) c.args.line.now (sheet.Input c.in-Input.input) c.args.number found.items c.in-Input.is of own)
    c.input_entries.ensures.of c.input_entries.ensures.named

pub returns-in-Calculation-clause-named : goal.returns-in-Calculation-clause-named
returns-in-Calculation-clause-named c = by_both c.calculation_entries.result _ _ _
    (λ found of own. named_on (names_known c.args.known.now) c.args.line.now (sheet.Calculation c.in-Calculation.calculation) c.args.number found.items c.in-Calculation.is of own)
    c.calculation_entries.ensures.of c.calculation_entries.ensures.named

pub returns-in-Output-clause-named : goal.returns-in-Output-clause-named
returns-in-Output-clause-named c = by_both c.output_entries.result _ _ _
    (λ found of own. named_on (names_known c.args.known.now) c.args.line.now (sheet.Output c.in-Output.output) c.args.number found.items c.in-Output.is of own)
    c.output_entries.ensures.of c.output_entries.ensures.named
