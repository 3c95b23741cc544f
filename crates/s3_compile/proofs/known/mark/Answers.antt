use Rattle.std.proofs.Common.{◌≡◌, ◌∙◌, List, subst}
use Rattle.std.specs.Prelude.{OnOk}
use Rattle.s3_lines.specs.declared.sheet.InputLine.{InputLine}
use Rattle.s3_program.specs.declared.program.Meaning.{Meaning}
use Rattle.s3_program.specs.Matching.{marks_of}
use Rattle.s3_program.specs.Tables.{meaning_of}
use Rattle.s3_program.specs.Inner.Translation.{tables_in}
use Rattle.s3_diagnose.specs.Inner.Shown.{marks_shown}
use Rattle.s3_compile.proofs.Ranging.{ranged_meant_inputs}
use Rattle.s3_compile.proofs.known.mark.Goals as goal

pub fill_marks-requires : goal.fill_marks-requires
fill_marks-requires c =
    ranged_meant_inputs (meaning_of (tables_in c.args.known.now)) c.args.lines.now _ (c.deref.ensures.value ∙ c.in_ok-inputs.ensures) c.requires

pub returns : goal.returns
returns c =
    subst (λ (inputs : List (InputLine Meaning)). OnOk c.fill_marks.result (marks_shown c.fill_marks.new.tables ≡ marks_of inputs)) (c.deref.ensures.value ∙ c.in_ok-inputs.ensures) c.fill_marks.ensures
