-- Diagnostic 5: an undefined file, field, tag or subroutine, on each card that uses it.
-- Factors that an operation doesn't use aren't checked.
use Rattle.std.specs.Prelude.{Bool, true, false, ◌&&◌, ◌||◌, Option, Some, None}
use Rattle.std.specs.Option.{option_or}
use Rattle.s3_lines.specs.declared.sheet.InputLine.{InputLine}
use Rattle.s3_lines.specs.declared.sheet.InputLine.TheVariants.{Record}
use Rattle.s3_lines.specs.declared.sheet.Factor.{Factor}
use Rattle.s3_lines.specs.declared.sheet.Factor.TheVariants.{Named, Number, Text}
use Rattle.s3_lines.specs.declared.sheet.Operation.{Operation}
use Rattle.s3_lines.specs.declared.sheet.CalculationLine.{CalculationLine}
use Rattle.s3_lines.specs.declared.sheet.OutputContent.{OutputContent}
use Rattle.s3_lines.specs.declared.sheet.OutputContent.TheVariants.{Constant as ConstantContent, Field as FieldContent}
use Rattle.s3_lines.specs.declared.sheet.OutputLine.{OutputLine}
use Rattle.s3_lines.specs.declared.sheet.OutputLine.TheVariants.{Line as LineCard, Field as FieldCard}
use Rattle.s3_program.specs.declared.program.Meaning.{Meaning}
use Rattle.s3_program.specs.declared.program.Meaning.TheVariants as a
use Rattle.s3_program.specs.declared.row.Operand.{Operand}
use Rattle.s3_program.specs.declared.row.Operand.TheVariants as operand
use Rattle.s3_program.specs.declared.row.Target.{Target}
use Rattle.s3_program.specs.declared.row.Target.TheVariants as target
use Rattle.s3_program.specs.declared.row.Row.{Row}
use Rattle.s3_program.specs.declared.standing.OutputStanding.{OutputStanding}
use Rattle.s3_program.specs.Rows.{row_of}

abbrev pub is_undefined : Meaning → Bool
is_undefined a.Undefined = true
is_undefined (a.File file) = false
is_undefined (a.Field field) = false
is_undefined (a.Tag tag) = false
is_undefined (a.Subroutine subroutine) = false

abbrev pub is_undefined_entry : Option Meaning → Bool
is_undefined_entry None = false
is_undefined_entry (Some meaning) = is_undefined meaning

abbrev pub is_undefined_factor : Option (Factor Meaning) → Bool
is_undefined_factor None = false
is_undefined_factor (Some (Named meaning)) = is_undefined meaning
is_undefined_factor (Some (Number literal)) = false
is_undefined_factor (Some (Text literal)) = false

abbrev pub is_used : Operand → Bool
is_used operand.Nothing = false
is_used _ = true

abbrev pub is_target : Target → Bool
is_target target.Nothing = false
is_target _ = true

abbrev pub row_has_undefined : Row → CalculationLine Meaning → Bool
row_has_undefined row line =
    (is_used row.factor1 && is_undefined_factor line.factor1)
    || (is_used row.factor2 && is_undefined_factor line.factor2)
    || (is_target row.result && is_undefined_entry line.result)

abbrev pub calculation_undefined : CalculationLine Meaning → Bool
calculation_undefined line = on line.operation
  where
    on : Option Operation → Bool
    on None = false
    on (Some operation) = row_has_undefined (row_of operation) line

abbrev pub input_undefined : InputLine Meaning → Bool
input_undefined (Record file indicator codes) = is_undefined file
input_undefined _ = false

abbrev pub content_undefined : OutputContent Meaning → Bool
content_undefined (ConstantContent constant) = false
content_undefined (FieldContent field) = is_undefined field.name

abbrev pub output_undefined : OutputStanding → OutputLine Meaning → Bool
output_undefined at (LineCard card) = is_undefined_entry (option_or card.file at.file)
output_undefined at (FieldCard field) = content_undefined field.content
output_undefined at _ = false
