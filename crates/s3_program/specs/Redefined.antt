-- Diagnostic 6: a file, tag or subroutine defined twice, a field with two kinds, lengths or decimals, or a reserved field defined or
-- changed. PAGE may be changed; its first definition has 4 digits and 0 decimals, which others must repeat.
use Rattle.std.specs.Prelude.{ℕ, ◌+◌, ◌-◌, ◌==◌, Bool, false, not, ◌&&◌, ◌||◌, Option, Some, None}
use Rattle.s3_cards.specs.declared.name.Name.{Name}
use Rattle.s3_cards.specs.Names.{same_name}
use Rattle.s3_lines.specs.Reserved.{is_reserved, page}
use Rattle.s3_lines.specs.declared.sheet.FileLine.{FileLine}
use Rattle.s3_lines.specs.declared.sheet.InputLine.{InputLine}
use Rattle.s3_lines.specs.declared.sheet.InputLine.TheVariants.{Field as FieldOfRecord}
use Rattle.s3_lines.specs.declared.sheet.FieldLine.{FieldLine}
use Rattle.s3_lines.specs.declared.sheet.Shape.{Shape}
use Rattle.s3_lines.specs.declared.sheet.Factor.{Factor}
use Rattle.s3_lines.specs.declared.sheet.Factor.TheVariants.{Named}
use Rattle.s3_lines.specs.declared.sheet.Operation.{Operation}
use Rattle.s3_lines.specs.declared.sheet.Operation.TheVariants as op
use Rattle.s3_lines.specs.declared.sheet.CalculationLine.{CalculationLine}
use Rattle.s3_meaning.specs.Source.{field_shape}
use Rattle.s3_program.specs.declared.program.Meaning.{Meaning}
use Rattle.s3_program.specs.declared.program.Meaning.TheVariants as a
use Rattle.s3_program.specs.declared.standing.FileStanding.{FileStanding}
use Rattle.s3_program.specs.declared.standing.CalculationStanding.{CalculationStanding}
use Rattle.s3_program.specs.Rows.{row_of}
use Rattle.s3_program.specs.Shapes.{same_shape}
use Rattle.s3_program.specs.Undefined.{is_target}

-- a field of the date: UDATE, UMONTH, UDAY or UYEAR
abbrev pub is_date : Name → Bool
is_date name = is_reserved name && not (same_name name page)

abbrev pub is_elsewhere : (place : ℕ) → Option ℕ → Bool
is_elsewhere place None = false
is_elsewhere place (Some first) = not (first == place)

-- an earlier file has this name; `first` gives the place of the first file of a name
abbrev pub file_redefined : (first : Name → Option ℕ) → FileStanding → FileLine → Bool
file_redefined first at file = is_elsewhere at.place (first file.name)

-- a line gives a field another shape than its first definition does, or any shape to a field of the date
abbrev pub is_reshaped : Shape → Meaning → Bool
is_reshaped shape (a.Field field) = is_date field.name || not (same_shape field.meaning shape)
is_reshaped shape _ = false

abbrev pub positions_of : {N : Type 0} → FieldLine N → ℕ
positions_of field = field.to + 1 - field.from

abbrev pub shape_of_field : {N : Type 0} → FieldLine N → Shape
shape_of_field field = field_shape field.form (positions_of field)

abbrev pub input_redefined : InputLine Meaning → Bool
input_redefined (FieldOfRecord field) = is_reshaped (shape_of_field field) field.name
input_redefined _ = false

abbrev pub is_date_meant : Meaning → Bool
is_date_meant (a.Field field) = is_date field.name
is_date_meant _ = false

-- a line redefines its result's shape, or changes a field of the date
abbrev pub result_redefined : Operation → Option Shape → Option Meaning → Bool
result_redefined operation definition None = false
result_redefined operation (Some shape) (Some meaning) = is_reshaped shape meaning
result_redefined operation None (Some meaning) = is_target (row_of operation).result && is_date_meant meaning

abbrev pub is_second_tag : (place : ℕ) → Meaning → Bool
is_second_tag place (a.Tag tag) = not (tag.place == place)
is_second_tag place _ = false

abbrev pub is_second_subroutine : (place : ℕ) → Meaning → Bool
is_second_subroutine place (a.Subroutine subroutine) = not (subroutine.place == place)
is_second_subroutine place _ = false

-- a TAG or BEGSR whose name an earlier line has
abbrev pub name_redefined : (place : ℕ) → Operation → Meaning → Bool
name_redefined place op.Tag meaning = is_second_tag place meaning
name_redefined place op.BeginSubroutine meaning = is_second_subroutine place meaning
name_redefined place operation meaning = false

abbrev pub label_redefined : (place : ℕ) → Operation → Option (Factor Meaning) → Bool
label_redefined place operation (Some (Named meaning)) = name_redefined place operation meaning
label_redefined place operation _ = false

-- an unknown operation isn't checked; a line without operation defines nothing
abbrev pub calculation_redefined : CalculationStanding → CalculationLine Meaning → Bool
calculation_redefined at line = on line.operation
  where
    on : Option Operation → Bool
    on None = false
    on (Some op.Unknown) = false
    on (Some operation) = label_redefined at.place operation line.factor1 || result_redefined operation line.definition line.result
