-- Diagnostic 8: an unknown operation, or an operand that is missing, surplus or of the wrong kind. Operands are factors, result, H and
-- resulting indicators. It also covers an edit code that doesn't fit its field, a packed text, and a field that would begin before position
-- 1. An undefined name passes as any kind: it gets only diagnostic 5.
use Rattle.std.specs.Prelude.{ℕ, ◌+◌, ◌/◌, ◌==◌, nat_le, Bool, true, false, not, ◌&&◌, ◌||◌, List, [], ◌∷◌, Option, Some, None, is_some, is_none}
use Rattle.std.specs.List.{list_any}
use Rattle.s3_lines.specs.declared.indicator.Indicator.{Indicator}
use Rattle.s3_lines.specs.declared.sheet.KeyField.{KeyField}
use Rattle.s3_lines.specs.declared.sheet.FieldForm.{FieldForm}
use Rattle.s3_lines.specs.declared.sheet.FieldForm.TheVariants.{PackedText}
use Rattle.s3_lines.specs.declared.sheet.InputLine.{InputLine}
use Rattle.s3_lines.specs.declared.sheet.InputLine.TheVariants.{Field as FieldOfRecord}
use Rattle.s3_lines.specs.declared.sheet.Shape.{Shape}
use Rattle.s3_lines.specs.declared.sheet.Shape.TheVariants.{Alphanumeric, Numeric}
use Rattle.s3_lines.specs.declared.sheet.Factor.{Factor}
use Rattle.s3_lines.specs.declared.sheet.Factor.TheVariants.{Named, Number, Text}
use Rattle.s3_lines.specs.declared.sheet.Operation.{Operation}
use Rattle.s3_lines.specs.declared.sheet.Operation.TheVariants.{Unknown}
use Rattle.s3_lines.specs.declared.sheet.CalculationLine.{CalculationLine}
use Rattle.s3_lines.specs.declared.sheet.OutputForm.{OutputForm}
use Rattle.s3_lines.specs.declared.sheet.OutputForm.TheVariants.{Plain, Packed, Edited}
use Rattle.s3_lines.specs.declared.sheet.OutputContent.{OutputContent}
use Rattle.s3_lines.specs.declared.sheet.OutputContent.TheVariants.{Constant as ConstantContent, Field as FieldContent}
use Rattle.s3_lines.specs.declared.sheet.OutputLine.{OutputLine}
use Rattle.s3_lines.specs.declared.sheet.OutputLine.TheVariants.{Field as FieldCard}
use Rattle.s3_lines.specs.Files.{is_chained}
use Rattle.s3_edit.specs.Picture.{width_of}
use Rattle.s3_program.specs.declared.program.Meaning.{Meaning}
use Rattle.s3_program.specs.declared.program.Meaning.TheVariants as a
use Rattle.s3_program.specs.declared.row.Operand.{Operand}
use Rattle.s3_program.specs.declared.row.Operand.TheVariants as operand
use Rattle.s3_program.specs.declared.row.Target.{Target}
use Rattle.s3_program.specs.declared.row.Target.TheVariants as target
use Rattle.s3_program.specs.declared.row.Marking.{Marking}
use Rattle.s3_program.specs.declared.row.Marking.TheVariants as marking
use Rattle.s3_program.specs.declared.row.Pairing.{Pairing}
use Rattle.s3_program.specs.declared.row.Pairing.TheVariants as pairing
use Rattle.s3_program.specs.declared.row.Row.{Row}
use Rattle.s3_program.specs.Shapes.{shape_meant, is_numeric_shape, is_text_shape}
use Rattle.s3_program.specs.Undefined.{is_undefined}
use Rattle.s3_program.specs.Rows.{row_of}

-- ---- factors and results
abbrev pub is_number : Factor Meaning → Bool
is_number (Named meaning) = is_numeric_shape (shape_meant meaning)
is_number (Number literal) = true
is_number (Text literal) = false

abbrev pub is_text : Factor Meaning → Bool
is_text (Named meaning) = is_text_shape (shape_meant meaning)
is_text (Number literal) = false
is_text (Text literal) = true

abbrev pub is_unknown_factor : Factor Meaning → Bool
is_unknown_factor (Named meaning) = is_undefined meaning
is_unknown_factor (Number literal) = false
is_unknown_factor (Text literal) = false

abbrev pub is_tag : Factor Meaning → Bool
is_tag (Named (a.Tag tag)) = true
is_tag _ = false

abbrev pub is_subroutine : Factor Meaning → Bool
is_subroutine (Named (a.Subroutine subroutine)) = true
is_subroutine _ = false

abbrev pub is_chained_meaning : Meaning → Bool
is_chained_meaning (a.File file) = is_chained file.designation
is_chained_meaning _ = false

abbrev pub is_chained_file : Factor Meaning → Bool
is_chained_file (Named meaning) = is_chained_meaning meaning
is_chained_file _ = false

-- a given factor has the required kind
abbrev pub is_of_kind : Operand → Factor Meaning → Bool
is_of_kind operand.Nothing factor = false
is_of_kind operand.Number factor = is_unknown_factor factor || is_number factor
is_of_kind operand.Text factor = is_unknown_factor factor || is_text factor
is_of_kind operand.Value factor = is_unknown_factor factor || is_number factor || is_text factor
is_of_kind operand.Tag factor = is_unknown_factor factor || is_tag factor
is_of_kind operand.Subroutine factor = is_unknown_factor factor || is_subroutine factor
is_of_kind operand.ChainedFile factor = is_unknown_factor factor || is_chained_file factor

abbrev pub is_absent_allowed : Operand → Bool
is_absent_allowed operand.Nothing = true
is_absent_allowed _ = false

abbrev pub factor_fits : Operand → Option (Factor Meaning) → Bool
factor_fits operand None = is_absent_allowed operand
factor_fits operand (Some factor) = is_of_kind operand factor

-- a given result has the required kind
abbrev pub result_is_of_kind : Target → Meaning → Bool
result_is_of_kind target.Nothing meaning = false
result_is_of_kind target.Number meaning = is_undefined meaning || is_numeric_shape (shape_meant meaning)
result_is_of_kind target.Text meaning = is_undefined meaning || is_text_shape (shape_meant meaning)
result_is_of_kind target.Any meaning = true

abbrev pub is_no_target : Target → Bool
is_no_target target.Nothing = true
is_no_target _ = false

abbrev pub result_fits : Target → Option Meaning → Bool
result_fits target None = is_no_target target
result_fits target (Some meaning) = result_is_of_kind target meaning

-- ---- resulting indicators
abbrev pub are_blank : List (Option Indicator) → Bool
are_blank indicators = not (list_any is_some indicators)

abbrev pub behind_first : List (Option Indicator) → List (Option Indicator)
behind_first [] = []
behind_first (indicator ∷ indicators) = indicators

abbrev pub indicators_fit : Marking → List (Option Indicator) → Bool
indicators_fit marking.Never indicators = are_blank indicators
indicators_fit marking.Optional indicators = true
indicators_fit marking.Needed indicators = not (are_blank indicators)
indicators_fit marking.First indicators = are_blank (behind_first indicators)

-- ---- two factors
abbrev pub are_mixed : Factor Meaning → Factor Meaning → Bool
are_mixed one two = (is_number one && is_text two) || (is_text one && is_number two)

-- A key: in an indexed file a text or number of the file's key length; otherwise a number without decimals.
abbrev pub shape_is_key : Option KeyField → Shape → Bool
shape_is_key (Some key) (Alphanumeric length) = length == key.length
shape_is_key (Some key) (Numeric digits decimals) = digits == key.length
shape_is_key None (Alphanumeric length) = false
shape_is_key None (Numeric digits decimals) = decimals == 0

abbrev pub shape_of_factor : Factor Meaning → Option Shape
shape_of_factor (Named meaning) = shape_meant meaning
shape_of_factor (Number literal) = Some (Numeric literal.digits literal.decimals)
shape_of_factor (Text literal) = Some (Alphanumeric literal.length)

abbrev pub is_no_key : Option KeyField → Option Shape → Bool
is_no_key key None = false
is_no_key key (Some shape) = not (shape_is_key key shape)

abbrev pub is_no_key_meant : Factor Meaning → Meaning → Bool
is_no_key_meant key (a.File file) = is_no_key file.key (shape_of_factor key)
is_no_key_meant key _ = false

abbrev pub is_no_key_of : Factor Meaning → Factor Meaning → Bool
is_no_key_of key (Named meaning) = is_no_key_meant key meaning
is_no_key_of key _ = false

abbrev pub both_fit : Pairing → Factor Meaning → Factor Meaning → Bool
both_fit pairing.Free one two = true
both_fit pairing.Alike one two = not (are_mixed one two)
both_fit pairing.KeyOfFile one two = not (is_no_key_of one two)

abbrev pub pair_fits : Pairing → Option (Factor Meaning) → Option (Factor Meaning) → Bool
pair_fits pairing (Some one) (Some two) = both_fit pairing one two
pair_fits pairing _ _ = true

-- ---- a line with an operation
abbrev pub row_fits : Row → CalculationLine Meaning → Bool
row_fits row line =
    factor_fits row.factor1 line.factor1
    && factor_fits row.factor2 line.factor2
    && result_fits row.result line.result
    && (is_none line.definition || is_some line.result)
    && (row.half_adjust || not line.half_adjust)
    && indicators_fit row.indicators line.indicators
    && pair_fits row.pairing line.factor1 line.factor2

-- a line without operation may have only conditions
abbrev pub is_bare : CalculationLine Meaning → Bool
is_bare line =
    is_none line.factor1 && is_none line.factor2 && is_none line.result && is_none line.definition && not line.half_adjust && are_blank line.indicators

-- `is_cut` means that lines follow, but no AN or OR line continues this line without operation
abbrev pub calculation_unfit : (is_cut : Bool) → CalculationLine Meaning → Bool
calculation_unfit is_cut line = on line.operation
  where
    on : Option Operation → Bool
    on None = is_cut || not (is_bare line)
    on (Some Unknown) = true
    on (Some operation) = not (row_fits (row_of operation) line)

-- ---- fields of records
abbrev pub is_packed_text : FieldForm → Bool
is_packed_text PackedText = true
is_packed_text _ = false

abbrev pub input_unfit : InputLine Meaning → Bool
input_unfit (FieldOfRecord field) = is_packed_text field.form
input_unfit _ = false

-- ---- output fields
abbrev pub is_within_end : (end : ℕ) → Option ℕ → Bool
is_within_end end (Some width) = nat_le width end
is_within_end end None = false

-- the bytes of a packed number of this many digits
abbrev pub packed_width : ℕ → ℕ
packed_width digits = digits / 2 + 1

-- the field has the kind that its form requires, and begins at position 1 or later
abbrev pub text_fits : OutputForm → (length end : ℕ) → Bool
text_fits Plain length end = nat_le length end
text_fits Packed length end = false
text_fits (Edited code) length end = false

abbrev pub number_fits : OutputForm → (digits decimals end : ℕ) → Bool
number_fits Plain digits decimals end = nat_le digits end
number_fits Packed digits decimals end = nat_le (packed_width digits) end
number_fits (Edited code) digits decimals end = is_within_end end (width_of code digits decimals)

abbrev pub form_fits : OutputForm → Shape → (end : ℕ) → Bool
form_fits form (Alphanumeric length) end = text_fits form length end
form_fits form (Numeric digits decimals) end = number_fits form digits decimals end

abbrev pub field_put_fits : OutputForm → Option Shape → (end : ℕ) → Bool
field_put_fits form None end = true
field_put_fits form (Some shape) end = form_fits form shape end

abbrev pub content_fits : OutputContent Meaning → (end : ℕ) → Bool
content_fits (ConstantContent constant) end = true
content_fits (FieldContent field) end = field_put_fits field.form (shape_meant field.name) end

abbrev pub output_unfit : OutputLine Meaning → Bool
output_unfit (FieldCard field) = not (content_fits field.content field.end)
output_unfit _ = false
