-- Diagnostic 7: an indicator in a place where it isn't allowed, or a field record relation to an indicator not of its group.
use Rattle.std.specs.Prelude.{ℕ, Bool, true, false, not, ◌&&◌, ◌||◌, List, Option, Some, None, slice_get}
use Rattle.std.specs.List.{list_any}
use Rattle.s3_lines.specs.declared.indicator.Indicator.{Indicator}
use Rattle.s3_lines.specs.declared.indicator.Indicator.TheVariants.{Overflow}
use Rattle.s3_lines.specs.declared.sheet.FieldForm.{FieldForm}
use Rattle.s3_lines.specs.declared.sheet.FieldForm.TheVariants.{Alphanumeric, Zoned, Packed, PackedText}
use Rattle.s3_lines.specs.declared.sheet.InputLine.{InputLine}
use Rattle.s3_lines.specs.declared.sheet.InputLine.TheVariants.{Field as FieldOfRecord}
use Rattle.s3_lines.specs.declared.sheet.Operation.{Operation}
use Rattle.s3_lines.specs.declared.sheet.Operation.TheVariants.{SetOn, SetOff, Unknown}
use Rattle.s3_lines.specs.declared.sheet.CalculationLine.{CalculationLine}
use Rattle.s3_program.specs.declared.program.Meaning.{Meaning}

-- an overflow indicator: OA to OG, or OV
abbrev pub is_overflow : Indicator → Bool
is_overflow (Overflow n) = true
is_overflow _ = false

abbrev pub is_overflow_entry : Option Indicator → Bool
is_overflow_entry None = false
is_overflow_entry (Some indicator) = is_overflow indicator

-- only SETON and SETOF set overflow indicators; an unknown operation isn't checked
abbrev pub may_set_overflow : Option Operation → Bool
may_set_overflow (Some SetOn) = true
may_set_overflow (Some SetOff) = true
may_set_overflow (Some Unknown) = true
may_set_overflow _ = false

abbrev pub calculation_misindicated : {N : Type 0} → CalculationLine N → Bool
calculation_misindicated line = not (may_set_overflow line.operation) && list_any is_overflow_entry line.indicators

abbrev pub is_text_form : FieldForm → Bool
is_text_form Alphanumeric = true
is_text_form PackedText = true
is_text_form (Zoned decimals) = false
is_text_form (Packed decimals) = false

abbrev pub is_given_at : List (Option Indicator) → ℕ → Bool
is_given_at indicators k = on (slice_get indicators k)
  where
    on : Option (Option Indicator) → Bool
    on (Some (Some indicator)) = true
    on _ = false

-- only numeric fields can have plus and minus indicators
abbrev pub has_sign_of_text : FieldForm → List (Option Indicator) → Bool
has_sign_of_text form indicators = is_text_form form && (is_given_at indicators 0 || is_given_at indicators 1)

-- the relation is to an indicator that no type of the group has
abbrev pub is_unrelated : (Indicator → Bool) → Option Indicator → Bool
is_unrelated is_type None = false
is_unrelated is_type (Some indicator) = not (is_type indicator)

abbrev pub input_misindicated : (is_type : Indicator → Bool) → InputLine Meaning → Bool
input_misindicated is_type (FieldOfRecord field) = is_unrelated is_type field.relation || has_sign_of_text field.form field.indicators
input_misindicated is_type _ = false
