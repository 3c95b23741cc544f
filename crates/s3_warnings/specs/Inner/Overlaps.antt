-- Fields of an output line that always cover positions of earlier ones.
use Rattle.std.specs.Prelude.{ℕ, ◌+◌, ◌-◌, nat_eq, Bool, true, false, ◌&&◌, List, [], ◌∷◌, ◌++◌, Option, Some, None, unwrap_or}
use Rattle.std.specs.Bool.{beq}
use Rattle.std.specs.List.{list_all, list_any, range_with_len}
use Rattle.s3_cards.specs.declared.name.Name.{Name}
use Rattle.s3_edit.specs.Picture.{width_of}
use Rattle.s3_lines.specs.Indicators.{same_indicator}
use Rattle.s3_lines.specs.declared.indicator.Condition.{Condition}
use Rattle.s3_lines.specs.declared.sheet.Line.{Line}
use Rattle.s3_lines.specs.declared.sheet.OutputContent.{OutputContent}
use Rattle.s3_lines.specs.declared.sheet.OutputContent.TheVariants.{Constant as ConstantContent, Field as FieldContent}
use Rattle.s3_lines.specs.declared.sheet.OutputField.{OutputField}
use Rattle.s3_lines.specs.declared.sheet.OutputForm.{OutputForm}
use Rattle.s3_lines.specs.declared.sheet.OutputForm.TheVariants.{Plain, Packed, Edited}
use Rattle.s3_lines.specs.declared.sheet.OutputLine.TheVariants.{Line as LineCard, Field as FieldCard}
use Rattle.s3_lines.specs.declared.sheet.Shape.{Shape}
use Rattle.s3_lines.specs.declared.sheet.Shape.TheVariants.{Alphanumeric, Numeric}
use Rattle.s3_lines.specs.declared.sheet.SheetLine.{SheetLine}
use Rattle.s3_lines.specs.declared.sheet.SheetLine.TheVariants.{Output}
use Rattle.s3_program.specs.Operands.{packed_width}
use Rattle.s3_warnings.specs.declared.kinds.Warning.{Warning}
use Rattle.s3_warnings.specs.declared.kinds.WarningKind.TheVariants.{Overlap}
use Rattle.s3_warnings.specs.declared.overlaps.Printed.{Printed}
use Rattle.s3_warnings.specs.Inner.Facts.{Facts}
use Rattle.s3_warnings.specs.Inner.Marking.{warning, warned_if}

-- ---- how many positions a part of an output line takes
abbrev pub number_width : OutputForm → (digits decimals : ℕ) → ℕ
number_width Plain digits decimals = digits
number_width Packed digits decimals = packed_width digits
number_width (Edited code) digits decimals = unwrap_or (width_of code digits decimals) 0

abbrev pub shape_width : OutputForm → Option Shape → ℕ
shape_width form (Some (Alphanumeric length)) = length
shape_width form (Some (Numeric digits decimals)) = number_width form digits decimals
shape_width form None = 0

abbrev pub content_width : Facts → OutputContent Name → ℕ
content_width facts (ConstantContent constant) = constant.length
content_width facts (FieldContent field) = shape_width field.form (facts.shape field.name)

-- ---- which ones: so many, up to the end position
abbrev pub printed_of : Facts → OutputField Name → Printed
printed_of facts field = record {
  first = field.end + 1 - content_width facts field.content;
  width = content_width facts field.content;
  conditions = field.conditions;
}

abbrev pub positions_of : Printed → List ℕ
positions_of field = range_with_len field.first field.width

-- a position is one of both
abbrev pub are_overlapping : (field other : Printed) → Bool
are_overlapping field other = list_any (λ position. list_any (nat_eq position) (positions_of other)) (positions_of field)

-- ---- when they are printed
-- the same indicator, with N on both or on neither
abbrev pub is_same_condition : Condition → Option Condition → Bool
is_same_condition condition None = false
is_same_condition condition (Some other) = same_indicator condition.indicator other.indicator && beq condition.negated other.negated

-- a blank entry is no condition
abbrev pub is_condition_of : Printed → Option Condition → Bool
is_condition_of field None = true
is_condition_of field (Some condition) = list_any (is_same_condition condition) field.conditions

-- each of a field's conditions is one of another field's: it is printed each time the other one is
abbrev pub is_printed_with : (field other : Printed) → Bool
is_printed_with field other = list_all (is_condition_of other) field.conditions

-- ---- warnings
-- each time the earlier field is printed, this one is printed over it
abbrev pub covers : (field earlier : Printed) → Bool
covers field earlier = are_overlapping field earlier && is_printed_with field earlier

-- the fields of an output line up to a card, given those before the card: a new output line has none
abbrev pub fields_with : Facts → (earlier : List Printed) → SheetLine → List Printed
fields_with facts earlier (Output (LineCard card)) = []
fields_with facts earlier (Output (FieldCard field)) = earlier ++ printed_of facts field ∷ []
fields_with facts earlier _ = earlier

-- the end position is marked
abbrev pub overlap_on : Facts → (earlier : List Printed) → Line → List Warning
overlap_on facts earlier line = on line.sheet
  where
    on : SheetLine → List Warning
    on (Output (FieldCard field)) = warned_if (list_any (covers (printed_of facts field)) earlier) (warning Overlap line.card 40 43)
    on _ = []

unfoldable pub overlaps_from : Facts → (earlier : List Printed) → List Line → List Warning
overlaps_from facts earlier [] = []
overlaps_from facts earlier (line ∷ lines) = overlap_on facts earlier line ++ overlaps_from facts (fields_with facts earlier line.sheet) lines

abbrev pub overlaps : Facts → List Line → List Warning
overlaps facts lines = overlaps_from facts [] lines
