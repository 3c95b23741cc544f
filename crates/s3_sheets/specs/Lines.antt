-- The typed line of each card; its values have a meaning only if the card has no errors.
use Rattle.std.specs.Prelude.{ℕ, Bool, true, false, ◌+◌, List, [], ◌∷◌, ◌++◌, ◌==◌, ◌&&◌, zero, suc, Option, Some, None, unwrap_or, length, slice_index_or, if◌then◌else◌, codes}
use Rattle.std.specs.Option.{option_to_list}
use Rattle.s3_cards.specs.declared.ebcdic.TheConstants.{LETTER_A, LETTER_B, LETTER_C, LETTER_E, LETTER_H, LETTER_I, LETTER_L, LETTER_M, LETTER_O, LETTER_P, LETTER_R, LETTER_S, LETTER_T, LETTER_U}
use Rattle.s3_cards.specs.Codes.{ebcdic}
use Rattle.s3_cards.specs.Names.{name_of}
use Rattle.s3_cards.specs.declared.name.Name.{Name}
use Rattle.s3_edit.specs.Codes.{code_of as edit_code_of}
use Rattle.s3_edit.specs.declared.code.EditCode.{EditCode}
use Rattle.s3_entries.specs.declared.calculation.TheConstants as calculation
use Rattle.s3_entries.specs.declared.file.TheConstants as file
use Rattle.s3_entries.specs.declared.header.TheConstants as header
use Rattle.s3_entries.specs.declared.input.TheConstants as input
use Rattle.s3_entries.specs.declared.output.TheConstants as output
use Rattle.s3_entries.specs.declared.shared.TheConstants as shared
use Rattle.s3_sheets.specs.Columns.{column, columns, are_blank, same_codes, number_of, number_between}
use Rattle.s3_sheets.specs.Indicators.{listed, level_behind, condition_of}
use Rattle.s3_sheets.specs.Entries.{constant, constant_text, factor_of, code_of, time_of, operation_of}
use Rattle.s3_sheets.specs.Kinds.{kind_of}
use Rattle.s3_sheets.specs.declared.indicators.IndicatorList.TheVariants.{Record as RecordList, Overflow as OverflowList, Switch as SwitchList, Resulting as ResultingList}
use Rattle.s3_sheets.specs.declared.kind.CardKind.{CardKind}
use Rattle.s3_sheets.specs.declared.kind.CardKind.TheVariants as kind
use Rattle.s3_lines.specs.declared.indicator.Indicator.{Indicator}
use Rattle.s3_lines.specs.declared.indicator.Indicator.TheVariants.{General}
use Rattle.s3_lines.specs.declared.indicator.Condition.{Condition}
use Rattle.s3_lines.specs.declared.sheet.FileUse.{FileUse}
use Rattle.s3_lines.specs.declared.sheet.FileUse.TheVariants.{Input as InputUse, Output as OutputUse, Update as UpdateUse}
use Rattle.s3_lines.specs.declared.sheet.Designation.{Designation}
use Rattle.s3_lines.specs.declared.sheet.Designation.TheVariants.{Primary, Secondary, Chained}
use Rattle.s3_lines.specs.declared.sheet.Device.{Device}
use Rattle.s3_lines.specs.declared.sheet.Device.TheVariants.{CardReader, Printer, Disk}
use Rattle.s3_lines.specs.declared.sheet.KeyField.{KeyField}
use Rattle.s3_lines.specs.declared.sheet.FileLine.{FileLine}
use Rattle.s3_lines.specs.declared.sheet.RecordCode.{RecordCode}
use Rattle.s3_lines.specs.declared.sheet.FieldForm.{FieldForm}
use Rattle.s3_lines.specs.declared.sheet.FieldForm.TheVariants.{Alphanumeric as AlphanumericForm, Zoned, Packed as PackedForm, PackedText}
use Rattle.s3_lines.specs.declared.sheet.FieldLine.{FieldLine}
use Rattle.s3_lines.specs.declared.sheet.InputLine.TheVariants.{Record as RecordLine, And as RecordAnd, Or as RecordOr, Field as FieldCard}
use Rattle.s3_lines.specs.declared.sheet.Shape.{Shape}
use Rattle.s3_lines.specs.declared.sheet.Shape.TheVariants.{Alphanumeric, Numeric}
use Rattle.s3_lines.specs.declared.sheet.CalculationTime.TheVariants.{Detail as DetailTime}
use Rattle.s3_lines.specs.declared.sheet.CalculationLine.{CalculationLine}
use Rattle.s3_lines.specs.declared.sheet.OutputKind.{OutputKind}
use Rattle.s3_lines.specs.declared.sheet.OutputKind.TheVariants.{Heading, Detail, Total, Exception}
use Rattle.s3_lines.specs.declared.sheet.Spacing.{Spacing}
use Rattle.s3_lines.specs.declared.sheet.OutputCard.{OutputCard}
use Rattle.s3_lines.specs.declared.sheet.OutputForm.{OutputForm}
use Rattle.s3_lines.specs.declared.sheet.OutputForm.TheVariants.{Plain, Packed, Edited}
use Rattle.s3_lines.specs.declared.sheet.OutputContent.{OutputContent}
use Rattle.s3_lines.specs.declared.sheet.OutputContent.TheVariants.{Constant as ConstantContent, Field as FieldContent}
use Rattle.s3_lines.specs.declared.sheet.OutputField.{OutputField}
use Rattle.s3_lines.specs.declared.sheet.OutputLine.TheVariants.{Line as LineCard, And as OutputAnd, Or as OutputOr, Field as OutputFieldCard}
use Rattle.s3_lines.specs.declared.sheet.SheetLine.{SheetLine}
use Rattle.s3_lines.specs.declared.sheet.SheetLine.TheVariants.{Header, File, Input, Calculation, Output}
use Rattle.s3_lines.specs.declared.sheet.Line.{Line}

abbrev pub number_or_zero : List ℕ → ℕ
number_or_zero entry = unwrap_or (number_of entry) 0

abbrev pub maybe_name : List ℕ → Option Name
maybe_name entry = if are_blank entry then None else Some (name_of entry)

-- ---- File Description specifications
abbrev pub use_of : ℕ → FileUse
use_of code = if code == LETTER_O then OutputUse else if code == LETTER_U then UpdateUse else InputUse

abbrev pub designation_of : ℕ → Option Designation
designation_of code =
    if code == LETTER_P then Some Primary
    else if code == LETTER_S then Some Secondary
    else if code == LETTER_C then Some Chained
    else None

unfoldable pub device_of : List ℕ → Device
device_of entry =
    if same_codes entry (ebcdic (codes "MFCU1  ")) then CardReader
    else if same_codes entry (ebcdic (codes "MFCU2  ")) then CardReader
    else if same_codes entry (ebcdic (codes "PRINTER")) then Printer
    else Disk

-- A in 31 and I in 32
abbrev pub has_index : List ℕ → Bool
has_index card = (column card file.ADDRESS_TYPE == LETTER_A) && (column card file.ORGANIZATION == LETTER_I)

abbrev pub key_field : Option ℕ → Option ℕ → Option KeyField
key_field (Some length) (Some start) = Some (record { length = length; start = start })
key_field _ _ = None

abbrev pub key_of : List ℕ → Option KeyField
key_of card = if has_index card then key_field (number_between 1 29 (columns card file.KEY_LENGTH)) (number_between 1 9999 (columns card file.KEY_START)) else None

unfoldable pub file_line : List ℕ → FileLine
file_line card = record {
  name = name_of (columns card shared.FILENAME);
  usage = use_of (column card file.TYPE);
  designation = designation_of (column card file.DESIGNATION);
  ends_job = column card file.END == LETTER_E;
  record_length = number_or_zero (columns card file.RECORD_LENGTH);
  is_random = column card file.MODE == LETTER_R;
  is_keyed = column card file.ADDRESS_TYPE == LETTER_A;
  is_indexed = column card file.ORGANIZATION == LETTER_I;
  key = key_of card;
  overflow = listed OverflowList (columns card file.OVERFLOW);
  device = device_of (columns card file.DEVICE);
  has_additions = column card file.ADDITION == LETTER_A;
  condition = listed SwitchList (columns card file.CONDITION);
}

-- ---- Input specifications
abbrev pub record_indicator : List ℕ → Indicator
record_indicator entry = unwrap_or (listed RecordList entry) (General 1)

abbrev pub three_codes : List ℕ → List (Option RecordCode)
three_codes card = code_of (columns card input.CODE_1) ∷ code_of (columns card input.CODE_2) ∷ code_of (columns card input.CODE_3) ∷ []

-- with decimals the field is a number, otherwise characters
abbrev pub form_of : Bool → List ℕ → FieldForm
form_of packed decimals =
    if are_blank decimals then (if packed then PackedText else AlphanumericForm)
    else (if packed then PackedForm (unwrap_or (number_between 0 9 decimals) 0) else Zoned (unwrap_or (number_between 0 9 decimals) 0))

unfoldable pub field_line : List ℕ → FieldLine Name
field_line card = record {
  name = name_of (columns card input.FIELD_NAME);
  from = unwrap_or (number_between 1 9999 (columns card input.FROM)) 1;
  to = unwrap_or (number_between 1 9999 (columns card input.TO)) 1;
  form = form_of (column card input.PACKED == LETTER_P) (columns card input.DECIMALS);
  control_level = level_behind LETTER_L (columns card input.CONTROL_LEVEL);
  match_level = level_behind LETTER_M (columns card input.MATCHING);
  relation = listed RecordList (columns card input.RELATION);
  indicators = listed RecordList (columns card input.PLUS) ∷ listed RecordList (columns card input.MINUS) ∷ listed RecordList (columns card input.ZERO) ∷ [];
}

-- ---- Calculation specifications
-- the longest name that factor 2 may have: 8 for CHAIN, which names a file, else 6
abbrev pub longest_name : List ℕ → ℕ
longest_name card = if same_codes (columns card calculation.OPERATION) (ebcdic (codes "CHAIN")) then 8 else 6

-- the shape that a length and decimals define; without decimals it is a text
abbrev pub definition_of : List ℕ → List ℕ → Option Shape
definition_of size decimals =
    if are_blank decimals then (if are_blank size then None else Some (Alphanumeric (unwrap_or (number_between 1 256 size) 0)))
    else Some (Numeric (unwrap_or (number_between 1 15 size) 0) (unwrap_or (number_between 0 9 decimals) 0))

unfoldable pub calculation_line : List ℕ → CalculationLine Name
calculation_line card = record {
  time = unwrap_or (time_of (columns card calculation.CONTROL_LEVEL)) DetailTime;
  conditions = condition_of (columns card calculation.INDICATOR_1) ∷ condition_of (columns card calculation.INDICATOR_2) ∷ condition_of (columns card calculation.INDICATOR_3) ∷ [];
  factor1 = factor_of 6 (columns card calculation.FACTOR_1);
  operation = operation_of (columns card calculation.OPERATION);
  factor2 = factor_of (longest_name card) (columns card calculation.FACTOR_2);
  result = maybe_name (columns card calculation.RESULT);
  definition = definition_of (columns card calculation.LENGTH) (columns card calculation.DECIMALS);
  half_adjust = column card calculation.HALF_ADJUST == LETTER_H;
  indicators = listed ResultingList (columns card calculation.HIGH) ∷ listed ResultingList (columns card calculation.LOW) ∷ listed ResultingList (columns card calculation.EQUAL) ∷ [];
}

-- ---- Output specifications
abbrev pub three_conditions : List ℕ → List (Option Condition)
three_conditions card =
    condition_of (columns card output.INDICATOR_1) ∷ condition_of (columns card output.INDICATOR_2) ∷ condition_of (columns card output.INDICATOR_3) ∷ []

abbrev pub output_kind_of : ℕ → OutputKind
output_kind_of code =
    if code == LETTER_H then Heading
    else if code == LETTER_T then Total
    else if code == LETTER_E then Exception
    else Detail

-- ADD in 16 to 18
unfoldable pub is_addition : List ℕ → Bool
is_addition card = same_codes (columns card output.ADDITION) (ebcdic (codes "ADD"))

-- the space in an entry; with ADD the columns have letters of that word instead
abbrev pub space_of : Bool → List ℕ → Option ℕ
space_of addition entry = if addition then None else number_between 0 3 entry

unfoldable pub spacing_of : List ℕ → Spacing
spacing_of card = record {
  space_before = space_of (is_addition card) (columns card output.SPACE_BEFORE);
  space_after = space_of (is_addition card) (columns card output.SPACE_AFTER);
  skip_before = number_between 1 66 (columns card output.SKIP_BEFORE);
  skip_after = number_between 1 66 (columns card output.SKIP_AFTER);
}

unfoldable pub output_card : List ℕ → OutputCard Name
output_card card = record {
  file = maybe_name (columns card shared.FILENAME);
  kind = output_kind_of (column card output.TYPE);
  is_addition = is_addition card;
  spacing = spacing_of card;
  conditions = three_conditions card;
}

-- packed, or edited if there is an edit code
abbrev pub output_form : Bool → Option EditCode → OutputForm
output_form true code = Packed
output_form false (Some code) = Edited code
output_form false None = Plain

-- a field, or if its columns are blank the constant
abbrev pub content_of : List ℕ → OutputContent Name
content_of card =
    if are_blank (columns card output.FIELD_NAME) then ConstantContent (constant (unwrap_or (constant_text (columns card output.CONSTANT)) []))
    else FieldContent (record {
      name = name_of (columns card output.FIELD_NAME);
      form = output_form (column card output.PACKED == LETTER_P) (edit_code_of (column card output.EDIT_CODE));
      blank_after = column card output.BLANK_AFTER == LETTER_B;
    })

unfoldable pub output_field : List ℕ → OutputField Name
output_field card = record {
  conditions = three_conditions card;
  content = content_of card;
  «end» = unwrap_or (number_between 1 9999 (columns card output.END_POSITION)) 1;
}

-- ---- all specifications
-- The typed line of a card of some kind. A comment has none.
abbrev pub sheet_line : CardKind → List ℕ → Option SheetLine
sheet_line kind.Comment card = None
sheet_line kind.Unknown card = None
sheet_line kind.Header card = Some (Header (maybe_name (columns card header.PROGRAM)))
sheet_line kind.File card = Some (File (file_line card))
sheet_line kind.Record card = Some (Input (RecordLine (name_of (columns card shared.FILENAME)) (record_indicator (columns card input.RECORD_INDICATOR)) (three_codes card)))
sheet_line kind.RecordAnd card = Some (Input (RecordAnd (three_codes card)))
sheet_line kind.RecordOr card = Some (Input (RecordOr (record_indicator (columns card input.RECORD_INDICATOR)) (three_codes card)))
sheet_line kind.Field card = Some (Input (FieldCard (field_line card)))
sheet_line kind.Calculation card = Some (Calculation (calculation_line card))
sheet_line kind.OutputLine card = Some (Output (LineCard (output_card card)))
sheet_line kind.OutputAnd card = Some (Output (OutputAnd (three_conditions card)))
sheet_line kind.OutputOr card = Some (Output (OutputOr (three_conditions card)))
sheet_line kind.OutputField card = Some (Output (OutputFieldCard (output_field card)))

abbrev pub line_at : ℕ → Option SheetLine → Option Line
line_at number None = None
line_at number (Some sheet) = Some (record { card = number; sheet = sheet })

-- the line of the card with this number
unfoldable pub line_of : ℕ → List ℕ → Option Line
line_of number card = line_at number (sheet_line (kind_of card) card)

-- the card at a place, from 0
abbrev pub card_at : List (List ℕ) → ℕ → List ℕ
card_at cards i = slice_index_or cards i []

-- the lines of the first n cards; `from` is the number of cards before the first
abbrev pub lines_below : ℕ → List (List ℕ) → ℕ → List Line
lines_below from cards zero = []
lines_below from cards (suc n) = lines_below from cards n ++ option_to_list (line_of (from + n + 1) (card_at cards n))

-- the lines of cards; `from` is the number of cards before the first
unfoldable pub lines_of : ℕ → List (List ℕ) → List Line
lines_of from cards = lines_below from cards (length cards)
