-- The entries in error on a card with one of the diagnostics for single cards: each diagnostic's condition, entry by entry.
use Rattle.std.specs.Prelude.{◌≡◌, ℕ, zero, suc, ◌+◌, ◌-◌, ◌==◌, List, [], ◌∷◌, ◌++◌, Bool, false, not, ◌&&◌, ◌||◌, Option, Some, None, is_some, length, map, filter, nat_le}
use Rattle.std.specs.List.{list_any}
use Rattle.s3_entries.specs.declared.calculation.TheConstants as calculation
use Rattle.s3_entries.specs.declared.file.TheConstants as file
use Rattle.s3_entries.specs.declared.input.TheConstants as input
use Rattle.s3_entries.specs.declared.output.TheConstants as output
use Rattle.s3_entries.specs.declared.shared.TheConstants as shared
use Rattle.s3_entries.specs.declared.span.Span.{Span}
use Rattle.s3_lines.specs.Files.{is_printer, is_by_cycle}
use Rattle.s3_cards.specs.Names.{name_of}
use Rattle.s3_cards.specs.declared.name.Name.{Name}
use Rattle.s3_lines.specs.Ranges.{is_between, longest_record, shape_of_positions}
use Rattle.s3_lines.specs.declared.sheet.FieldLine.{FieldLine}
use Rattle.s3_lines.specs.declared.sheet.FileLine.{FileLine}
use Rattle.s3_lines.specs.declared.sheet.Shape.{Shape}
use Rattle.s3_lines.specs.declared.sheet.Shape.TheVariants.{Alphanumeric, Numeric}
use Rattle.s3_sheets.specs.Columns.{columns, number_of, number_between}
use Rattle.s3_sheets.specs.Combinations.{are_filled, is_with_index, is_key_within, has_bad_positions, has_bad_factor, has_bad_definition, has_bad_addition, is_of_date, has_no_content, has_early_constant}
use Rattle.s3_sheets.specs.Lines.{card_at, file_line, field_line, definition_of, is_addition}
use Rattle.s3_sheets.specs.Rules.{Rule, allows, fault_of, is_blank_or}
use Rattle.s3_sheets.specs.Sheets.{kind_at, standing_at, exceeds, named_length, input_length, output_length, length_for, holds}
use Rattle.s3_sheets.specs.Tables.{rules_of}
use Rattle.s3_sheets.specs.declared.faults.Fault.{Fault}
use Rattle.s3_sheets.specs.declared.faults.Fault.TheVariants.{WrongEntry, WrongName, WrongNumber}
use Rattle.s3_sheets.specs.declared.kind.CardKind.{CardKind}
use Rattle.s3_sheets.specs.declared.kind.CardKind.TheVariants.{File, Record, RecordAnd, RecordOr, Field, Calculation, OutputLine, OutputField}
use Rattle.s3_sheets.specs.declared.parts.Part.{Part}
use Rattle.s3_sheets.specs.declared.parts.FaultyEntry.{FaultyEntry}
use Rattle.s3_sheets.specs.declared.progress.Standing.{Standing}

-- the columns of a rule
abbrev pub span_of : Rule → Span
span_of rule = record { from = rule.from; to = rule.to }

-- one part of a diagnostic's condition, with the columns of its entry
abbrev pub part : (number : ℕ) → (span : Span) → (fails : Bool) → Part
part number span fails = record { number = number; from = span.from; to = span.to; fails = fails }

-- ---- 2 to 4: rules, each for one entry
abbrev pub fault_number : Fault → ℕ
fault_number WrongEntry = 2
fault_number WrongName = 3
fault_number WrongNumber = 4

abbrev pub rule_part : List ℕ → Rule → Part
rule_part card rule = part (fault_number (fault_of rule.entry)) (span_of rule) (not (allows rule.entry (columns card (span_of rule))))

-- ---- 2 to 4: several columns together
abbrev pub has_record_length : FileLine → Bool
has_record_length file = is_between 1 (longest_record file.device) file.record_length

-- an indexed file must have a key length and a key start
abbrev pub lacks_key_length : List ℕ → Bool
lacks_key_length card = is_with_index (file_line card) && not (is_some (number_between 1 29 (columns card file.KEY_LENGTH)))

abbrev pub lacks_key_start : List ℕ → Bool
lacks_key_start card = is_with_index (file_line card) && not (is_some (number_between 1 9999 (columns card file.KEY_START)))

-- the key is known and ends after the end of the record, whose length is known
abbrev pub has_key_past : FileLine → Bool
has_key_past file = has_record_length file && (is_some file.key && not (is_key_within file.record_length file.key))

abbrev pub file_parts : List ℕ → List Part
file_parts card =
    part 2 file.END ((file_line card).ends_job && not (is_by_cycle (file_line card).designation))
    ∷ part 2 file.KEY_LENGTH (not (is_with_index (file_line card)) && are_filled card file.KEY_LENGTH)
    ∷ part 2 file.KEY_START (not (is_with_index (file_line card)) && are_filled card file.KEY_START)
    ∷ part 2 file.OVERFLOW (are_filled card file.OVERFLOW && not (is_printer (file_line card).device))
    ∷ part 4 file.RECORD_LENGTH (not (has_record_length (file_line card)))
    ∷ part 4 file.KEY_LENGTH (lacks_key_length card || has_key_past (file_line card))
    ∷ part 4 file.KEY_START (lacks_key_start card || has_key_past (file_line card))
    ∷ []

-- the number of digits is allowed, but there are more decimals than digits
abbrev pub has_surplus_decimals : Shape → Bool
has_surplus_decimals (Alphanumeric length) = false
has_surplus_decimals (Numeric digits decimals) = is_between 1 15 digits && not (nat_le decimals digits)

-- From and To are both numbers, so length and decimals can be checked
abbrev pub has_positions : List ℕ → Bool
has_positions card = is_some (number_between 1 9999 (columns card input.FROM)) && is_some (number_between 1 9999 (columns card input.TO))

abbrev pub has_surplus_in_field : FieldLine Name → Bool
has_surplus_in_field field = nat_le field.from field.to && has_surplus_decimals (shape_of_positions field.form (field.to + 1 - field.from))

abbrev pub field_parts : List ℕ → List Part
field_parts card =
    part 4 input.LOCATION (has_positions card && has_bad_positions card)
    ∷ part 4 input.DECIMALS (has_positions card && has_surplus_in_field (field_line card))
    ∷ []

-- if decimals exceed the length, both entries are in error; otherwise only the length is
abbrev pub has_surplus : Option Shape → Bool
has_surplus None = false
has_surplus (Some shape) = has_surplus_decimals shape

abbrev pub calculation_parts : List ℕ → List Part
calculation_parts card =
    part 3 calculation.FACTOR_2 (has_bad_factor card)
    ∷ part 4 calculation.LENGTH (has_bad_definition card)
    ∷ part 4 calculation.DECIMALS (has_surplus (definition_of (columns card calculation.LENGTH) (columns card calculation.DECIMALS)))
    ∷ []

abbrev pub line_parts : List ℕ → List Part
line_parts card =
    part 2 output.BEFORE_SPACES (has_bad_addition card)
    ∷ part 4 output.SPACE_BEFORE (not (is_addition card) && not (is_blank_or (number_between 0 3) (columns card output.SPACE_BEFORE)))
    ∷ part 4 output.SPACE_AFTER (not (is_addition card) && not (is_blank_or (number_between 0 3) (columns card output.SPACE_AFTER)))
    ∷ []

-- a field next to a constant is in error with it, as are an edit code and P together; any other entry next to a constant is in error by
-- itself
abbrev pub has_both : List ℕ → Bool
has_both card = are_filled card output.CONSTANT && are_filled card output.FIELD_NAME

abbrev pub has_packed_edit : List ℕ → Bool
has_packed_edit card = are_filled card output.FIELD_NAME && are_filled card output.EDIT_CODE && are_filled card output.PACKED

abbrev pub output_parts : List ℕ → List Part
output_parts card =
    part 2 output.FIELD_NAME (has_both card)
    ∷ part 2 output.CONSTANT (has_both card)
    ∷ part 2 output.EDIT_CODE (are_filled card output.CONSTANT && are_filled card output.EDIT_CODE || has_packed_edit card)
    ∷ part 2 output.BLANK_AFTER (are_filled card output.CONSTANT && are_filled card output.BLANK_AFTER || are_filled card output.BLANK_AFTER && is_of_date (name_of (columns card output.FIELD_NAME)))
    ∷ part 2 output.PACKED (are_filled card output.CONSTANT && are_filled card output.PACKED || has_packed_edit card)
    ∷ part 3 output.FIELD_NAME (has_no_content card)
    ∷ part 4 output.END_POSITION (has_early_constant card)
    ∷ []

abbrev pub combined_parts : CardKind → List ℕ → List Part
combined_parts File card = file_parts card
combined_parts Field card = field_parts card
combined_parts Calculation card = calculation_parts card
combined_parts OutputLine card = line_parts card
combined_parts OutputField card = output_parts card
combined_parts _ card = []

-- ---- 4: positions after the end of the record
abbrev pub code_parts : List ℕ → Option ℕ → List Part
code_parts card length =
    part 4 input.POSITION_1 (exceeds (number_of (columns card input.POSITION_1)) length)
    ∷ part 4 input.POSITION_2 (exceeds (number_of (columns card input.POSITION_2)) length)
    ∷ part 4 input.POSITION_3 (exceeds (number_of (columns card input.POSITION_3)) length)
    ∷ []

abbrev pub span_parts : List ℕ → Option ℕ → List Part
span_parts card length =
    part 4 input.FROM (exceeds (number_of (columns card input.FROM)) length)
    ∷ part 4 input.TO (exceeds (number_of (columns card input.TO)) length)
    ∷ []

abbrev pub position_parts : CardKind → List ℕ → Option ℕ → List Part
position_parts Record card length = code_parts card length
position_parts RecordAnd card length = code_parts card length
position_parts RecordOr card length = code_parts card length
position_parts Field card length = span_parts card length
position_parts OutputField card length = part 4 output.END_POSITION (exceeds (number_of (columns card output.END_POSITION)) length) ∷ []
position_parts _ card length = []

-- ---- 1, 3 and 13: errors that depend on earlier cards
-- the columns of the name that a card defines: of a file, of a field of a record, or of a result
abbrev pub defined : CardKind → Span
defined File = shared.FILENAME
defined Field = input.FIELD_NAME
defined _ = calculation.RESULT

abbrev pub standing_parts : CardKind → Standing → List Part
standing_parts kind standing =
    part 1 shared.FORM_TYPE standing.is_misplaced
    ∷ part 3 shared.FILENAME standing.lacks_file
    ∷ part 13 (defined kind) standing.is_too_many
    ∷ []

-- ---- all parts
abbrev pub parts_with : CardKind → List ℕ → Standing → Option ℕ → List Part
parts_with kind card standing length =
    standing_parts kind standing
    ++ (map (rule_part card) (rules_of kind) ++ (combined_parts kind card ++ position_parts kind card length))

-- the record length for the positions on a card of a source
abbrev pub length_at : List (List ℕ) → ℕ → Option ℕ
length_at cards i = length_for (kind_at cards i) (named_length cards i) (input_length cards i) (output_length cards i)

abbrev pub parts_at : List (List ℕ) → ℕ → List Part
parts_at cards i = parts_with (kind_at cards i) (card_at cards i) (standing_at cards i) (length_at cards i)

-- ---- the entries in error: those of parts that fail
abbrev pub entry_of : (card : ℕ) → Part → FaultyEntry
entry_of card p = record { card = card; number = p.number; from = p.from; to = p.to }

abbrev pub fails : Part → Bool
fails p = p.fails

abbrev pub entries_of : (card : ℕ) → List Part → List FaultyEntry
entries_of card parts = map (entry_of card) (filter fails parts)

-- the entries in error of the first n cards; `from` is the number of cards before the first
abbrev pub entries_below : (from : ℕ) → List (List ℕ) → ℕ → List FaultyEntry
entries_below from cards zero = []
entries_below from cards (suc n) = entries_below from cards n ++ entries_of (from + n + 1) (parts_at cards n)

unfoldable pub faulty_entries : (from : ℕ) → List (List ℕ) → List FaultyEntry
faulty_entries from cards = entries_below from cards (length cards)

-- ---- a card has a diagnostic exactly if one of its entries is in error by it
abbrev pub has_entry : (number : ℕ) → List FaultyEntry → Bool
has_entry number entries = list_any (λ (entry : FaultyEntry). entry.number == number) entries

abbrev pub IsToldByEntries : (number : ℕ) → Type 0
IsToldByEntries number = (card : ℕ) (cards : List (List ℕ)) (i : ℕ) → has_entry number (entries_of card (parts_at cards i)) ≡ holds cards (i, number)
