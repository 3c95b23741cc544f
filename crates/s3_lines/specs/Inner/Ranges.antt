-- Lines of cards without a fault of their own: each entry in its range, the order of the sheets, and positions within their records.
use Rattle.std.specs.Prelude.{ℕ, ◌+◌, ◌-◌, ◌^◌, ◌==◌, nat_lt, nat_le, unsigned_abs, Bool, true, not, ◌&&◌, ◌||◌, List, [], ◌∷◌, Option, Some, None, is_some, is_none, if◌then◌else◌}
use Rattle.std.specs.List.{list_all}
use Rattle.std.specs.Option.{option_or}
use Rattle.s3_lines.specs.Files.{is_printer, is_by_cycle}
use Rattle.s3_cards.specs.declared.name.Name.{Name}
use Rattle.s3_cards.specs.Names.{no_name, same_name}
use Rattle.s3_lines.specs.declared.indicator.Indicator.{Indicator}
use Rattle.s3_lines.specs.declared.indicator.Indicator.TheVariants.{General, Level, LastRecord, Matching, Halt, FirstPage, Overflow, Switch}
use Rattle.s3_lines.specs.declared.indicator.Condition.{Condition}
use Rattle.s3_lines.specs.declared.sheet.KeyField.{KeyField}
use Rattle.s3_lines.specs.declared.sheet.FileLine.{FileLine}
use Rattle.s3_lines.specs.declared.sheet.RecordCode.{RecordCode}
use Rattle.s3_lines.specs.declared.sheet.FieldLine.{FieldLine}
use Rattle.s3_lines.specs.declared.sheet.InputLine.{InputLine}
use Rattle.s3_lines.specs.declared.sheet.InputLine.TheVariants.{Record, And as AndCodes, Or as OrCodes, Field as InputField}
use Rattle.s3_lines.specs.declared.sheet.Factor.{Factor}
use Rattle.s3_lines.specs.declared.sheet.Factor.TheVariants.{Named, Number, Text}
use Rattle.s3_lines.specs.declared.sheet.CalculationTime.{CalculationTime}
use Rattle.s3_lines.specs.declared.sheet.CalculationTime.TheVariants.{Total}
use Rattle.s3_lines.specs.declared.sheet.CalculationLine.{CalculationLine}
use Rattle.s3_lines.specs.declared.sheet.Spacing.{Spacing}
use Rattle.s3_lines.specs.declared.sheet.OutputContent.{OutputContent}
use Rattle.s3_lines.specs.declared.sheet.OutputContent.TheVariants.{Constant as ConstantContent, Field as FieldContent}
use Rattle.s3_lines.specs.declared.sheet.OutputLine.{OutputLine}
use Rattle.s3_lines.specs.declared.sheet.OutputLine.TheVariants.{Line as LineCard, And as AndConditions, Or as OrConditions, Field as OutputField}
use Rattle.s3_lines.specs.declared.sheet.SheetLine.{SheetLine}
use Rattle.s3_lines.specs.declared.sheet.SheetLine.TheVariants.{Header, File, Input, Calculation, Output}
use Rattle.s3_lines.specs.declared.sheet.Line.{Line}
use Rattle.s3_lines.specs.Ranges.{is_between, if_given, is_record_indicator, is_overflow_indicator, is_switch_indicator, is_total_indicator, is_resulting_indicator, longest_record, shape_in_range, shape_of_positions}

-- ---- indicators
-- 01 to 99, L0 to L9, LR, MR, H1 to H9, 1P, OA to OG and OV, U1 to U8
abbrev pub indicator_in_range : Indicator → Bool
indicator_in_range (General n) = is_between 1 99 n
indicator_in_range (Level n) = nat_le n 9
indicator_in_range LastRecord = true
indicator_in_range Matching = true
indicator_in_range (Halt n) = is_between 1 9 n
indicator_in_range FirstPage = true
indicator_in_range (Overflow n) = is_between 1 8 n
indicator_in_range (Switch n) = is_between 1 8 n

abbrev pub conditions_in_range : List (Option Condition) → Bool
conditions_in_range conditions = list_all (if_given (λ condition. indicator_in_range condition.indicator)) conditions

-- ---- the F sheet
-- a file's name isn't blank
abbrev pub is_named : Name → Bool
is_named name = not (same_name name no_name)

-- a key of 1 to 29 bytes within the record
abbrev pub key_in_range : (record_length : ℕ) → KeyField → Bool
key_in_range record_length key = is_between 1 29 key.length && nat_le 1 key.start && nat_le (key.start + key.length) (record_length + 1)

abbrev pub file_in_range : FileLine → Bool
file_in_range file =
    is_named file.name
    && is_between 1 (longest_record file.device) file.record_length
    && (if file.is_keyed && file.is_indexed then is_some file.key else is_none file.key)
    && if_given (key_in_range file.record_length) file.key
    && (not file.ends_job || is_by_cycle file.designation)
    && if_given (λ indicator. is_overflow_indicator indicator && is_printer file.device) file.overflow
    && if_given is_switch_indicator file.condition

-- ---- the I sheet
abbrev pub codes_in_range : List (Option RecordCode) → Bool
codes_in_range codes = list_all (if_given (λ code. nat_le 1 code.position)) codes

abbrev pub field_in_range : {N : Type 0} → FieldLine N → Bool
field_in_range field =
    nat_le 1 field.from
    && nat_le field.from field.to
    && shape_in_range (shape_of_positions field.form (field.to + 1 - field.from))
    && if_given (is_between 1 9) field.control_level
    && if_given (is_between 1 9) field.match_level
    && if_given is_record_indicator field.relation
    && list_all (if_given is_record_indicator) field.indicators

abbrev pub input_in_range : {N : Type 0} → InputLine N → Bool
input_in_range (Record file indicator codes) = is_record_indicator indicator && codes_in_range codes
input_in_range (AndCodes codes) = codes_in_range codes
input_in_range (OrCodes indicator codes) = is_record_indicator indicator && codes_in_range codes
input_in_range (InputField field) = field_in_range field

-- ---- the C sheet
-- a literal of 1 to 10 digits, of which 0 to 9 are decimals, or of 1 to 8 characters
abbrev pub factor_in_range : {N : Type 0} → Factor N → Bool
factor_in_range (Named name) = true
factor_in_range (Number literal) =
    is_between 1 10 literal.digits
    && nat_le literal.decimals 9
    && nat_le literal.decimals literal.digits
    && nat_lt (unsigned_abs literal.value) (10 ^ literal.digits)
factor_in_range (Text literal) = is_between 1 8 literal.length

abbrev pub time_in_range : CalculationTime → Bool
time_in_range (Total indicator) = is_total_indicator indicator
time_in_range _ = true

abbrev pub calculation_in_range : {N : Type 0} → CalculationLine N → Bool
calculation_in_range line =
    time_in_range line.time
    && conditions_in_range line.conditions
    && if_given factor_in_range line.factor1
    && if_given factor_in_range line.factor2
    && if_given shape_in_range line.definition
    && list_all (if_given is_resulting_indicator) line.indicators

-- ---- the O sheet
-- spaces 0 to 3, skips to line 1 to 66
abbrev pub spacing_in_range : Spacing → Bool
spacing_in_range spacing =
    if_given (is_between 0 3) spacing.space_before
    && if_given (is_between 0 3) spacing.space_after
    && if_given (is_between 1 66) spacing.skip_before
    && if_given (is_between 1 66) spacing.skip_after

-- a constant of 1 to 24 characters begins at position 1 or later
abbrev pub content_in_range : {N : Type 0} → OutputContent N → (end : ℕ) → Bool
content_in_range (ConstantContent constant) end = is_between 1 24 constant.length && nat_le constant.length end
content_in_range (FieldContent field) end = true

abbrev pub output_in_range : {N : Type 0} → OutputLine N → Bool
output_in_range (LineCard card) = spacing_in_range card.spacing && conditions_in_range card.conditions
output_in_range (AndConditions conditions) = conditions_in_range conditions
output_in_range (OrConditions conditions) = conditions_in_range conditions
output_in_range (OutputField field) = conditions_in_range field.conditions && nat_le 1 field.end && content_in_range field.content field.end

-- ---- a line by itself
unfoldable pub in_range : SheetLine → Bool
in_range (Header name) = true
in_range (File file) = file_in_range file
in_range (Input line) = input_in_range line
in_range (Calculation line) = calculation_in_range line
in_range (Output line) = output_in_range line

-- ---- the order of the sheets, with one H line at most
abbrev pub sheet_number : SheetLine → ℕ
sheet_number (Header name) = 1
sheet_number (File file) = 2
sheet_number (Input line) = 3
sheet_number (Calculation line) = 4
sheet_number (Output line) = 5

abbrev pub stands_behind : (last : ℕ) → SheetLine → Bool
stands_behind last (Header name) = last == 0
stands_behind last line = nat_le last (sheet_number line)

unfoldable pub in_order_behind : (last : ℕ) → List Line → Bool
in_order_behind last [] = true
in_order_behind last (line ∷ lines) = stands_behind last line.sheet && in_order_behind (sheet_number line.sheet) lines

-- ---- positions within their records
-- the record length that a line gives a file
abbrev pub record_length_on : SheetLine → Name → Option ℕ
record_length_on (File file) name = if same_name file.name name then Some file.record_length else None
record_length_on _ name = None

-- the record length of a file, by its first line
unfoldable pub record_length_in : List Line → Name → Option ℕ
record_length_in [] name = None
record_length_in (line ∷ lines) name = option_or (record_length_on line.sheet name) (record_length_in lines name)

-- a position past a record is known only where the record's length is
abbrev pub is_within : Option ℕ → (position : ℕ) → Bool
is_within None position = true
is_within (Some length) position = nat_le position length

abbrev pub codes_within : Option ℕ → List (Option RecordCode) → Bool
codes_within length codes = list_all (if_given (λ code. is_within length code.position)) codes

-- the record length that field lines after this line have
abbrev pub input_length_behind : (Name → Option ℕ) → Option ℕ → SheetLine → Option ℕ
input_length_behind lengths last (Input (Record file indicator codes)) = lengths file
input_length_behind lengths last _ = last

-- a line card without a name takes the file of the line before
abbrev pub output_length_behind : (Name → Option ℕ) → Option ℕ → SheetLine → Option ℕ
output_length_behind lengths last (Output (LineCard card)) = on card.file
  where
    on : Option Name → Option ℕ
    on (Some file) = lengths file
    on None = last
output_length_behind lengths last _ = last

-- the positions of a line are in their records, given the lengths of all files, of the last record line's and of the last line card's
abbrev pub positions_within : (Name → Option ℕ) → (input output : Option ℕ) → SheetLine → Bool
positions_within lengths input output (Input (Record file indicator codes)) = codes_within (lengths file) codes
positions_within lengths input output (Input (AndCodes codes)) = codes_within input codes
positions_within lengths input output (Input (OrCodes indicator codes)) = codes_within input codes
positions_within lengths input output (Input (InputField field)) = is_within input field.to
positions_within lengths input output (Output (OutputField field)) = is_within output field.end
positions_within lengths input output _ = true

unfoldable pub all_within : (Name → Option ℕ) → (input output : Option ℕ) → List Line → Bool
all_within lengths input output [] = true
all_within lengths input output (line ∷ lines) =
    positions_within lengths input output line.sheet
    && all_within lengths (input_length_behind lengths input line.sheet) (output_length_behind lengths output line.sheet) lines

-- ---- lines of cards without a fault on the cards alone
unfoldable pub are_read : List Line → Bool
are_read lines =
    in_order_behind 0 lines && list_all (λ line. in_range line.sheet) lines && all_within (record_length_in lines) None None lines
