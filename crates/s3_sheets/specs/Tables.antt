-- The rules of each kind of card, each for some of its columns. Columns without a rule are checked together with others, in Combinations:
-- 24 to 27 of File Description cards, 33 to 42 and 49 to 51 of Calculation cards, 16 to 18 of output lines.
use Rattle.std.specs.Prelude.{ℕ, List, [], ◌∷◌, codes}
use Rattle.s3_cards.specs.declared.ebcdic.TheConstants.{LETTER_L, LETTER_M}
use Rattle.s3_cards.specs.Codes.{ebcdic}
use Rattle.s3_entries.specs.declared.calculation.TheConstants as calculation
use Rattle.s3_entries.specs.declared.file.TheConstants as file
use Rattle.s3_entries.specs.declared.header.TheConstants as header
use Rattle.s3_entries.specs.declared.input.TheConstants as input
use Rattle.s3_entries.specs.declared.output.TheConstants as output
use Rattle.s3_entries.specs.declared.shared.TheConstants as shared
use Rattle.s3_entries.specs.declared.span.Span.{Span}
use Rattle.s3_sheets.specs.Rules.{Entry, Blank, OneOf, Letters, Listed, MaybeListed, MaybeLevel, MaybeCondition, Time, CodeTest, MaybeEditCode, Name, MaybeName, MaybeConstant, MaybeFactor, Number, MaybeNumber, CodePosition, Rule}
use Rattle.s3_sheets.specs.declared.indicators.IndicatorList.TheVariants.{Record as RecordList, Overflow as OverflowList, Switch as SwitchList, Resulting as ResultingList}
use Rattle.s3_sheets.specs.declared.kind.CardKind.{CardKind}
use Rattle.s3_sheets.specs.declared.kind.CardKind.TheVariants.{Comment, Unknown, Header, File, Record, RecordAnd, RecordOr, Field, Calculation, OutputLine, OutputAnd, OutputOr, OutputField}

abbrev pub rule : Span → Entry → Rule
rule span entry = record { from = span.from; to = span.to; entry = entry }

-- columns without an entry, which must be blank
abbrev pub blank : ℕ → ℕ → Rule
blank from to = record { from = from; to = to; entry = Blank }

abbrev pub text : List ℕ → List ℕ
text characters = ebcdic characters

-- blank, or this character
abbrev pub maybe : List ℕ → Entry
maybe character = OneOf (text (codes " ") ∷ text character ∷ [])

-- on a Control specification (H) only the program identification is read
unfoldable pub header_rules : List Rule
header_rules = rule header.PROGRAM MaybeName ∷ []

unfoldable pub file_rules : List Rule
file_rules =
    rule shared.FILENAME Name
    ∷ rule file.TYPE (OneOf (text (codes "I") ∷ text (codes "O") ∷ text (codes "U") ∷ []))
    ∷ rule file.DESIGNATION (OneOf (text (codes " ") ∷ text (codes "P") ∷ text (codes "S") ∷ text (codes "C") ∷ []))
    ∷ rule file.END (maybe (codes "E"))
    ∷ rule file.SEQUENCE (maybe (codes "A"))  -- ascending
    ∷ rule file.FORMAT (OneOf (text (codes "F") ∷ []))
    ∷ rule file.BLOCK_LENGTH (MaybeNumber 0 9999)  -- not used
    ∷ rule file.MODE (maybe (codes "R"))
    ∷ rule file.KEY_LENGTH (MaybeNumber 1 29)
    ∷ rule file.ADDRESS_TYPE (maybe (codes "A"))
    ∷ rule file.ORGANIZATION (maybe (codes "I"))
    ∷ rule file.OVERFLOW (MaybeListed OverflowList)
    ∷ rule file.KEY_START (MaybeNumber 1 9999)
    ∷ blank 39 39
    ∷ rule file.DEVICE (OneOf (text (codes "MFCU1  ") ∷ text (codes "MFCU2  ") ∷ text (codes "PRINTER") ∷ text (codes "DISK   ") ∷ []))
    ∷ blank 47 65
    ∷ rule file.ADDITION (maybe (codes "A"))
    ∷ blank 67 70
    ∷ rule file.CONDITION (MaybeListed SwitchList)
    ∷ blank 73 74
    ∷ []

-- the three codes of a record line, and the columns after them
abbrev pub code_rules : List Rule
code_rules =
    rule input.CODE_1 CodePosition
    ∷ rule input.CODE_1 CodeTest
    ∷ rule input.CODE_2 CodePosition
    ∷ rule input.CODE_2 CodeTest
    ∷ rule input.CODE_3 CodePosition
    ∷ rule input.CODE_3 CodeTest
    ∷ blank 42 74
    ∷ []

unfoldable pub record_rules : List Rule
record_rules =
    rule shared.FILENAME Name
    ∷ rule input.SEQUENCE Letters
    ∷ blank 17 18
    ∷ rule input.RECORD_INDICATOR (Listed RecordList)
    ∷ code_rules

unfoldable pub record_and_rules : List Rule
record_and_rules = blank 17 20 ∷ code_rules

unfoldable pub record_or_rules : List Rule
record_or_rules =
    blank 17 18
    ∷ rule input.RECORD_INDICATOR (Listed RecordList)
    ∷ code_rules

unfoldable pub field_rules : List Rule
field_rules =
    blank 7 42
    ∷ rule input.PACKED (maybe (codes "P"))
    ∷ rule input.FROM (Number 1 9999)
    ∷ rule input.TO (Number 1 9999)
    ∷ rule input.DECIMALS (MaybeNumber 0 9)
    ∷ rule input.FIELD_NAME Name
    ∷ rule input.CONTROL_LEVEL (MaybeLevel LETTER_L)
    ∷ rule input.MATCHING (MaybeLevel LETTER_M)
    ∷ rule input.RELATION (MaybeListed RecordList)
    ∷ rule input.PLUS (MaybeListed RecordList)
    ∷ rule input.MINUS (MaybeListed RecordList)
    ∷ rule input.ZERO (MaybeListed RecordList)
    ∷ blank 71 74
    ∷ []

unfoldable pub calculation_rules : List Rule
calculation_rules =
    rule calculation.CONTROL_LEVEL Time
    ∷ rule calculation.INDICATOR_1 MaybeCondition
    ∷ rule calculation.INDICATOR_2 MaybeCondition
    ∷ rule calculation.INDICATOR_3 MaybeCondition
    ∷ rule calculation.FACTOR_1 (MaybeFactor 6)
    ∷ rule calculation.RESULT MaybeName
    ∷ rule calculation.DECIMALS (MaybeNumber 0 9)
    ∷ rule calculation.HALF_ADJUST (maybe (codes "H"))
    ∷ rule calculation.HIGH (MaybeListed ResultingList)
    ∷ rule calculation.LOW (MaybeListed ResultingList)
    ∷ rule calculation.EQUAL (MaybeListed ResultingList)
    ∷ rule calculation.COMMENTS Blank
    ∷ []

unfoldable pub output_line_rules : List Rule
output_line_rules =
    rule shared.FILENAME MaybeName
    ∷ rule output.TYPE (OneOf (text (codes "H") ∷ text (codes "D") ∷ text (codes "T") ∷ text (codes "E") ∷ []))
    ∷ rule output.SKIP_BEFORE (MaybeNumber 1 66)
    ∷ rule output.SKIP_AFTER (MaybeNumber 1 66)
    ∷ rule output.INDICATOR_1 MaybeCondition
    ∷ rule output.INDICATOR_2 MaybeCondition
    ∷ rule output.INDICATOR_3 MaybeCondition
    ∷ blank 32 74
    ∷ []

-- AND and OR lines
unfoldable pub output_group_rules : List Rule
output_group_rules =
    blank 17 22  -- spaces and skips
    ∷ rule output.INDICATOR_1 MaybeCondition
    ∷ rule output.INDICATOR_2 MaybeCondition
    ∷ rule output.INDICATOR_3 MaybeCondition
    ∷ blank 32 74
    ∷ []

unfoldable pub output_field_rules : List Rule
output_field_rules =
    blank 7 22
    ∷ rule output.INDICATOR_1 MaybeCondition
    ∷ rule output.INDICATOR_2 MaybeCondition
    ∷ rule output.INDICATOR_3 MaybeCondition
    ∷ rule output.FIELD_NAME MaybeName
    ∷ rule output.EDIT_CODE MaybeEditCode
    ∷ rule output.BLANK_AFTER (maybe (codes "B"))
    ∷ rule output.END_POSITION (Number 1 9999)
    ∷ rule output.PACKED (maybe (codes "P"))
    ∷ rule output.CONSTANT MaybeConstant
    ∷ blank 71 74
    ∷ []

abbrev pub rules_of : CardKind → List Rule
rules_of Comment = []
rules_of Unknown = []
rules_of Header = header_rules
rules_of File = file_rules
rules_of Record = record_rules
rules_of RecordAnd = record_and_rules
rules_of RecordOr = record_or_rules
rules_of Field = field_rules
rules_of Calculation = calculation_rules
rules_of OutputLine = output_line_rules
rules_of OutputAnd = output_group_rules
rules_of OutputOr = output_group_rules
rules_of OutputField = output_field_rules
