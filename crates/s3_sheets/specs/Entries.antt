-- Entries of the sheets: constants, literals, factors, names, record identification codes, operations, and level entries of calculations.
use Rattle.std.specs.Prelude.{ℕ, ℤ, pos, neg_ℤ, ◌+◌, ◌-◌, nat_lt, List, [], ◌∷◌, ◌++◌, Bool, true, false, ◌==◌, ◌&&◌, ◌||◌, Option, Some, None, option_map, length, take, drop, map, replicate, slice_index, if◌then◌else◌, codes}
use Rattle.std.specs.List.{prefix_len}
use Rattle.std.specs.Option.{option_or, option_and_then}
use Rattle.std.specs.Int.Digits.{number_from_digits}
use Rattle.s3_cards.specs.declared.ebcdic.TheConstants.{BLANK, APOSTROPHE, PERIOD, PLUS, MINUS, LETTER_C, LETTER_D, LETTER_N, LETTER_Z}
use Rattle.s3_cards.specs.Codes.{ebcdic}
use Rattle.s3_cards.specs.Names.{is_digit, is_name, name_of}
use Rattle.s3_cards.specs.declared.name.Name.{Name}
use Rattle.s3_sheets.specs.Columns.{are_blank, same_codes, digit, number_between}
use Rattle.s3_sheets.specs.Indicators.{listed}
use Rattle.s3_sheets.specs.declared.indicators.IndicatorList.TheVariants.{Total as TotalList}
use Rattle.s3_lines.specs.declared.sheet.Constant.{Constant}
use Rattle.s3_lines.specs.declared.sheet.NumberLiteral.{NumberLiteral}
use Rattle.s3_lines.specs.declared.sheet.TextLiteral.{TextLiteral}
use Rattle.s3_lines.specs.declared.sheet.Factor.{Factor}
use Rattle.s3_lines.specs.declared.sheet.Factor.TheVariants.{Named, Number, Text}
use Rattle.s3_lines.specs.declared.sheet.CodePart.{CodePart}
use Rattle.s3_lines.specs.declared.sheet.CodePart.TheVariants.{Character, Zone, Digit}
use Rattle.s3_lines.specs.declared.sheet.RecordCode.{RecordCode}
use Rattle.s3_lines.specs.declared.sheet.CalculationTime.{CalculationTime}
use Rattle.s3_lines.specs.declared.sheet.CalculationTime.TheVariants.{Detail, Total, Subroutine, And, Or}
use Rattle.s3_lines.specs.declared.sheet.Operation.{Operation}
use Rattle.s3_lines.specs.declared.sheet.Operation.TheVariants.{Add, Subtract, Multiply, Divide, ZeroAdd, ZeroSubtract, MoveRemainder, Compare, Move, MoveLeft, SetOn, SetOff, GoTo, Tag, ExecuteSubroutine, BeginSubroutine, EndSubroutine, Except, Chain, Unknown}

-- ---- constants
-- The text up to its closing apostrophe, after which all columns must be blank. An apostrophe within the text is written twice.
-- `ended` means that the code before these is an apostrophe; it closes the text unless another apostrophe follows.
unfoldable pub text_of : Bool → List ℕ → Option (List ℕ)
text_of true [] = Some []
text_of false [] = None
text_of true (code ∷ codes) =
    if code == APOSTROPHE then option_map (λ text. code ∷ text) (text_of false codes)
    else if are_blank (code ∷ codes) then Some []
    else None
text_of false (code ∷ codes) =
    let ends : Bool = code == APOSTROPHE in
    option_map (λ text. if ends then text else code ∷ text) (text_of ends codes)

abbrev pub unless_empty : List ℕ → Option (List ℕ)
unless_empty [] = None
unless_empty (code ∷ codes) = Some (code ∷ codes)

-- the text of a constant in apostrophes: at least one character, and only blanks after the closing apostrophe
unfoldable pub constant_text : List ℕ → Option (List ℕ)
constant_text [] = None
constant_text (first ∷ codes) = if first == APOSTROPHE then option_and_then unless_empty (text_of false codes) else None

abbrev pub constant : List ℕ → Constant
constant text = record { codes = text ++ replicate (24 - length text) BLANK; length = length text }

-- ---- factors
abbrev pub without_sign : List ℕ → List ℕ
without_sign [] = []
without_sign (code ∷ codes) = if (code == PLUS) || (code == MINUS) then codes else code ∷ codes

abbrev pub is_negative : List ℕ → Bool
is_negative [] = false
is_negative (code ∷ codes) = code == MINUS

abbrev pub without_point : List ℕ → List ℕ
without_point [] = []
without_point (code ∷ codes) = if code == PERIOD then codes else code ∷ codes

abbrev pub signed : Bool → ℕ → ℤ
signed true number = neg_ℤ (pos number)
signed false number = pos number

-- A numeric literal: an optional sign, then digits with at most one decimal point, then blanks.
-- Ten columns hold at most nine decimals.
unfoldable pub number_literal_of : List ℕ → Option NumberLiteral
number_literal_of entry =
    let unsigned : List ℕ = without_sign entry in
    let whole : ℕ = prefix_len is_digit unsigned in
    let fraction : List ℕ = without_point (drop whole unsigned) in
    let decimals : ℕ = prefix_len is_digit fraction in
    if nat_lt 0 (whole + decimals) && are_blank (drop decimals fraction)
    then Some (record {
      value = signed (is_negative entry) (number_from_digits 10 (map digit (take whole unsigned) ++ map digit (take decimals fraction)));
      digits = whole + decimals;
      decimals = decimals;
    })
    else None

-- a text literal; ten columns hold at most eight characters
abbrev pub text_literal : List ℕ → TextLiteral
text_literal text = record { codes = text ++ replicate (8 - length text) BLANK; length = length text }

-- a name of at most `longest` characters, followed by blanks
abbrev pub name_within : ℕ → List ℕ → Option Name
name_within longest entry = if is_name (take longest entry) && are_blank (drop longest entry) then Some (name_of (take longest entry)) else None

-- a literal, or a name of at most `longest` characters; none if the columns are blank
unfoldable pub factor_of : ℕ → List ℕ → Option (Factor Name)
factor_of longest entry =
    option_or (option_map (λ text. Text (text_literal text)) (constant_text entry))
    (option_or (option_map (λ literal. Number literal) (number_literal_of entry)) (option_map (λ name. Named name) (name_within longest entry)))

-- ---- record identification codes
-- the part of a character that a code compares: C character, Z zone, D digit
abbrev pub part_of : ℕ → Option CodePart
part_of code =
    if code == LETTER_C then Some Character
    else if code == LETTER_Z then Some Zone
    else if code == LETTER_D then Some Digit
    else None

abbrev pub code_with : Option ℕ → Option CodePart → Bool → ℕ → Option RecordCode
code_with (Some position) (Some part) negated character =
    Some (record { position = position; negated = negated; part = part; character = character })
code_with _ _ negated character = None

-- the record identification code in seven columns: position, blank or N, part, character; none if the columns are blank
unfoldable pub code_of : List ℕ → Option RecordCode
code_of entry =
    code_with (number_between 1 9999 (take 4 entry)) (part_of (slice_index entry 5)) (slice_index entry 4 == LETTER_N) (slice_index entry 6)

-- ---- calculations
-- the level entry of a calculation card: when it is performed
unfoldable pub time_of : List ℕ → Option CalculationTime
time_of entry =
    if are_blank entry then Some Detail
    else if same_codes entry (ebcdic (codes "SR")) then Some Subroutine
    else if same_codes entry (ebcdic (codes "AN")) then Some And
    else if same_codes entry (ebcdic (codes "OR")) then Some Or
    else option_map (λ indicator. Total indicator) (listed TotalList entry)

-- the operation codes
unfoldable pub operations : List (List ℕ × Operation)
operations =
    (ebcdic (codes "ADD  "), Add)
    ∷ (ebcdic (codes "SUB  "), Subtract)
    ∷ (ebcdic (codes "MULT "), Multiply)
    ∷ (ebcdic (codes "DIV  "), Divide)
    ∷ (ebcdic (codes "Z-ADD"), ZeroAdd)
    ∷ (ebcdic (codes "Z-SUB"), ZeroSubtract)
    ∷ (ebcdic (codes "MVR  "), MoveRemainder)
    ∷ (ebcdic (codes "COMP "), Compare)
    ∷ (ebcdic (codes "MOVE "), Move)
    ∷ (ebcdic (codes "MOVEL"), MoveLeft)
    ∷ (ebcdic (codes "SETON"), SetOn)
    ∷ (ebcdic (codes "SETOF"), SetOff)
    ∷ (ebcdic (codes "GOTO "), GoTo)
    ∷ (ebcdic (codes "TAG  "), Tag)
    ∷ (ebcdic (codes "EXSR "), ExecuteSubroutine)
    ∷ (ebcdic (codes "BEGSR"), BeginSubroutine)
    ∷ (ebcdic (codes "ENDSR"), EndSubroutine)
    ∷ (ebcdic (codes "EXCPT"), Except)
    ∷ (ebcdic (codes "CHAIN"), Chain)
    ∷ []

-- the operation of a code in a table; `Unknown` if the table doesn't have it
abbrev pub operation_in : List (List ℕ × Operation) → List ℕ → Operation
operation_in [] word = Unknown
operation_in (row ∷ rows) word = if same_codes word row.0 then row.1 else operation_in rows word

-- the operation in these columns; none if they are blank
abbrev pub operation_of : List ℕ → Option Operation
operation_of entry = if are_blank entry then None else Some (operation_in operations entry)
