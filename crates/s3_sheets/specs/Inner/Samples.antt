-- Cards and their diagnostics, worked by hand.
use Rattle.std.specs.Prelude.{◌≡◌, ℕ, pos, negsuc, ◌+◌, ◌-◌, Bool, true, false, Option, Some, None, List, [], ◌∷◌, ◌++◌, length, take, drop, replicate, map, codes}
use Rattle.s3_cards.specs.declared.ebcdic.TheConstants.{BLANK, MINUS, DIGIT_5}
use Rattle.s3_cards.specs.Codes.{ebcdic}
use Rattle.s3_lines.specs.declared.diagnostic.Diagnostic.{Diagnostic}
use Rattle.s3_cards.specs.Names.{name_of}
use Rattle.s3_cards.specs.declared.name.Name.{Name}
use Rattle.s3_edit.specs.declared.code.EditCode.TheVariants.{Edited as EditedCode}
use Rattle.s3_edit.specs.declared.code.Sign.TheVariants.{Minus as MinusSign}
use Rattle.s3_lines.specs.declared.indicator.Indicator.{Indicator}
use Rattle.s3_lines.specs.declared.indicator.Indicator.TheVariants.{General, Level, LastRecord, Matching, Halt, FirstPage, Overflow, Switch}
use Rattle.s3_lines.specs.declared.indicator.Condition.{Condition}
use Rattle.s3_lines.specs.declared.sheet.FileUse.TheVariants.{Input as InputUse, Output as OutputUse, Update as UpdateUse}
use Rattle.s3_lines.specs.declared.sheet.Designation.TheVariants.{Primary, Chained}
use Rattle.s3_lines.specs.declared.sheet.Device.TheVariants.{CardReader, Printer, Disk}
use Rattle.s3_lines.specs.declared.sheet.CodePart.TheVariants.{Zone, Digit}
use Rattle.s3_lines.specs.declared.sheet.RecordCode.{RecordCode}
use Rattle.s3_lines.specs.declared.sheet.FieldForm.TheVariants.{Packed as PackedForm, PackedText}
use Rattle.s3_lines.specs.declared.sheet.InputLine.TheVariants.{Record as RecordLine, And as RecordAnd, Or as RecordOr, Field as FieldCard}
use Rattle.s3_lines.specs.declared.sheet.Factor.TheVariants.{Named, Number, Text}
use Rattle.s3_lines.specs.declared.sheet.Operation.TheVariants.{Add, Chain, Unknown}
use Rattle.s3_lines.specs.declared.sheet.Shape.TheVariants.{Alphanumeric, Numeric}
use Rattle.s3_lines.specs.declared.sheet.CalculationTime.TheVariants.{Detail as DetailTime, Total, Subroutine, And}
use Rattle.s3_lines.specs.declared.sheet.OutputKind.TheVariants.{Heading, Total as TotalLine, Exception}
use Rattle.s3_lines.specs.declared.sheet.Spacing.{Spacing}
use Rattle.s3_lines.specs.declared.sheet.OutputForm.TheVariants.{Packed, Edited}
use Rattle.s3_lines.specs.declared.sheet.OutputContent.TheVariants.{Constant as ConstantContent, Field as FieldContent}
use Rattle.s3_lines.specs.declared.sheet.OutputLine.TheVariants.{Line as LineCard, Or as OutputOr, Field as OutputFieldCard}
use Rattle.s3_lines.specs.declared.sheet.SheetLine.TheVariants.{Header, File, Input, Calculation, Output}
use Rattle.s3_lines.specs.declared.sheet.Line.{Line}
use Rattle.s3_sheets.specs.Sheets.{sheet_diagnostics}

abbrev pub blank_card : List ℕ
blank_card = replicate 96 BLANK

-- a card with some characters from a column on
abbrev pub put : ℕ → List ℕ → List ℕ → List ℕ
put column characters card = take (column - 1) card ++ ebcdic characters ++ drop (column - 1 + length characters) card

-- a card with texts, each from its column on
abbrev pub punched : List ℕ → List (ℕ × List ℕ) → List ℕ
punched card [] = card
punched card (piece ∷ pieces) = put piece.0 piece.1 (punched card pieces)

-- a Control specification for the program LIST
abbrev pub header_card : List ℕ
header_card = punched blank_card ((6, codes "H") ∷ (75, codes "LIST") ∷ [])

-- a card file
abbrev pub card_file : List ℕ
card_file = punched blank_card ((6, codes "F") ∷ (7, codes "CARDS") ∷ (15, codes "IP") ∷ (19, codes "F") ∷ (26, codes "96") ∷ (40, codes "MFCU1") ∷ [])

-- a print file
abbrev pub print_file : List ℕ
print_file = punched blank_card ((6, codes "F") ∷ (7, codes "PRINT") ∷ (15, codes "O") ∷ (19, codes "F") ∷ (25, codes "132") ∷ (40, codes "PRINTER") ∷ [])

-- a file on disk
abbrev pub disk_file : List ℕ
disk_file = punched blank_card ((6, codes "F") ∷ (7, codes "DATA") ∷ (15, codes "IP") ∷ (19, codes "F") ∷ (25, codes "100") ∷ (40, codes "DISK") ∷ [])

-- an indexed file
abbrev pub indexed_file : List ℕ
indexed_file = punched disk_file ((29, codes "10") ∷ (31, codes "AI") ∷ (38, codes "1") ∷ [])

-- a record line
abbrev pub record_card : List ℕ
record_card = punched blank_card ((6, codes "I") ∷ (7, codes "CARDS") ∷ (15, codes "AA") ∷ (19, codes "01") ∷ [])

-- an AND line of Input specifications
abbrev pub and_card : List ℕ
and_card = punched blank_card ((6, codes "I") ∷ (14, codes "AND") ∷ (24, codes "1") ∷ (26, codes "CA") ∷ [])

-- an OR line of Input specifications
abbrev pub or_card : List ℕ
or_card = punched blank_card ((6, codes "I") ∷ (14, codes "OR") ∷ (19, codes "02") ∷ [])

-- a field line
abbrev pub field_card : List ℕ
field_card = punched blank_card ((6, codes "I") ∷ (47, codes "1") ∷ (51, codes "3") ∷ (53, codes "TEXT") ∷ [])

-- a calculation card
abbrev pub add_card : List ℕ
add_card = punched blank_card ((6, codes "C") ∷ (18, codes "A") ∷ (28, codes "ADD") ∷ (33, codes "B") ∷ (43, codes "C") ∷ [])

-- an output line card
abbrev pub line_card : List ℕ
line_card = punched blank_card ((6, codes "O") ∷ (7, codes "PRINT") ∷ (15, codes "D") ∷ (24, codes "01") ∷ [])

-- an output field card
abbrev pub put_card : List ℕ
put_card = punched blank_card ((6, codes "O") ∷ (32, codes "TEXT") ∷ (43, codes "3") ∷ [])

-- an output field card with a constant
abbrev pub constant_card : List ℕ
constant_card = punched blank_card ((6, codes "O") ∷ (43, codes "4") ∷ (45, codes "'HEAD'") ∷ [])

-- a card, the cards before it, and the card's diagnostics
pub record Row : Type 0 where
  pub before : List (List ℕ)
  pub card : List ℕ
  pub numbers : List ℕ

abbrev pub row : List (List ℕ) → List ℕ → List ℕ → Row
row before card numbers = record { before = before; card = card; numbers = numbers }

abbrev pub found : Row → List Diagnostic
found row = sheet_diagnostics 0 (row.before ++ row.card ∷ [])

abbrev pub wanted : Row → List Diagnostic
wanted row = map (λ number. record { card = length row.before + 1; number = number }) row.numbers

-- each card gets exactly its numbers
abbrev pub AreAsWanted : List Row → Type 0
AreAsWanted rows = map found rows ≡ map wanted rows

-- a card of no sheet gets 1, as does a sheet out of order; comments are skipped
unfoldable pub order_rows : List Row
order_rows =
    row [] blank_card (1 ∷ [])
    ∷ row [] (punched blank_card ((6, codes "X") ∷ (7, codes "CARDS") ∷ [])) (1 ∷ [])
    ∷ row [] (punched blank_card ((6, codes "X") ∷ (7, codes "*") ∷ [])) []
    ∷ row [] header_card []
    ∷ row (header_card ∷ []) header_card (1 ∷ [])
    ∷ row (card_file ∷ []) header_card (1 ∷ [])
    ∷ row (record_card ∷ []) card_file (1 ∷ [])
    ∷ row (add_card ∷ []) field_card (1 ∷ [])
    ∷ row (line_card ∷ []) add_card (1 ∷ [])
    ∷ row ((punched line_card ((7, codes "*") ∷ [])) ∷ []) add_card []
    ∷ row [] (punched header_card ((75, codes "1LIST") ∷ [])) (3 ∷ [])
    ∷ row [] (punched header_card ((75, codes " LIST") ∷ [])) (3 ∷ [])
    ∷ row [] (punched header_card ((75, codes "      ") ∷ (10, codes "ANYTHING") ∷ [])) []
    ∷ []

-- File Description cards
unfoldable pub file_rows_1 : List Row
file_rows_1 =
    row [] card_file []
    ∷ row [] print_file []
    ∷ row [] disk_file []
    ∷ row [] indexed_file []
    ∷ row [] (punched card_file ((7, codes "     ") ∷ [])) (3 ∷ [])
    ∷ row [] (punched card_file ((7, codes "1") ∷ [])) (3 ∷ [])
    ∷ row [] (punched card_file ((7, codes " CARDS") ∷ [])) (3 ∷ [])
    ∷ row [] (punched card_file ((7, codes "CA DS") ∷ [])) (3 ∷ [])
    ∷ row [] (punched card_file ((15, codes "X") ∷ [])) (2 ∷ [])
    ∷ row [] (punched card_file ((15, codes " ") ∷ [])) (2 ∷ [])
    ∷ row [] (punched disk_file ((15, codes "U") ∷ [])) []
    ∷ row [] (punched disk_file ((15, codes "O ") ∷ [])) []
    ∷ row [] (punched card_file ((16, codes "T") ∷ [])) (2 ∷ [])
    ∷ row [] (punched card_file ((16, codes "S") ∷ [])) []
    ∷ row [] (punched disk_file ((16, codes "C") ∷ (28, codes "R") ∷ [])) []
    ∷ row [] (punched card_file ((17, codes "E") ∷ [])) []
    ∷ row [] (punched card_file ((16, codes "SE") ∷ [])) []
    ∷ row [] (punched disk_file ((16, codes "CE") ∷ [])) (2 ∷ [])
    ∷ row [] (punched disk_file ((15, codes "O E") ∷ [])) (2 ∷ [])
    ∷ row [] (punched card_file ((17, codes "X") ∷ [])) (2 ∷ [])
    ∷ row [] (punched card_file ((18, codes "A") ∷ [])) []
    ∷ row [] (punched card_file ((18, codes "D") ∷ [])) (2 ∷ [])
    ∷ row [] (punched card_file ((19, codes "V") ∷ [])) (2 ∷ [])
    ∷ row [] (punched card_file ((19, codes " ") ∷ [])) (2 ∷ [])
    ∷ row [] (punched card_file ((20, codes "9999") ∷ [])) []
    ∷ []

-- File Description cards
unfoldable pub file_rows_2 : List Row
file_rows_2 =
    row [] (punched card_file ((23, codes "0") ∷ [])) []
    ∷ row [] (punched card_file ((20, codes "96") ∷ [])) (4 ∷ [])
    ∷ row [] (punched card_file ((23, codes "X") ∷ [])) (4 ∷ [])
    ∷ row [] (punched card_file ((26, codes "  ") ∷ [])) (4 ∷ [])
    ∷ row [] (punched card_file ((26, codes " 0") ∷ [])) (4 ∷ [])
    ∷ row [] (punched card_file ((26, codes "97") ∷ [])) (4 ∷ [])
    ∷ row [] (punched print_file ((25, codes "133") ∷ [])) (4 ∷ [])
    ∷ row [] (punched disk_file ((24, codes "1024") ∷ [])) []
    ∷ row [] (punched disk_file ((24, codes "1025") ∷ [])) (4 ∷ [])
    ∷ row [] (punched card_file ((24, codes "0001") ∷ [])) []
    ∷ row [] (punched disk_file ((28, codes "L") ∷ [])) (2 ∷ [])
    ∷ row [] (punched disk_file ((30, codes "5") ∷ [])) (2 ∷ [])
    ∷ row [] (punched disk_file ((38, codes "1") ∷ [])) (2 ∷ [])
    ∷ row [] (punched disk_file ((29, codes "30") ∷ [])) (2 ∷ 4 ∷ [])
    ∷ row [] (punched disk_file ((35, codes "1") ∷ [])) (2 ∷ 4 ∷ [])
    ∷ row [] (punched indexed_file ((29, codes "30") ∷ [])) (4 ∷ [])
    ∷ row [] (punched indexed_file ((29, codes "  ") ∷ [])) (4 ∷ [])
    ∷ row [] (punched indexed_file ((38, codes " ") ∷ [])) (4 ∷ [])
    ∷ row [] (punched indexed_file ((38, codes "0") ∷ [])) (4 ∷ [])
    ∷ row [] (punched indexed_file ((37, codes "91") ∷ [])) []
    ∷ row [] (punched indexed_file ((37, codes "92") ∷ [])) (4 ∷ [])
    ∷ row [] (punched indexed_file ((29, codes "29") ∷ (37, codes "72") ∷ [])) []
    ∷ row [] (punched disk_file ((31, codes "K") ∷ [])) (2 ∷ [])
    ∷ row [] (punched disk_file ((32, codes "T") ∷ [])) (2 ∷ [])
    ∷ row [] (punched indexed_file ((32, codes " ") ∷ [])) (2 ∷ [])
    ∷ []

-- File Description cards
unfoldable pub file_rows_3 : List Row
file_rows_3 =
    row [] (punched disk_file ((31, codes "A") ∷ [])) []
    ∷ row [] (punched print_file ((33, codes "OA") ∷ [])) []
    ∷ row [] (punched print_file ((33, codes "OV") ∷ [])) []
    ∷ row [] (punched print_file ((33, codes "OH") ∷ [])) (2 ∷ [])
    ∷ row [] (punched print_file ((33, codes "01") ∷ [])) (2 ∷ [])
    ∷ row [] (punched card_file ((33, codes "OA") ∷ [])) (2 ∷ [])
    ∷ row [] (punched card_file ((39, codes "X") ∷ [])) (2 ∷ [])
    ∷ row [] (punched card_file ((40, codes "TAPE ") ∷ [])) (2 ∷ [])
    ∷ row [] (punched card_file ((40, codes "MFCU2") ∷ [])) []
    ∷ row [] (punched card_file ((40, codes " MFCU1") ∷ [])) (2 ∷ [])
    ∷ row [] (punched card_file ((26, codes "97") ∷ (40, codes "MFCU3") ∷ [])) (2 ∷ [])
    ∷ row [] (punched card_file ((47, codes "S") ∷ [])) (2 ∷ [])
    ∷ row [] (punched card_file ((65, codes "X") ∷ [])) (2 ∷ [])
    ∷ row [] (punched disk_file ((66, codes "A") ∷ [])) []
    ∷ row [] (punched disk_file ((66, codes "U") ∷ [])) (2 ∷ [])
    ∷ row [] (punched card_file ((67, codes "X") ∷ [])) (2 ∷ [])
    ∷ row [] (punched card_file ((71, codes "U1") ∷ [])) []
    ∷ row [] (punched card_file ((71, codes "U8") ∷ [])) []
    ∷ row [] (punched card_file ((71, codes "U9") ∷ [])) (2 ∷ [])
    ∷ row [] (punched card_file ((71, codes "01") ∷ [])) (2 ∷ [])
    ∷ row [] (punched card_file ((73, codes "X") ∷ [])) (2 ∷ [])
    ∷ row [] (punched card_file ((75, codes "ANY") ∷ [])) []
    ∷ row [] (punched card_file ((7, codes "1") ∷ (15, codes "X") ∷ (26, codes "97") ∷ [])) (2 ∷ 3 ∷ 4 ∷ [])
    ∷ []

-- record lines after a card file
unfoldable pub record_rows_1 : List Row
record_rows_1 =
    row (card_file ∷ []) record_card []
    ∷ row (card_file ∷ []) (punched record_card ((7, codes "      C") ∷ [])) (3 ∷ [])
    ∷ row (card_file ∷ []) (punched record_card ((7, codes "CARDS A") ∷ [])) (3 ∷ [])
    ∷ row (card_file ∷ []) (punched record_card ((15, codes "01") ∷ [])) (2 ∷ [])
    ∷ row (card_file ∷ []) (punched record_card ((15, codes "A ") ∷ [])) (2 ∷ [])
    ∷ row (card_file ∷ []) (punched record_card ((17, codes "1") ∷ [])) (2 ∷ [])
    ∷ row (card_file ∷ []) (punched record_card ((18, codes "O") ∷ [])) (2 ∷ [])
    ∷ row (card_file ∷ []) (punched record_card ((19, codes "  ") ∷ [])) (2 ∷ [])
    ∷ row (card_file ∷ []) (punched record_card ((19, codes "00") ∷ [])) (2 ∷ [])
    ∷ row (card_file ∷ []) (punched record_card ((19, codes "L1") ∷ [])) (2 ∷ [])
    ∷ row (card_file ∷ []) (punched record_card ((19, codes "99") ∷ [])) []
    ∷ row (card_file ∷ []) (punched record_card ((19, codes "H1") ∷ [])) []
    ∷ row (card_file ∷ []) (punched record_card ((19, codes "H0") ∷ [])) (2 ∷ [])
    ∷ row (card_file ∷ []) (punched record_card ((24, codes "1") ∷ (26, codes "CA") ∷ [])) []
    ∷ row (card_file ∷ []) (punched record_card ((23, codes "96") ∷ (25, codes "NZ-") ∷ [])) []
    ∷ row (card_file ∷ []) (punched record_card ((24, codes "1") ∷ (26, codes "D ") ∷ [])) []
    ∷ row (card_file ∷ []) (punched record_card ((23, codes "97") ∷ (26, codes "CA") ∷ [])) (4 ∷ [])
    ∷ row (card_file ∷ []) (punched record_card ((24, codes "0") ∷ (26, codes "CA") ∷ [])) (4 ∷ [])
    ∷ row (card_file ∷ []) (punched record_card ((26, codes "CA") ∷ [])) (4 ∷ [])
    ∷ row (card_file ∷ []) (punched record_card ((24, codes "1") ∷ [])) (2 ∷ [])
    ∷ []

-- record lines after a card file
unfoldable pub record_rows_2 : List Row
record_rows_2 =
    row (card_file ∷ []) (punched record_card ((24, codes "1") ∷ (25, codes "XCA") ∷ [])) (2 ∷ [])
    ∷ row (card_file ∷ []) (punched record_card ((24, codes "1") ∷ (26, codes "XA") ∷ [])) (2 ∷ [])
    ∷ row (card_file ∷ []) (punched record_card ((27, codes "A") ∷ [])) (2 ∷ 4 ∷ [])
    ∷ row (card_file ∷ []) (punched record_card ((30, codes "97") ∷ (33, codes "CA") ∷ [])) (4 ∷ [])
    ∷ row (card_file ∷ []) (punched record_card ((38, codes "1") ∷ (40, codes "A") ∷ [])) (2 ∷ [])
    ∷ row (card_file ∷ []) (punched record_card ((42, codes "1") ∷ [])) (2 ∷ [])
    ∷ row (card_file ∷ []) (punched record_card ((74, codes "X") ∷ [])) (2 ∷ [])
    ∷ row (card_file ∷ record_card ∷ []) and_card []
    ∷ row (card_file ∷ []) and_card []
    ∷ row (card_file ∷ []) (punched and_card ((19, codes "02") ∷ [])) (2 ∷ [])
    ∷ row (card_file ∷ []) (punched and_card ((17, codes "1") ∷ [])) (2 ∷ [])
    ∷ row (card_file ∷ record_card ∷ []) (punched and_card ((23, codes "97") ∷ [])) (4 ∷ [])
    ∷ row (card_file ∷ []) (punched and_card ((42, codes "X") ∷ [])) (2 ∷ [])
    ∷ row (card_file ∷ record_card ∷ []) or_card []
    ∷ row (card_file ∷ []) (punched or_card ((19, codes "  ") ∷ [])) (2 ∷ [])
    ∷ row (card_file ∷ []) (punched or_card ((19, codes "LR") ∷ [])) (2 ∷ [])
    ∷ row (card_file ∷ []) (punched or_card ((18, codes "1") ∷ [])) (2 ∷ [])
    ∷ row (card_file ∷ record_card ∷ []) (punched or_card ((23, codes "97") ∷ (26, codes "CA") ∷ [])) (4 ∷ [])
    ∷ row (card_file ∷ []) (punched record_card ((7, codes "OTHER") ∷ (21, codes "9999") ∷ (26, codes "CA") ∷ [])) []
    ∷ []

-- field lines after a disk file and its record line
unfoldable pub field_rows_1 : List Row
field_rows_1 =
    row (disk_file ∷ (punched record_card ((7, codes "DATA ") ∷ [])) ∷ []) field_card []
    ∷ row (disk_file ∷ (punched record_card ((7, codes "DATA ") ∷ [])) ∷ []) (punched field_card ((15, codes "AA") ∷ [])) (2 ∷ [])
    ∷ row (disk_file ∷ (punched record_card ((7, codes "DATA ") ∷ [])) ∷ []) (punched field_card ((42, codes "X") ∷ [])) (2 ∷ [])
    ∷ row (disk_file ∷ (punched record_card ((7, codes "DATA ") ∷ [])) ∷ []) (punched field_card ((43, codes "P") ∷ [])) []
    ∷ row (disk_file ∷ (punched record_card ((7, codes "DATA ") ∷ [])) ∷ []) (punched field_card ((43, codes "P") ∷ (52, codes "2") ∷ [])) []
    ∷ row (disk_file ∷ (punched record_card ((7, codes "DATA ") ∷ [])) ∷ []) (punched field_card ((43, codes "B") ∷ [])) (2 ∷ [])
    ∷ row (disk_file ∷ (punched record_card ((7, codes "DATA ") ∷ [])) ∷ []) (punched field_card ((47, codes " ") ∷ [])) (4 ∷ [])
    ∷ row (disk_file ∷ (punched record_card ((7, codes "DATA ") ∷ [])) ∷ []) (punched field_card ((47, codes "0") ∷ [])) (4 ∷ [])
    ∷ row (disk_file ∷ (punched record_card ((7, codes "DATA ") ∷ [])) ∷ []) (punched field_card ((47, codes "X") ∷ [])) (4 ∷ [])
    ∷ row (disk_file ∷ (punched record_card ((7, codes "DATA ") ∷ [])) ∷ []) (punched field_card ((51, codes " ") ∷ [])) (4 ∷ [])
    ∷ row (disk_file ∷ (punched record_card ((7, codes "DATA ") ∷ [])) ∷ []) (punched field_card ((47, codes "4") ∷ [])) (4 ∷ [])
    ∷ row (disk_file ∷ (punched record_card ((7, codes "DATA ") ∷ [])) ∷ []) (punched field_card ((47, codes "3") ∷ [])) []
    ∷ row (disk_file ∷ (punched record_card ((7, codes "DATA ") ∷ [])) ∷ []) (punched field_card ((49, codes "100") ∷ [])) []
    ∷ row (disk_file ∷ (punched record_card ((7, codes "DATA ") ∷ [])) ∷ []) (punched field_card ((49, codes "101") ∷ [])) (4 ∷ [])
    ∷ row (disk_file ∷ (punched record_card ((7, codes "DATA ") ∷ [])) ∷ []) (punched field_card ((50, codes "15") ∷ (52, codes "0") ∷ [])) []
    ∷ row (disk_file ∷ (punched record_card ((7, codes "DATA ") ∷ [])) ∷ []) (punched field_card ((50, codes "16") ∷ (52, codes "0") ∷ [])) (4 ∷ [])
    ∷ row (disk_file ∷ (punched record_card ((7, codes "DATA ") ∷ [])) ∷ []) (punched field_card ((51, codes "8") ∷ (43, codes "P") ∷ (52, codes "9") ∷ [])) []
    ∷ row (disk_file ∷ (punched record_card ((7, codes "DATA ") ∷ [])) ∷ []) (punched field_card ((51, codes "9") ∷ (43, codes "P") ∷ (52, codes "9") ∷ [])) (4 ∷ [])
    ∷ row (disk_file ∷ (punched record_card ((7, codes "DATA ") ∷ [])) ∷ []) (punched field_card ((52, codes "3") ∷ [])) []
    ∷ row (disk_file ∷ (punched record_card ((7, codes "DATA ") ∷ [])) ∷ []) (punched field_card ((52, codes "4") ∷ [])) (4 ∷ [])
    ∷ []

-- field lines after a disk file and its record line
unfoldable pub field_rows_2 : List Row
field_rows_2 =
    row (disk_file ∷ (punched record_card ((7, codes "DATA ") ∷ [])) ∷ []) (punched field_card ((52, codes "X") ∷ [])) (4 ∷ [])
    ∷ row (disk_file ∷ (punched record_card ((7, codes "DATA ") ∷ [])) ∷ []) (punched field_card ((53, codes "    ") ∷ [])) (3 ∷ [])
    ∷ row (disk_file ∷ (punched record_card ((7, codes "DATA ") ∷ [])) ∷ []) (punched field_card ((53, codes "9TEXT") ∷ [])) (3 ∷ [])
    ∷ row (disk_file ∷ (punched record_card ((7, codes "DATA ") ∷ [])) ∷ []) (punched field_card ((53, codes " TEXT") ∷ [])) (3 ∷ [])
    ∷ row (disk_file ∷ (punched record_card ((7, codes "DATA ") ∷ [])) ∷ []) (punched field_card ((53, codes "UDATE") ∷ [])) []
    ∷ row (disk_file ∷ (punched record_card ((7, codes "DATA ") ∷ [])) ∷ []) (punched field_card ((59, codes "L1") ∷ [])) []
    ∷ row (disk_file ∷ (punched record_card ((7, codes "DATA ") ∷ [])) ∷ []) (punched field_card ((59, codes "L0") ∷ [])) (2 ∷ [])
    ∷ row (disk_file ∷ (punched record_card ((7, codes "DATA ") ∷ [])) ∷ []) (punched field_card ((59, codes "LR") ∷ [])) (2 ∷ [])
    ∷ row (disk_file ∷ (punched record_card ((7, codes "DATA ") ∷ [])) ∷ []) (punched field_card ((61, codes "M9") ∷ [])) []
    ∷ row (disk_file ∷ (punched record_card ((7, codes "DATA ") ∷ [])) ∷ []) (punched field_card ((61, codes "MR") ∷ [])) (2 ∷ [])
    ∷ row (disk_file ∷ (punched record_card ((7, codes "DATA ") ∷ [])) ∷ []) (punched field_card ((61, codes "L1") ∷ [])) (2 ∷ [])
    ∷ row (disk_file ∷ (punched record_card ((7, codes "DATA ") ∷ [])) ∷ []) (punched field_card ((63, codes "H9") ∷ [])) []
    ∷ row (disk_file ∷ (punched record_card ((7, codes "DATA ") ∷ [])) ∷ []) (punched field_card ((63, codes "MR") ∷ [])) (2 ∷ [])
    ∷ row (disk_file ∷ (punched record_card ((7, codes "DATA ") ∷ [])) ∷ []) (punched field_card ((65, codes "010203") ∷ [])) []
    ∷ row (disk_file ∷ (punched record_card ((7, codes "DATA ") ∷ [])) ∷ []) (punched field_card ((65, codes "L1") ∷ [])) (2 ∷ [])
    ∷ row (disk_file ∷ (punched record_card ((7, codes "DATA ") ∷ [])) ∷ []) (punched field_card ((67, codes "U1") ∷ [])) (2 ∷ [])
    ∷ row (disk_file ∷ (punched record_card ((7, codes "DATA ") ∷ [])) ∷ []) (punched field_card ((69, codes "OA") ∷ [])) (2 ∷ [])
    ∷ row (disk_file ∷ (punched record_card ((7, codes "DATA ") ∷ [])) ∷ []) (punched field_card ((71, codes "X") ∷ [])) (2 ∷ [])
    ∷ row [] (punched field_card ((49, codes "257") ∷ [])) (4 ∷ [])
    ∷ row [] (punched field_card ((49, codes "256") ∷ [])) []
    ∷ []

-- calculation cards
unfoldable pub calculation_rows_1 : List Row
calculation_rows_1 =
    row [] add_card []
    ∷ row [] (punched add_card ((7, codes "L0") ∷ [])) []
    ∷ row [] (punched add_card ((7, codes "L9") ∷ [])) []
    ∷ row [] (punched add_card ((7, codes "LR") ∷ [])) []
    ∷ row [] (punched add_card ((7, codes "SR") ∷ [])) []
    ∷ row [] (punched add_card ((7, codes "AN") ∷ [])) []
    ∷ row [] (punched add_card ((7, codes "OR") ∷ [])) []
    ∷ row [] (punched add_card ((7, codes "LA") ∷ [])) (2 ∷ [])
    ∷ row [] (punched add_card ((7, codes "01") ∷ [])) (2 ∷ [])
    ∷ row [] (punched add_card ((7, codes "A ") ∷ [])) (2 ∷ [])
    ∷ row [] (punched add_card ((7, codes " 1") ∷ [])) (2 ∷ [])
    ∷ row [] (punched add_card ((7, codes "MR") ∷ [])) (2 ∷ [])
    ∷ row [] (punched add_card ((9, codes " 01") ∷ [])) []
    ∷ row [] (punched add_card ((9, codes "N99") ∷ [])) []
    ∷ row [] (punched add_card ((9, codes " L0") ∷ [])) []
    ∷ row [] (punched add_card ((9, codes " LR") ∷ [])) []
    ∷ row [] (punched add_card ((9, codes " MR") ∷ [])) []
    ∷ row [] (punched add_card ((9, codes "NH1") ∷ [])) []
    ∷ row [] (punched add_card ((9, codes " 1P") ∷ [])) []
    ∷ row [] (punched add_card ((9, codes " OA") ∷ [])) []
    ∷ row [] (punched add_card ((9, codes " OV") ∷ [])) []
    ∷ row [] (punched add_card ((9, codes " U8") ∷ [])) []
    ∷ row [] (punched add_card ((12, codes " 00") ∷ [])) (2 ∷ [])
    ∷ row [] (punched add_card ((12, codes "X01") ∷ [])) (2 ∷ [])
    ∷ row [] (punched add_card ((12, codes "N  ") ∷ [])) (2 ∷ [])
    ∷ row [] (punched add_card ((12, codes " H0") ∷ [])) (2 ∷ [])
    ∷ row [] (punched add_card ((12, codes "01 ") ∷ [])) (2 ∷ [])
    ∷ row [] (punched add_card ((12, codes " OH") ∷ [])) (2 ∷ [])
    ∷ row [] (punched add_card ((12, codes " U9") ∷ [])) (2 ∷ [])
    ∷ row [] (punched add_card ((12, codes " M1") ∷ [])) (2 ∷ [])
    ∷ row [] (punched add_card ((12, codes " 1Q") ∷ [])) (2 ∷ [])
    ∷ row [] (punched add_card ((15, codes " L ") ∷ [])) (2 ∷ [])
    ∷ row [] (punched add_card ((18, codes "TOTAL6") ∷ [])) []
    ∷ row [] (punched add_card ((18, codes "$A#@1") ∷ [])) []
    ∷ row [] (punched add_card ((18, codes "12") ∷ [])) []
    ∷ row [] (punched add_card ((18, codes "-12.5") ∷ [])) []
    ∷ []

-- calculation cards
unfoldable pub calculation_rows_2 : List Row
calculation_rows_2 =
    row [] (punched add_card ((18, codes "+.5") ∷ [])) []
    ∷ row [] (punched add_card ((18, codes "5.") ∷ [])) []
    ∷ row [] (punched add_card ((18, codes "1234567890") ∷ [])) []
    ∷ row [] (punched add_card ((18, codes "'A'") ∷ [])) []
    ∷ row [] (punched add_card ((18, codes "'12345678'") ∷ [])) []
    ∷ row [] (punched add_card ((18, codes "''''") ∷ [])) []
    ∷ row [] (punched add_card ((18, codes "TOOLONG") ∷ [])) (3 ∷ [])
    ∷ row [] (punched add_card ((18, codes "1A") ∷ [])) (3 ∷ [])
    ∷ row [] (punched add_card ((18, codes ".") ∷ [])) (3 ∷ [])
    ∷ row [] (punched add_card ((18, codes "+") ∷ [])) (3 ∷ [])
    ∷ row [] (punched add_card ((18, codes "1 2") ∷ [])) (3 ∷ [])
    ∷ row [] (punched add_card ((18, codes "1.2.3") ∷ [])) (3 ∷ [])
    ∷ row [] (punched add_card ((18, codes "''") ∷ [])) (3 ∷ [])
    ∷ row [] (punched add_card ((18, codes "'A") ∷ [])) (3 ∷ [])
    ∷ row [] (punched add_card ((18, codes "'A'B") ∷ [])) (3 ∷ [])
    ∷ row [] (punched add_card ((18, codes " A") ∷ [])) (3 ∷ [])
    ∷ row [] (punched add_card ((18, codes "--1") ∷ [])) (3 ∷ [])
    ∷ row [] (punched add_card ((18, codes " ") ∷ (28, codes "NOSUC") ∷ [])) []
    ∷ row [] (punched add_card ((28, codes "SUB") ∷ [])) []
    ∷ row [] (punched add_card ((28, codes "MULT") ∷ [])) []
    ∷ row [] (punched add_card ((28, codes "DIV") ∷ [])) []
    ∷ row [] (punched add_card ((28, codes "Z-ADD") ∷ [])) []
    ∷ row [] (punched add_card ((28, codes "Z-SUB") ∷ [])) []
    ∷ row [] (punched add_card ((28, codes "MVR") ∷ [])) []
    ∷ row [] (punched add_card ((28, codes "COMP") ∷ [])) []
    ∷ row [] (punched add_card ((28, codes "MOVE") ∷ [])) []
    ∷ row [] (punched add_card ((28, codes "MOVEL") ∷ [])) []
    ∷ row [] (punched add_card ((28, codes "SETON") ∷ [])) []
    ∷ row [] (punched add_card ((28, codes "SETOF") ∷ [])) []
    ∷ row [] (punched add_card ((28, codes "GOTO") ∷ [])) []
    ∷ row [] (punched add_card ((28, codes "TAG") ∷ [])) []
    ∷ row [] (punched add_card ((28, codes "EXSR") ∷ [])) []
    ∷ row [] (punched add_card ((28, codes "BEGSR") ∷ [])) []
    ∷ row [] (punched add_card ((28, codes "ENDSR") ∷ [])) []
    ∷ row [] (punched add_card ((28, codes "EXCPT") ∷ [])) []
    ∷ row [] (punched add_card ((28, codes "CHAIN") ∷ [])) []
    ∷ []

-- calculation cards
unfoldable pub calculation_rows_3 : List Row
calculation_rows_3 =
    row [] (punched add_card ((28, codes "NONE") ∷ [])) []
    ∷ row [] (punched add_card ((28, codes " ADD") ∷ [])) []
    ∷ row [] (punched add_card ((33, codes "DATAFILE") ∷ [])) (3 ∷ [])
    ∷ row [] (punched add_card ((28, codes "CHAIN") ∷ (33, codes "DATAFILE") ∷ [])) []
    ∷ row [] (punched add_card ((28, codes "CHAIN") ∷ (33, codes "DATAFILES") ∷ [])) (3 ∷ [])
    ∷ row [] (punched add_card ((33, codes "1X") ∷ [])) (3 ∷ [])
    ∷ row [] (punched add_card ((43, codes "1C") ∷ [])) (3 ∷ [])
    ∷ row [] (punched add_card ((43, codes " ") ∷ [])) []
    ∷ row [] (punched add_card ((51, codes "5") ∷ [])) []
    ∷ row [] (punched add_card ((49, codes "256") ∷ [])) []
    ∷ row [] (punched add_card ((49, codes "257") ∷ [])) (4 ∷ [])
    ∷ row [] (punched add_card ((51, codes "0") ∷ [])) (4 ∷ [])
    ∷ row [] (punched add_card ((51, codes "X") ∷ [])) (4 ∷ [])
    ∷ row [] (punched add_card ((50, codes "15") ∷ (52, codes "9") ∷ [])) []
    ∷ row [] (punched add_card ((50, codes "16") ∷ (52, codes "0") ∷ [])) (4 ∷ [])
    ∷ row [] (punched add_card ((52, codes "0") ∷ [])) (4 ∷ [])
    ∷ row [] (punched add_card ((51, codes "3") ∷ (52, codes "4") ∷ [])) (4 ∷ [])
    ∷ row [] (punched add_card ((51, codes "3") ∷ (52, codes "X") ∷ [])) (4 ∷ [])
    ∷ row [] (punched add_card ((53, codes "H") ∷ [])) []
    ∷ row [] (punched add_card ((53, codes "X") ∷ [])) (2 ∷ [])
    ∷ row [] (punched add_card ((54, codes "01") ∷ [])) []
    ∷ row [] (punched add_card ((54, codes "L1") ∷ [])) []
    ∷ row [] (punched add_card ((54, codes "L9") ∷ [])) []
    ∷ row [] (punched add_card ((54, codes "LR") ∷ [])) []
    ∷ row [] (punched add_card ((54, codes "H9") ∷ [])) []
    ∷ row [] (punched add_card ((54, codes "OA") ∷ [])) []
    ∷ row [] (punched add_card ((54, codes "OV") ∷ [])) []
    ∷ row [] (punched add_card ((56, codes "L0") ∷ [])) (2 ∷ [])
    ∷ row [] (punched add_card ((56, codes "MR") ∷ [])) (2 ∷ [])
    ∷ row [] (punched add_card ((56, codes "1P") ∷ [])) (2 ∷ [])
    ∷ row [] (punched add_card ((56, codes "U1") ∷ [])) (2 ∷ [])
    ∷ row [] (punched add_card ((56, codes "00") ∷ [])) (2 ∷ [])
    ∷ row [] (punched add_card ((58, codes "L0") ∷ [])) (2 ∷ [])
    ∷ row [] (punched add_card ((60, codes "X") ∷ [])) (2 ∷ [])
    ∷ row [] (punched add_card ((74, codes "X") ∷ [])) (2 ∷ [])
    ∷ row [] (punched add_card ((75, codes "ANY") ∷ [])) []
    ∷ []

-- line cards after a print file and another line card
unfoldable pub line_rows_1 : List Row
line_rows_1 =
    row (print_file ∷ line_card ∷ []) line_card []
    ∷ row (print_file ∷ line_card ∷ []) (punched line_card ((7, codes "1PRINT") ∷ [])) (3 ∷ [])
    ∷ row (print_file ∷ line_card ∷ []) (punched line_card ((7, codes "     ") ∷ [])) []
    ∷ row (print_file ∷ []) (punched line_card ((7, codes "     ") ∷ [])) (3 ∷ [])
    ∷ row (print_file ∷ put_card ∷ []) (punched line_card ((7, codes "     ") ∷ [])) (3 ∷ [])
    ∷ row (print_file ∷ line_card ∷ []) (punched line_card ((15, codes "H") ∷ [])) []
    ∷ row (print_file ∷ line_card ∷ []) (punched line_card ((15, codes "T") ∷ [])) []
    ∷ row (print_file ∷ line_card ∷ []) (punched line_card ((15, codes "E") ∷ [])) []
    ∷ row (print_file ∷ line_card ∷ []) (punched line_card ((15, codes " ") ∷ [])) (2 ∷ [])
    ∷ row (print_file ∷ line_card ∷ []) (punched line_card ((15, codes "X") ∷ [])) (2 ∷ [])
    ∷ row (print_file ∷ line_card ∷ []) (punched line_card ((16, codes "ADD") ∷ [])) []
    ∷ row (print_file ∷ line_card ∷ []) (punched line_card ((16, codes "A") ∷ [])) (2 ∷ [])
    ∷ row (print_file ∷ line_card ∷ []) (punched line_card ((16, codes "ADX") ∷ [])) (2 ∷ 4 ∷ [])
    ∷ row (print_file ∷ line_card ∷ []) (punched line_card ((17, codes "03") ∷ [])) []
    ∷ row (print_file ∷ line_card ∷ []) (punched line_card ((17, codes "4") ∷ [])) (4 ∷ [])
    ∷ row (print_file ∷ line_card ∷ []) (punched line_card ((18, codes "4") ∷ [])) (4 ∷ [])
    ∷ row (print_file ∷ line_card ∷ []) (punched line_card ((18, codes "X") ∷ [])) (4 ∷ [])
    ∷ row (print_file ∷ line_card ∷ []) (punched line_card ((19, codes "0166") ∷ [])) []
    ∷ []

-- line cards after a print file and another line card
unfoldable pub line_rows_2 : List Row
line_rows_2 =
    row (print_file ∷ line_card ∷ []) (punched line_card ((19, codes "00") ∷ [])) (4 ∷ [])
    ∷ row (print_file ∷ line_card ∷ []) (punched line_card ((19, codes "67") ∷ [])) (4 ∷ [])
    ∷ row (print_file ∷ line_card ∷ []) (punched line_card ((21, codes "67") ∷ [])) (4 ∷ [])
    ∷ row (print_file ∷ line_card ∷ []) (punched line_card ((20, codes "1") ∷ [])) []
    ∷ row (print_file ∷ line_card ∷ []) (punched line_card ((19, codes "1") ∷ [])) (4 ∷ [])
    ∷ row (print_file ∷ line_card ∷ []) (punched line_card ((23, codes "NOVN1P ") ∷ [])) []
    ∷ row (print_file ∷ line_card ∷ []) (punched line_card ((23, codes "X") ∷ [])) (2 ∷ [])
    ∷ row (print_file ∷ line_card ∷ []) (punched line_card ((26, codes " M1") ∷ [])) (2 ∷ [])
    ∷ row (print_file ∷ line_card ∷ []) (punched line_card ((29, codes " U9") ∷ [])) (2 ∷ [])
    ∷ row (print_file ∷ line_card ∷ []) (punched line_card ((32, codes "X") ∷ [])) (2 ∷ [])
    ∷ row (print_file ∷ line_card ∷ []) (punched line_card ((74, codes "X") ∷ [])) (2 ∷ [])
    ∷ row (print_file ∷ line_card ∷ []) (punched blank_card ((6, codes "O") ∷ (14, codes "AND") ∷ (24, codes "02") ∷ [])) []
    ∷ row (print_file ∷ line_card ∷ []) (punched blank_card ((6, codes "O") ∷ (14, codes "OR") ∷ (24, codes "02") ∷ [])) []
    ∷ row (print_file ∷ line_card ∷ []) (punched blank_card ((6, codes "O") ∷ (14, codes "AND") ∷ (17, codes "1") ∷ [])) (2 ∷ [])
    ∷ row (print_file ∷ line_card ∷ []) (punched blank_card ((6, codes "O") ∷ (14, codes "OR") ∷ (20, codes "1") ∷ [])) (2 ∷ [])
    ∷ row (print_file ∷ line_card ∷ []) (punched blank_card ((6, codes "O") ∷ (14, codes "OR") ∷ (24, codes "00") ∷ [])) (2 ∷ [])
    ∷ row (print_file ∷ line_card ∷ []) (punched blank_card ((6, codes "O") ∷ (14, codes "AND") ∷ (40, codes "1") ∷ [])) (2 ∷ [])
    ∷ []

-- output field cards after a print file and a line card
unfoldable pub put_rows_1 : List Row
put_rows_1 =
    row (print_file ∷ line_card ∷ []) put_card []
    ∷ row (print_file ∷ line_card ∷ []) constant_card []
    ∷ row (print_file ∷ line_card ∷ []) (punched put_card ((18, codes "1") ∷ [])) (2 ∷ [])
    ∷ row (print_file ∷ line_card ∷ []) (punched put_card ((16, codes "X") ∷ [])) (2 ∷ [])
    ∷ row (print_file ∷ line_card ∷ []) (punched put_card ((23, codes "N01") ∷ [])) []
    ∷ row (print_file ∷ line_card ∷ []) (punched put_card ((23, codes "X01") ∷ [])) (2 ∷ [])
    ∷ row (print_file ∷ line_card ∷ []) (punched put_card ((32, codes "1EXT") ∷ [])) (3 ∷ [])
    ∷ row (print_file ∷ line_card ∷ []) (punched put_card ((32, codes "PAGE") ∷ [])) []
    ∷ row (print_file ∷ line_card ∷ []) (punched put_card ((32, codes "UDATE") ∷ (38, codes "Y") ∷ [])) []
    ∷ row (print_file ∷ line_card ∷ []) (punched put_card ((38, codes "1") ∷ [])) []
    ∷ row (print_file ∷ line_card ∷ []) (punched put_card ((38, codes "4") ∷ [])) []
    ∷ row (print_file ∷ line_card ∷ []) (punched put_card ((38, codes "A") ∷ [])) []
    ∷ row (print_file ∷ line_card ∷ []) (punched put_card ((38, codes "D") ∷ [])) []
    ∷ row (print_file ∷ line_card ∷ []) (punched put_card ((38, codes "J") ∷ [])) []
    ∷ row (print_file ∷ line_card ∷ []) (punched put_card ((38, codes "M") ∷ [])) []
    ∷ row (print_file ∷ line_card ∷ []) (punched put_card ((38, codes "X") ∷ [])) []
    ∷ row (print_file ∷ line_card ∷ []) (punched put_card ((38, codes "Y") ∷ [])) []
    ∷ row (print_file ∷ line_card ∷ []) (punched put_card ((38, codes "Z") ∷ [])) []
    ∷ []

-- output field cards after a print file and a line card
unfoldable pub put_rows_2 : List Row
put_rows_2 =
    row (print_file ∷ line_card ∷ []) (punched put_card ((38, codes "5") ∷ [])) (2 ∷ [])
    ∷ row (print_file ∷ line_card ∷ []) (punched put_card ((38, codes "E") ∷ [])) (2 ∷ [])
    ∷ row (print_file ∷ line_card ∷ []) (punched put_card ((38, codes "N") ∷ [])) (2 ∷ [])
    ∷ row (print_file ∷ line_card ∷ []) (punched put_card ((38, codes "0") ∷ [])) (2 ∷ [])
    ∷ row (print_file ∷ line_card ∷ []) (punched put_card ((39, codes "B") ∷ [])) []
    ∷ row (print_file ∷ line_card ∷ []) (punched put_card ((39, codes "A") ∷ [])) (2 ∷ [])
    ∷ row (print_file ∷ line_card ∷ []) (punched put_card ((32, codes "PAGE") ∷ (39, codes "B") ∷ [])) []
    ∷ row (print_file ∷ line_card ∷ []) (punched put_card ((32, codes "UDATE") ∷ (39, codes "B") ∷ [])) (2 ∷ [])
    ∷ row (print_file ∷ line_card ∷ []) (punched put_card ((32, codes "UYEAR") ∷ (39, codes "B") ∷ [])) (2 ∷ [])
    ∷ row (print_file ∷ line_card ∷ []) (punched put_card ((43, codes " ") ∷ [])) (4 ∷ [])
    ∷ row (print_file ∷ line_card ∷ []) (punched put_card ((43, codes "0") ∷ [])) (4 ∷ [])
    ∷ row (print_file ∷ line_card ∷ []) (punched put_card ((43, codes "X") ∷ [])) (4 ∷ [])
    ∷ row (print_file ∷ line_card ∷ []) (punched put_card ((41, codes "132") ∷ [])) []
    ∷ row (print_file ∷ line_card ∷ []) (punched put_card ((41, codes "133") ∷ [])) (4 ∷ [])
    ∷ row (print_file ∷ line_card ∷ []) (punched put_card ((44, codes "P") ∷ [])) []
    ∷ row (print_file ∷ line_card ∷ []) (punched put_card ((44, codes "X") ∷ [])) (2 ∷ [])
    ∷ row (print_file ∷ line_card ∷ []) (punched put_card ((38, codes "1") ∷ (44, codes "P") ∷ [])) (2 ∷ [])
    ∷ row (print_file ∷ line_card ∷ []) (punched put_card ((45, codes "'A'") ∷ [])) (2 ∷ [])
    ∷ []

-- output field cards after a print file and a line card
unfoldable pub put_rows_3 : List Row
put_rows_3 =
    row (print_file ∷ line_card ∷ []) (punched put_card ((45, codes "'A") ∷ [])) (2 ∷ 3 ∷ [])
    ∷ row (print_file ∷ line_card ∷ []) (punched constant_card ((32, codes "TEXT") ∷ (43, codes "3") ∷ [])) (2 ∷ 4 ∷ [])
    ∷ row (print_file ∷ line_card ∷ []) (punched put_card ((32, codes "    ") ∷ [])) (3 ∷ [])
    ∷ row (print_file ∷ line_card ∷ []) (punched put_card ((32, codes "    ") ∷ (38, codes "1") ∷ [])) (3 ∷ [])
    ∷ row (print_file ∷ line_card ∷ []) (punched put_card ((32, codes "    ") ∷ (39, codes "B") ∷ [])) (3 ∷ [])
    ∷ row (print_file ∷ line_card ∷ []) (punched constant_card ((38, codes "1") ∷ [])) (2 ∷ [])
    ∷ row (print_file ∷ line_card ∷ []) (punched constant_card ((39, codes "B") ∷ [])) (2 ∷ [])
    ∷ row (print_file ∷ line_card ∷ []) (punched constant_card ((44, codes "P") ∷ [])) (2 ∷ [])
    ∷ row (print_file ∷ line_card ∷ []) (punched constant_card ((43, codes "3") ∷ [])) (4 ∷ [])
    ∷ row (print_file ∷ line_card ∷ []) (punched constant_card ((45, codes "'O''K'  ") ∷ (43, codes "3") ∷ [])) []
    ∷ row (print_file ∷ line_card ∷ []) (punched constant_card ((45, codes "'HEAD ") ∷ [])) (3 ∷ [])
    ∷ row (print_file ∷ line_card ∷ []) (punched constant_card ((45, codes "''    ") ∷ [])) (3 ∷ [])
    ∷ row (print_file ∷ line_card ∷ []) (punched constant_card ((45, codes "'A' B ") ∷ [])) (3 ∷ [])
    ∷ row (print_file ∷ line_card ∷ []) (punched constant_card ((45, codes " 'A'  ") ∷ [])) (3 ∷ [])
    ∷ row (print_file ∷ line_card ∷ []) (punched constant_card ((42, codes "24") ∷ (45, codes "'ABCDEFGHIJKLMNOPQRSTUVWX'") ∷ [])) []
    ∷ row (print_file ∷ line_card ∷ []) (punched put_card ((71, codes "X") ∷ [])) (2 ∷ [])
    ∷ row (print_file ∷ line_card ∷ (punched line_card ((7, codes "     ") ∷ [])) ∷ []) (punched put_card ((41, codes "133") ∷ [])) (4 ∷ [])
    ∷ []

-- the diagnostics of whole sources
abbrev pub found_in : List (List ℕ) → List (ℕ × ℕ)
found_in cards = map (λ (d : Diagnostic). (d.card, d.number)) (sheet_diagnostics 0 cards)

-- After a record line or line card in error, in a column or in a code, positions aren't checked; nor are positions of a file in error.
-- After an OR line in error they are checked. A line card without a name has the file of the previous line.
-- If a line card comes first, each later card of another sheet is out of order.
unfoldable pub sources : List (List (List ℕ))
sources =
    (disk_file ∷ punched record_card ((7, codes "DATA ") ∷ (15, codes "01") ∷ []) ∷ punched field_card ((49, codes "101") ∷ []) ∷ [])
    ∷ (disk_file ∷ punched record_card ((7, codes "DATA ") ∷ (22, codes "101 CA") ∷ []) ∷ punched field_card ((49, codes "101") ∷ []) ∷ punched and_card ((22, codes "101") ∷ []) ∷ punched record_card ((7, codes "DATA ") ∷ []) ∷ punched field_card ((49, codes "101") ∷ []) ∷ [])
    ∷ (disk_file ∷ punched record_card ((7, codes "DATA ") ∷ []) ∷ punched or_card ((19, codes "  ") ∷ []) ∷ punched field_card ((49, codes "101") ∷ []) ∷ [])
    ∷ (punched disk_file ((24, codes "1025") ∷ []) ∷ punched record_card ((7, codes "DATA ") ∷ []) ∷ punched field_card ((49, codes "101") ∷ []) ∷ [])
    ∷ (print_file ∷ punched line_card ((15, codes "X") ∷ []) ∷ punched put_card ((41, codes "999") ∷ []) ∷ punched line_card ((7, codes "     ") ∷ []) ∷ punched put_card ((41, codes "999") ∷ []) ∷ [])
    ∷ (print_file ∷ line_card ∷ punched line_card ((7, codes "     ") ∷ []) ∷ punched put_card ((41, codes "133") ∷ []) ∷ [])
    ∷ (line_card ∷ header_card ∷ card_file ∷ record_card ∷ add_card ∷ line_card ∷ [])
    ∷ []

abbrev pub pairs_of_sources : List (List (ℕ × ℕ))
pairs_of_sources = ((2, 2) ∷ []) ∷ ((2, 4) ∷ (6, 4) ∷ []) ∷ ((3, 2) ∷ (4, 4) ∷ []) ∷ ((1, 4) ∷ []) ∷ ((2, 2) ∷ []) ∷ ((4, 4) ∷ []) ∷ ((2, 1) ∷ (3, 1) ∷ (4, 1) ∷ (5, 1) ∷ []) ∷ []

-- a card file with another name
abbrev pub named_file : List ℕ → List ℕ
named_file name = punched card_file ((7, name) ∷ [])

-- twenty files, the first again, and two more
unfoldable pub many_files : List (List ℕ)
many_files =
    map named_file (codes "A    " ∷ codes "B    " ∷ codes "C    " ∷ codes "D    " ∷ codes "E    " ∷ codes "F    " ∷ codes "G    " ∷ codes "H    " ∷ codes "I    "
    ∷ codes "J    " ∷ codes "K    " ∷ codes "L    " ∷ codes "M    " ∷ codes "N    " ∷ codes "O    " ∷ codes "P    " ∷ codes "Q    " ∷ codes "R    " ∷ codes "S    "
    ∷ codes "T    " ∷ codes "A    " ∷ codes "U    " ∷ codes "V    " ∷ [])

-- Cards of which some define fields: field lines, and results with a length and an operation.
-- Cards in error define none, and a repeated name counts once.
unfoldable pub defining_cards : List (List ℕ)
defining_cards =
    field_card
    ∷ punched field_card ((53, codes "UDATE") ∷ [])
    ∷ punched field_card ((53, codes "WRONG") ∷ (47, codes "X") ∷ [])
    ∷ field_card
    ∷ add_card
    ∷ punched add_card ((43, codes "SUM") ∷ (51, codes "5") ∷ [])
    ∷ punched add_card ((43, codes "NONE") ∷ (28, codes "   ") ∷ (51, codes "5") ∷ [])
    ∷ punched add_card ((43, codes "ODD") ∷ (28, codes "ODD") ∷ (51, codes "5") ∷ [])
    ∷ punched add_card ((43, codes "TEXT") ∷ (51, codes "3") ∷ [])
    ∷ []

-- ---- typed lines
abbrev pub named : List ℕ → Name
named characters = name_of (ebcdic characters)

abbrev pub on : Bool → Indicator → Option Condition
on negated indicator = Some (record { negated = negated; indicator = indicator })

abbrev pub no_codes : List (Option RecordCode)
no_codes = None ∷ None ∷ None ∷ []

abbrev pub no_conditions : List (Option Condition)
no_conditions = None ∷ None ∷ None ∷ []

abbrev pub no_indicators : List (Option Indicator)
no_indicators = None ∷ None ∷ None ∷ []

abbrev pub without_spacing : Spacing
without_spacing = record { space_before = None; space_after = None; skip_before = None; skip_after = None }

-- cards of each sheet that fill every entry
unfoldable pub whole_source : List (List ℕ)
whole_source =
    header_card
    ∷ punched blank_card ((6, codes "** A COMMENT") ∷ [])
    ∷ punched print_file ((33, codes "OA") ∷ (71, codes "U1") ∷ [])
    ∷ punched indexed_file ((7, codes "MASTER") ∷ (15, codes "UC") ∷ (28, codes "R") ∷ (37, codes "91") ∷ (66, codes "A") ∷ [])
    ∷ punched card_file ((17, codes "EAF0096") ∷ [])
    ∷ punched record_card ((24, codes "1NZ-") ∷ [])
    ∷ punched and_card ((24, codes " ") ∷ (26, codes "  ") ∷ (30, codes "96 D5") ∷ [])
    ∷ punched or_card ((19, codes "H2") ∷ [])
    ∷ punched field_card ((43, codes "P") ∷ (52, codes "2TOTAL L1M2H20102H3") ∷ [])
    ∷ punched field_card ((43, codes "P") ∷ (47, codes "4") ∷ (51, codes "6") ∷ [])
    ∷ punched blank_card ((6, codes "C") ∷ (7, codes "L0N01 LR") ∷ [])
    ∷ punched blank_card ((6, codes "C") ∷ (7, codes "ANN1P OV") ∷ (18, codes "-1.25") ∷ (28, codes "ADD  .5") ∷ (43, codes "SUM     72H05  LR") ∷ [])
    ∷ punched blank_card ((6, codes "C") ∷ (7, codes "SR") ∷ (28, codes "ODD  'O''K'") ∷ (43, codes "WORD   12") ∷ [])
    ∷ punched blank_card ((6, codes "C") ∷ (18, codes "KEY") ∷ (28, codes "CHAINMASTER") ∷ (54, codes "99") ∷ [])
    ∷ punched blank_card ((6, codes "O") ∷ (7, codes "PRINT") ∷ (15, codes "H 120366 1P") ∷ [])
    ∷ punched blank_card ((6, codes "O") ∷ (14, codes "OR") ∷ (23, codes " OANMR") ∷ [])
    ∷ constant_card
    ∷ punched blank_card ((6, codes "O") ∷ (7, codes "MASTER") ∷ (15, codes "TADD") ∷ [])
    ∷ punched blank_card ((6, codes "O") ∷ (15, codes "E") ∷ [])
    ∷ punched put_card ((23, codes " U8") ∷ (32, codes "TOTAL JB  20") ∷ [])
    ∷ punched put_card ((44, codes "P") ∷ [])
    ∷ []

unfoldable pub whole_lines : List Line
whole_lines =
    record { card = 1; sheet = Header (Some (named (codes "LIST"))) }
    ∷ record { card = 3; sheet = File (record { name = named (codes "PRINT"); usage = OutputUse; designation = None; ends_job = false; record_length = 132; is_random = false; is_keyed = false; is_indexed = false; key = None; overflow = Some (Overflow 1); device = Printer; has_additions = false; condition = Some (Switch 1) }) }
    ∷ record { card = 4; sheet = File (record { name = named (codes "MASTER"); usage = UpdateUse; designation = Some Chained; ends_job = false; record_length = 100; is_random = true; is_keyed = true; is_indexed = true; key = Some (record { length = 10; start = 91 }); overflow = None; device = Disk; has_additions = true; condition = None }) }
    ∷ record { card = 5; sheet = File (record { name = named (codes "CARDS"); usage = InputUse; designation = Some Primary; ends_job = true; record_length = 96; is_random = false; is_keyed = false; is_indexed = false; key = None; overflow = None; device = CardReader; has_additions = false; condition = None }) }
    ∷ record { card = 6; sheet = Input (RecordLine (named (codes "CARDS")) (General 1) (Some (record { position = 1; negated = true; part = Zone; character = MINUS }) ∷ None ∷ None ∷ [])) }
    ∷ record { card = 7; sheet = Input (RecordAnd (None ∷ Some (record { position = 96; negated = false; part = Digit; character = DIGIT_5 }) ∷ None ∷ [])) }
    ∷ record { card = 8; sheet = Input (RecordOr (Halt 2) no_codes) }
    ∷ record { card = 9; sheet = Input (FieldCard (record { name = named (codes "TOTAL"); from = 1; to = 3; form = PackedForm 2; control_level = Some 1; match_level = Some 2; relation = Some (Halt 2); indicators = Some (General 1) ∷ Some (General 2) ∷ Some (Halt 3) ∷ [] })) }
    ∷ record { card = 10; sheet = Input (FieldCard (record { name = named (codes "TEXT"); from = 4; to = 6; form = PackedText; control_level = None; match_level = None; relation = None; indicators = no_indicators })) }
    ∷ record { card = 11; sheet = Calculation (record { time = Total (Level 0); conditions = on true (General 1) ∷ on false LastRecord ∷ None ∷ []; factor1 = None; operation = None; factor2 = None; result = None; definition = None; half_adjust = false; indicators = no_indicators }) }
    ∷ record { card = 12; sheet = Calculation (record { time = And; conditions = on true FirstPage ∷ on false (Overflow 8) ∷ None ∷ []; factor1 = Some (Number (record { value = negsuc 124; digits = 3; decimals = 2 })); operation = Some Add; factor2 = Some (Number (record { value = pos 5; digits = 1; decimals = 1 })); result = Some (named (codes "SUM")); definition = Some (Numeric 7 2); half_adjust = true; indicators = Some (General 5) ∷ None ∷ Some LastRecord ∷ [] }) }
    ∷ record { card = 13; sheet = Calculation (record { time = Subroutine; conditions = no_conditions; factor1 = None; operation = Some Unknown; factor2 = Some (Text (record { codes = ebcdic (codes "O'K     "); length = 3 })); result = Some (named (codes "WORD")); definition = Some (Alphanumeric 12); half_adjust = false; indicators = no_indicators }) }
    ∷ record { card = 14; sheet = Calculation (record { time = DetailTime; conditions = no_conditions; factor1 = Some (Named (named (codes "KEY"))); operation = Some Chain; factor2 = Some (Named (named (codes "MASTER"))); result = None; definition = None; half_adjust = false; indicators = Some (General 99) ∷ None ∷ None ∷ [] }) }
    ∷ record { card = 15; sheet = Output (LineCard (record { file = Some (named (codes "PRINT")); kind = Heading; is_addition = false; spacing = record { space_before = Some 1; space_after = Some 2; skip_before = Some 3; skip_after = Some 66 }; conditions = on false FirstPage ∷ None ∷ None ∷ [] })) }
    ∷ record { card = 16; sheet = Output (OutputOr (on false (Overflow 1) ∷ on true Matching ∷ None ∷ [])) }
    ∷ record { card = 17; sheet = Output (OutputFieldCard (record { conditions = no_conditions; content = ConstantContent (record { codes = ebcdic (codes "HEAD                    "); length = 4 }); «end» = 4 })) }
    ∷ record { card = 18; sheet = Output (LineCard (record { file = Some (named (codes "MASTER")); kind = TotalLine; is_addition = true; spacing = without_spacing; conditions = no_conditions })) }
    ∷ record { card = 19; sheet = Output (LineCard (record { file = None; kind = Exception; is_addition = false; spacing = without_spacing; conditions = no_conditions })) }
    ∷ record { card = 20; sheet = Output (OutputFieldCard (record { conditions = on false (Switch 8) ∷ None ∷ None ∷ []; content = FieldContent (record { name = named (codes "TOTAL"); form = Edited (EditedCode (record { commas = true; zero_printed = true; sign = MinusSign })); blank_after = true }); «end» = 20 })) }
    ∷ record { card = 21; sheet = Output (OutputFieldCard (record { conditions = no_conditions; content = FieldContent (record { name = named (codes "TEXT"); form = Packed; blank_after = false }); «end» = 3 })) }
    ∷ []
