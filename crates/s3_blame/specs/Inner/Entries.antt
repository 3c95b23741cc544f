-- The entries that the conditions of 5 to 12 test, on each kind of card: each with a source in which a card has the number, and what has to
-- stand in the entry in its place so that it hasn't.
use Rattle.std.specs.Prelude.{ℕ, ◌-◌, ◌==◌, Bool, List, [], ◌∷◌, ◌++◌, length, map, filter, replicate, codes}
use Rattle.s3_cards.specs.Codes.{ebcdic}
use Rattle.s3_cards.specs.declared.ebcdic.TheConstants.{BLANK}
use Rattle.s3_sheets.specs.declared.kind.CardKind.{CardKind}
use Rattle.s3_sheets.specs.declared.kind.CardKind.TheVariants as kind
use Rattle.s3_lines.specs.declared.sheet.SheetLine.{SheetLine}
use Rattle.s3_lines.specs.declared.sheet.SheetLine.TheVariants as sheet
use Rattle.s3_lines.specs.declared.sheet.InputLine.{InputLine}
use Rattle.s3_lines.specs.declared.sheet.InputLine.TheVariants as input
use Rattle.s3_lines.specs.declared.sheet.OutputLine.{OutputLine}
use Rattle.s3_lines.specs.declared.sheet.OutputLine.TheVariants as output
use Rattle.s3_cards.specs.declared.name.Name.{Name}
use Rattle.s3_blame.specs.Inner.Changes.{Entry, Change}

abbrev pub Characters : Type 0
Characters = List ℕ

-- a card with these characters, and blank behind them
abbrev pub punched : Characters → List ℕ
punched characters = ebcdic characters ++ replicate (96 - length characters) BLANK

-- ---- cards that several sources have
abbrev pub cards_file : Characters
cards_file = codes "     FCARDS   IP  F      96            MFCU1"

abbrev pub print_file : Characters
print_file = codes "     FPRINT   O   F     132            PRINTER"

-- a file on disk that is loaded
abbrev pub disk_file : Characters
disk_file = codes "     FDATA    O   F     100            DISK"

abbrev pub cards_record : Characters
cards_record = codes "     ICARDS   AA  01"

-- a text
abbrev pub item_field : Characters
item_field = codes "     I                                        1   3 ITEM"

-- a number
abbrev pub quantity_field : Characters
quantity_field = codes "     I                                        4   60QTY"

-- M1 of the records of 01 alone
abbrev pub match_of_first : Characters
match_of_first = codes "     I                                        1   3 ITEM    M101"

-- M2 of the records of 02 alone
abbrev pub match_of_second : Characters
match_of_second = codes "     I                                        7   9 NUMBER  M202"

abbrev pub print_line : Characters
print_line = codes "     OPRINT   D"

abbrev pub page_field : Characters
page_field = codes "     O                         PAGE      10"

-- ---- the entries
-- an entry that the condition of a number tests, by the change that shows it
pub record Row : Type 0 where
  pub number : ℕ
  pub change : Change

-- a number, the columns of an entry, the cards above the card that has the number, that card, those below it, and what has to stand in the
-- entry so that it doesn't have it
abbrev pub row : (number from to : ℕ) → (above : List Characters) → (card : Characters) → (below : List Characters) → (other : Characters) → Row
row number from to above card below other = record {
  number = number;
  change = record {
    above = map punched above;
    card = punched card;
    below = map punched below;
    from = from;
    to = to;
    other = ebcdic other;
  };
}

-- F cards
unfoldable pub file_rows : List Row
file_rows =
    -- a second file of a name
    row 6 7 14 (cards_file ∷ []) cards_file [] (codes "DECK    ")
    -- a chained card file
    ∷ row 12 15 16 [] (codes "     FCARDS   IC  F      96            MFCU1") [] (codes "IP")
    -- a chained file that isn't read by number
    ∷ row 12 28 28 [] (codes "     FDATA    IC  F     100            DISK") [] (codes "R")
    -- keys without an index
    ∷ row 12 31 31 [] (codes "     FDATA    IP  F     100   A        DISK") [] (codes " ")
    -- an index without keys
    ∷ row 12 32 32 [] (codes "     FDATA    IP  F     100    I       DISK") [] (codes " ")
    -- a second card file
    ∷ row 12 40 46 (cards_file ∷ []) (codes "     FREADER  IS  F      96            MFCU2") [] (codes "DISK   ")
    -- additions to a card file
    ∷ row 12 66 66 [] (codes "     FCARDS   IP  F      96            MFCU1                     A") [] (codes " ")
    ∷ []

-- I cards: types of records
unfoldable pub record_rows : List Row
record_rows =
    row 5 7 14 (cards_file ∷ []) (codes "     ICARD    AA  01") [] (codes "CARDS   ")
    -- the second type has M2 in place of M1, or no match field
    ∷ row 11 19 20 (cards_record ∷ match_of_first ∷ []) (codes "     ICARDS   AA  02") (match_of_second ∷ []) (codes "03")
    -- records of a print file
    ∷ row 12 7 14 (cards_file ∷ print_file ∷ []) (codes "     IPRINT   AA  01") [] (codes "CARDS   ")
    ∷ []

-- I cards: AND
unfoldable pub and_rows : List Row
and_rows =
    -- behind a field
    row 9 14 16 (cards_record ∷ item_field ∷ []) (codes "     I       AND") [] (codes "   ")
    ∷ []

-- I cards: OR
unfoldable pub or_rows : List Row
or_rows =
    -- behind a field
    row 9 14 16 (cards_record ∷ item_field ∷ []) (codes "     I       OR   02") [] (codes "   ")
    ∷ row 11 19 20 (cards_record ∷ []) (codes "     I       OR   02") (match_of_first ∷ match_of_second ∷ []) (codes "03")
    ∷ []

-- I cards: fields
unfoldable pub field_rows : List Row
field_rows =
    -- another length
    row 6 44 51 (quantity_field ∷ []) (codes "     I                                        4   70QTY") [] (codes "   1   3")
    -- other decimals
    ∷ row 6 52 52 (quantity_field ∷ []) (codes "     I                                        4   62QTY") [] (codes "0")
    ∷ row 6 53 58 (quantity_field ∷ []) (codes "     I                                        4   70QTY") [] (codes "PRICE ")
    -- a relation to another type
    ∷ row 7 63 64 (cards_record ∷ []) (codes "     I                                        1   3 ITEM      02") [] (codes "01")
    -- plus of a text
    ∷ row 7 65 66 (cards_record ∷ []) (codes "     I                                        1   3 ITEM        10") [] (codes "  ")
    -- minus of a text
    ∷ row 7 67 68 (cards_record ∷ []) (codes "     I                                        1   3 ITEM          10") [] (codes "  ")
    -- a packed text
    ∷ row 8 43 43 (cards_record ∷ []) (codes "     I                                    P   1   3 ITEM") [] (codes " ")
    -- no record line
    ∷ row 9 7 14 [] item_field [] (codes "CARDS   ")
    -- L1 of another length
    ∷ row 11 59 60 (cards_record ∷ (codes "     I                                        1   3 ITEM  L1") ∷ []) (codes "     I                                        4   7 TEXT  L1") [] (codes "L2")
    -- M1 given twice
    ∷ row 11 61 62 (cards_record ∷ (codes "     I                                        1   3 ITEM    M1") ∷ []) (codes "     I                                        4   6 TEXT    M1") [] (codes "M2")
    -- packed on cards
    ∷ row 12 43 43 (cards_file ∷ cards_record ∷ []) (codes "     I                                    P   4   60QTY") [] (codes " ")
    ∷ []

-- C cards
unfoldable pub calculation_rows : List Row
calculation_rows =
    row 5 18 27 [] (codes "     C           QTY       ADD  1         TOTAL   50") [] (codes "2         ")
    ∷ row 5 33 42 [] (codes "     C           1         ADD  QTY       TOTAL   50") [] (codes "2         ")
    ∷ row 5 43 48 [] (codes "     C           1         ADD  1         TOTAL") [] (codes "PAGE  ")
    ∷ row 6 18 27 ((codes "     C           AGAIN     TAG") ∷ []) (codes "     C           AGAIN     TAG") [] (codes "ENOUGH    ")
    -- the date is changed
    ∷ row 6 43 48 [] (codes "     C                     Z-ADD1         UDATE") [] (codes "PAGE  ")
    ∷ row 6 49 51 ((codes "     C                     Z-ADD1         TOTAL   50") ∷ []) (codes "     C                     Z-ADD1         TOTAL   60") [] (codes "  5")
    ∷ row 6 52 52 ((codes "     C                     Z-ADD1         TOTAL   50") ∷ []) (codes "     C                     Z-ADD1         TOTAL   52") [] (codes "0")
    ∷ row 7 54 55 [] (codes "     C           1         ADD  1         TOTAL   50 OF") [] (codes "10")
    ∷ row 7 56 57 [] (codes "     C           1         ADD  1         TOTAL   50   OF") [] (codes "10")
    ∷ row 7 58 59 [] (codes "     C           1         ADD  1         TOTAL   50     OF") [] (codes "10")
    ∷ row 8 18 27 [] (codes "     C           1         Z-ADD1         TOTAL   50") [] (codes "          ")
    ∷ row 8 28 32 [] (codes "     C           1         PLUS 1         TOTAL   50") [] (codes "ADD  ")
    ∷ row 8 33 42 [] (codes "     C                     Z-ADD          TOTAL   50") [] (codes "1         ")
    ∷ row 8 43 48 [] (codes "     C                     Z-ADD1") [] (codes "PAGE  ")
    -- a length without a result
    ∷ row 8 49 51 [] (codes "     C                     SETON                  5  10") [] (codes "   ")
    -- a sum in a text
    ∷ row 8 52 52 [] (codes "     C                     Z-ADD1         TOTAL   5") [] (codes "0")
    ∷ row 8 53 53 [] (codes "     C                     MOVE 1         TOTAL   50H") [] (codes " ")
    ∷ row 8 54 55 [] (codes "     C           AGAIN     TAG                       10") [] (codes "  ")
    ∷ row 8 56 57 [] (codes "     C           AGAIN     TAG                         10") [] (codes "  ")
    ∷ row 8 58 59 [] (codes "     C           AGAIN     TAG                           10") [] (codes "  ")
    -- no resulting indicator at all
    ∷ row 8 54 59 [] (codes "     C           1         COMP 1") [] (codes "10    ")
    -- detail behind total
    ∷ row 9 7 8 ((codes "     CL1                   SETON                     10") ∷ []) (codes "     C                     SETON                     11") [] (codes "L1")
    -- no subroutine to end
    ∷ row 9 28 32 [] (codes "     C                     ENDSR") [] (codes "EXCPT")
    -- from detail to total
    ∷ row 10 33 42 [] (codes "     C                     GOTO LATER") ((codes "     C           AGAIN     TAG") ∷ (codes "     CL1         LATER     TAG") ∷ []) (codes "AGAIN     ")
    ∷ []

-- O cards: lines
unfoldable pub line_rows : List Row
line_rows =
    row 5 7 14 (print_file ∷ []) (codes "     OPRINTS  D") [] (codes "PRINT   ")
    -- to a file that is read
    ∷ row 12 7 14 (cards_file ∷ print_file ∷ []) (codes "     OCARDS   D") [] (codes "PRINT   ")
    ∷ row 12 16 18 (print_file ∷ []) (codes "     OPRINT   DADD") [] (codes "   ")
    -- a space on disk
    ∷ row 12 17 17 (disk_file ∷ []) (codes "     ODATA    D 1") [] (codes " ")
    ∷ row 12 18 18 (disk_file ∷ []) (codes "     ODATA    D  1") [] (codes " ")
    -- a skip on disk
    ∷ row 12 19 20 (disk_file ∷ []) (codes "     ODATA    D   06") [] (codes "  ")
    ∷ row 12 21 22 (disk_file ∷ []) (codes "     ODATA    D     06") [] (codes "  ")
    ∷ []

-- O cards: AND
unfoldable pub line_and_rows : List Row
line_and_rows =
    -- behind a field
    row 9 14 16 (print_line ∷ page_field ∷ []) (codes "     O       AND") [] (codes "   ")
    ∷ []

-- O cards: OR
unfoldable pub line_or_rows : List Row
line_or_rows =
    -- behind a field
    row 9 14 16 (print_line ∷ page_field ∷ []) (codes "     O       OR") [] (codes "   ")
    ∷ []

-- O cards: fields
unfoldable pub put_rows : List Row
put_rows =
    row 5 32 37 (print_line ∷ []) (codes "     O                         QTY       10") [] (codes "PAGE  ")
    -- the slashes of a date on a page number
    ∷ row 8 38 38 (print_line ∷ []) (codes "     O                         PAGE  Y   10") [] (codes "Z")
    -- it would begin before position 1
    ∷ row 8 40 43 (print_line ∷ []) (codes "     O                         PAGE       3") [] (codes "   4")
    -- a packed text
    ∷ row 8 44 44 (item_field ∷ print_line ∷ []) (codes "     O                         ITEM      10P") [] (codes " ")
    -- no line
    ∷ row 9 7 14 [] page_field [] (codes "PRINT   ")
    -- packed on paper
    ∷ row 12 44 44 (print_file ∷ print_line ∷ []) (codes "     O                         PAGE      10P") [] (codes " ")
    ∷ []

abbrev pub rows_of : CardKind → List Row
rows_of kind.Comment = []
rows_of kind.Unknown = []
rows_of kind.Header = []
rows_of kind.File = file_rows
rows_of kind.Record = record_rows
rows_of kind.RecordAnd = and_rows
rows_of kind.RecordOr = or_rows
rows_of kind.Field = field_rows
rows_of kind.Calculation = calculation_rows
rows_of kind.OutputLine = line_rows
rows_of kind.OutputAnd = line_and_rows
rows_of kind.OutputOr = line_or_rows
rows_of kind.OutputField = put_rows

abbrev pub is_for : (number : ℕ) → Row → Bool
is_for number row = row.number == number

abbrev pub entry_in : Row → Entry
entry_in row = (row.change.from, row.change.to)

-- those of a number on cards of a kind
abbrev pub entries_tested : CardKind → (number : ℕ) → List Entry
entries_tested kind number = map entry_in (filter (is_for number) (rows_of kind))

-- the kind of card that a line is of
abbrev pub kind_of_input : InputLine Name → CardKind
kind_of_input (input.Record file indicator codes) = kind.Record
kind_of_input (input.And codes) = kind.RecordAnd
kind_of_input (input.Or indicator codes) = kind.RecordOr
kind_of_input (input.Field field) = kind.Field

abbrev pub kind_of_output : OutputLine Name → CardKind
kind_of_output (output.Line card) = kind.OutputLine
kind_of_output (output.And conditions) = kind.OutputAnd
kind_of_output (output.Or conditions) = kind.OutputOr
kind_of_output (output.Field field) = kind.OutputField

abbrev pub kind_of_line : SheetLine → CardKind
kind_of_line (sheet.Header name) = kind.Header
kind_of_line (sheet.File file) = kind.File
kind_of_line (sheet.Input line) = kind_of_input line
kind_of_line (sheet.Calculation line) = kind.Calculation
kind_of_line (sheet.Output line) = kind_of_output line

-- .. on the card of a line
abbrev pub entries_on : SheetLine → (number : ℕ) → List Entry
entries_on line number = entries_tested (kind_of_line line) number
