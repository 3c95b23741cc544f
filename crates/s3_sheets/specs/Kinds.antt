-- The kind of each card of a source.
use Rattle.std.specs.Prelude.{ℕ, List, Bool, true, false, ◌==◌, ◌&&◌, if◌then◌else◌, codes}
use Rattle.s3_cards.specs.declared.ebcdic.TheConstants.{ASTERISK, LETTER_C, LETTER_F, LETTER_H, LETTER_I, LETTER_O}
use Rattle.s3_cards.specs.Codes.{ebcdic}
use Rattle.s3_entries.specs.declared.output.TheConstants as output
use Rattle.s3_entries.specs.declared.shared.TheConstants as shared
use Rattle.s3_sheets.specs.Columns.{column, columns, are_blank, same_codes}
use Rattle.s3_sheets.specs.declared.kind.CardKind.{CardKind}
use Rattle.s3_sheets.specs.declared.kind.CardKind.TheVariants.{Comment, Unknown, Header, File, Record, RecordAnd, RecordOr, Field, Calculation, OutputLine, OutputAnd, OutputOr, OutputField}

-- AND in 14-16, and blanks in the columns of the name before it
unfoldable pub says_and : List ℕ → Bool
says_and card = are_blank (columns card shared.BEFORE_GROUP) && same_codes (columns card shared.GROUP) (ebcdic (codes "AND"))

-- OR in 14-15, and blanks in the columns of the name before it and in 16
unfoldable pub says_or : List ℕ → Bool
says_or card = are_blank (columns card shared.BEFORE_GROUP) && same_codes (columns card shared.GROUP) (ebcdic (codes "OR "))

abbrev pub input_kind : List ℕ → CardKind
input_kind card =
    if says_and card then RecordAnd
    else if says_or card then RecordOr
    else if are_blank (columns card shared.FILENAME) then Field
    else Record

abbrev pub output_kind : List ℕ → CardKind
output_kind card =
    if says_and card then OutputAnd
    else if says_or card then OutputOr
    else if are_blank (columns card output.FILENAME_AND_TYPE) then OutputField
    else OutputLine

unfoldable pub kind_of : List ℕ → CardKind
kind_of card =
    let form : ℕ = column card shared.FORM_TYPE in
    if column card shared.COMMENT == ASTERISK then Comment
    else if form == LETTER_H then Header
    else if form == LETTER_F then File
    else if form == LETTER_I then input_kind card
    else if form == LETTER_C then Calculation
    else if form == LETTER_O then output_kind card
    else Unknown

-- the number of a sheet in the order of sheets, from 1; 0 for a card without a sheet
abbrev pub sheet_of : CardKind → ℕ
sheet_of Comment = 0
sheet_of Unknown = 0
sheet_of Header = 1
sheet_of File = 2
sheet_of Record = 3
sheet_of RecordAnd = 3
sheet_of RecordOr = 3
sheet_of Field = 3
sheet_of Calculation = 4
sheet_of OutputLine = 5
sheet_of OutputAnd = 5
sheet_of OutputOr = 5
sheet_of OutputField = 5

abbrev pub is_record : CardKind → Bool
is_record Record = true
is_record _ = false

abbrev pub is_output_line : CardKind → Bool
is_output_line OutputLine = true
is_output_line _ = false
