-- Entries that are marked for what their own cards say, or what the lines of the source define.
use Rattle.std.specs.Prelude.{◌≡◌, ◌≢◌, ◌<◌, ◌++◌, ◌||◌, ◌&&◌, ◌==◌, not, ℕ, Bool, false, true, List, [], ◌∷◌, length, map, drop, get_or, if◌then◌else◌}
use Rattle.std.specs.List.{list_all, list_any}
use Rattle.s3_lines.specs.declared.diagnostic.Diagnostic.{Diagnostic}
use Rattle.s3_lines.specs.declared.sheet.CalculationLine.{CalculationLine}
use Rattle.s3_lines.specs.declared.sheet.FieldLine.{FieldLine}
use Rattle.s3_lines.specs.declared.sheet.FileLine.{FileLine}
use Rattle.s3_lines.specs.declared.sheet.InputLine.{InputLine}
use Rattle.s3_lines.specs.declared.sheet.InputLine.TheVariants as input
use Rattle.s3_lines.specs.declared.sheet.Line.{Line}
use Rattle.s3_lines.specs.declared.sheet.OutputField.{OutputField}
use Rattle.s3_lines.specs.declared.sheet.OutputLine.{OutputLine}
use Rattle.s3_lines.specs.declared.sheet.OutputLine.TheVariants as output
use Rattle.s3_lines.specs.declared.sheet.SheetLine.{SheetLine}
use Rattle.s3_lines.specs.declared.sheet.SheetLine.TheVariants as sheet
use Rattle.s3_cards.specs.declared.name.Name.{Name}
use Rattle.s3_program.specs.FileTable.{is_card_file, is_print_file}
use Rattle.s3_program.specs.Indications.{is_overflow_entry}
use Rattle.s3_sheets.specs.declared.parts.FaultyEntry.{FaultyEntry}
use Rattle.s3_blame.specs.Inner.Changes.{Entry}
use Rattle.s3_blame.specs.Inner.Marks.{has_columns, is_listed_on}
use Rattle.s3_blame.specs.Inner.Names.{Names, redefined_field, redefined_in, unfit_in, unknown_in}

-- ---- what is marked
-- those entries at whose places the list has true
unfoldable pub chosen : List Bool → List Entry → List Entry
chosen [] entries = []
chosen (wanted ∷ more) [] = []
chosen (wanted ∷ more) (entry ∷ entries) = if wanted then entry ∷ chosen more entries else chosen more entries

-- the entries that the table of uses tests
abbrev pub entries_of_use : List Entry
entries_of_use = (15, 16) ∷ (28, 28) ∷ (31, 31) ∷ (32, 32) ∷ (40, 46) ∷ (66, 66) ∷ []

-- which entries of its use are marked, with the device; of a second card or print file the device alone
abbrev pub use_fails : (is_second : Bool) → List Bool
use_fails is_second = not is_second ∷ not is_second ∷ not is_second ∷ not is_second ∷ true ∷ not is_second ∷ []

-- 6, a second file: its name. 12, a second card or print file: its device; else all entries of its use
abbrev pub marks_of_file : FileLine → (number : ℕ) → List Entry
marks_of_file file number =
    if number == 6 then (7, 14) ∷ [] else if number == 12 then chosen (use_fails (is_card_file file || is_print_file file)) entries_of_use else []

-- 5 and 12: the file of a record. 11: its indicator
abbrev pub marks_of_record : (number : ℕ) → List Entry
marks_of_record number = if number == 5 then (7, 14) ∷ [] else if number == 11 then (19, 20) ∷ [] else if number == 12 then (7, 14) ∷ [] else []

-- 9: the words AND and OR
abbrev pub marks_of_word : (number : ℕ) → List Entry
marks_of_word number = if number == 9 then (14, 16) ∷ [] else []

-- .. and 11: the indicator
abbrev pub marks_of_or : (number : ℕ) → List Entry
marks_of_or number = if number == 9 then (14, 16) ∷ [] else if number == 11 then (19, 20) ∷ [] else []

-- the positions of a field, its decimals and its name
abbrev pub definition_of_field : List Entry
definition_of_field = (44, 51) ∷ (52, 52) ∷ (53, 58) ∷ []

-- 6: the name, and what differs. 8 and 12: P of a field. 9: the file that is missing before it
abbrev pub marks_of_field : Names → FieldLine Name → (number : ℕ) → List Entry
marks_of_field names field number =
    if number == 6 then chosen (redefined_field names field) definition_of_field else if number == 8 then (43, 43) ∷ [] else if number == 9 then (7, 14) ∷ [] else if number == 12 then (43, 43) ∷ [] else []

-- 7: a relation that isn't of the group. 11: levels that disagree with those of other fields
abbrev pub is_open_on_field : (number : ℕ) → Bool
is_open_on_field number = (number == 7) || (number == 11)

abbrev pub marks_of_input : Names → InputLine Name → (number : ℕ) → List Entry
marks_of_input names (input.Record file indicator codes) number = marks_of_record number
marks_of_input names (input.And codes) number = marks_of_word number
marks_of_input names (input.Or indicator codes) number = marks_of_or number
marks_of_input names (input.Field field) number = marks_of_field names field number

-- the three resulting indicators
abbrev pub resulting : List Entry
resulting = (54, 55) ∷ (56, 57) ∷ (58, 59) ∷ []

-- factor 1, factor 2 and the result
abbrev pub operands : List Entry
operands = (18, 27) ∷ (33, 42) ∷ (43, 48) ∷ []

-- factor 1, and the result with its length and its decimals
abbrev pub definitions : List Entry
definitions = (18, 27) ∷ (43, 48) ∷ (49, 51) ∷ (52, 52) ∷ []

-- 5: each name that isn't defined. 6: what is defined a second time, or otherwise. 7: each overflow indicator. 10: factor 2
abbrev pub marks_of_calculation : Names → (card : ℕ) → CalculationLine Name → (number : ℕ) → List Entry
marks_of_calculation names card line number =
    if number == 5 then chosen (unknown_in names line) operands
    else if number == 6 then chosen (redefined_in names card line) definitions
    else if number == 7 then chosen (map is_overflow_entry line.indicators) resulting
    else if number == 10 then (33, 42) ∷ []
    else []

-- 8: what doesn't fit its operation. 9: what is out of its place
abbrev pub is_open_on_calculation : (number : ℕ) → Bool
is_open_on_calculation number = (number == 8) || (number == 9)

-- 5: the name of a line's file
abbrev pub marks_of_output_line : (number : ℕ) → List Entry
marks_of_output_line number = if number == 5 then (7, 14) ∷ [] else []

-- 12: what the line's file can't have
abbrev pub is_open_on_output : (number : ℕ) → Bool
is_open_on_output number = number == 12

-- an edit code, the end position, P
abbrev pub editing : List Entry
editing = (38, 38) ∷ (40, 43) ∷ (44, 44) ∷ []

-- 5: the name of a field. 8: an edit code or P that it can't have, else its end position. 9: the file that is missing before it. 12: P
abbrev pub marks_of_output_field : Names → OutputField Name → (number : ℕ) → List Entry
marks_of_output_field names field number =
    if number == 5 then (32, 37) ∷ []
    else if number == 8 then chosen (unfit_in names field) editing
    else if number == 9 then (7, 14) ∷ []
    else if number == 12 then (44, 44) ∷ []
    else []

abbrev pub marks_of_output : Names → OutputLine Name → (number : ℕ) → List Entry
marks_of_output names (output.Line card) number = marks_of_output_line number
marks_of_output names (output.And conditions) number = marks_of_word number
marks_of_output names (output.Or conditions) number = marks_of_word number
marks_of_output names (output.Field field) number = marks_of_output_field names field number

abbrev pub own_marks : Names → (card : ℕ) → SheetLine → (number : ℕ) → List Entry
own_marks names card (sheet.Header name) number = []
own_marks names card (sheet.File file) number = marks_of_file file number
own_marks names card (sheet.Input line) number = marks_of_input names line number
own_marks names card (sheet.Calculation line) number = marks_of_calculation names card line number
own_marks names card (sheet.Output line) number = marks_of_output names line number

-- ---- marks
-- an entry is marked for a number of a card
abbrev pub marks : (card number : ℕ) → Entry → FaultyEntry → Bool
marks card number entry faulty = (faulty.card == card) && ((faulty.number == number) && has_columns faulty entry)

-- .. by one of these marks
abbrev pub is_marked : (card number : ℕ) → List FaultyEntry → Entry → Bool
is_marked card number marked entry = list_any (marks card number entry) marked

-- these entries are all marked
abbrev pub are_marked : (card number : ℕ) → List Entry → List FaultyEntry → Bool
are_marked card number entries marked = list_all (is_marked card number marked) entries

-- for a number of a line's card each entry is marked that has to be
abbrev pub HasMarks : Names → Line → List FaultyEntry → (number : ℕ) → Type 0
HasMarks names line marked number = are_marked line.card number (own_marks names line.card line.sheet number) marked ≡ true

-- .. for each diagnostic of these that is of the card
abbrev pub HasAllMarks : Names → List Diagnostic → List FaultyEntry → Line → Type 0
HasAllMarks names told marked line = (k : ℕ) (d : Diagnostic) → k < length told → (get_or told k d).card ≡ line.card → HasMarks names line marked (get_or told k d).number

-- ---- which marks there are
-- the numbers of which nothing is said: other cards decide their entries
abbrev pub is_open : SheetLine → (number : ℕ) → Bool
is_open (sheet.Input (input.Field field)) number = is_open_on_field number
is_open (sheet.Calculation line) number = is_open_on_calculation number
is_open (sheet.Output (output.Line card)) number = is_open_on_output number
is_open line number = false

-- an entry that is marked is one of those that have to be, unless its number is one of these
abbrev pub is_named : Names → Line → FaultyEntry → Bool
is_named names line entry = is_open line.sheet entry.number || list_any (has_columns entry) (own_marks names line.card line.sheet entry.number)

-- an entry is one of the table's for its number on a line's card, and one that has to be marked, unless the number is one of these
abbrev pub is_mark_on : Names → FaultyEntry → Line → Bool
is_mark_on names entry line = is_listed_on entry line && is_named names line entry

abbrev pub are_marks_on : Names → Line → List FaultyEntry → Bool
are_marks_on names line marked = list_all (λ entry. is_mark_on names entry line) marked

-- .. of one of some lines
abbrev pub is_mark_among : Names → List Line → FaultyEntry → Bool
is_mark_among names lines entry = list_any (is_mark_on names entry) lines

-- ---- steps
-- the diagnostics from the first on that isn't of a card before this one
pub record BeginsAt (card : ℕ) (told rest : List Diagnostic) : Type 0 where
  pub passed : ℕ
  pub is : rest ≡ drop passed told
  pub low : (k : ℕ) (d : Diagnostic) → k < passed → (get_or told k d).card < card
  pub first : (d : Diagnostic) → passed < length told → ((get_or told passed d).card < card) → ⊥

-- each of the first diagnostics has its marks, up to one that is of another card
pub record MarksFirst (names : Names) (line : Line) (told : List Diagnostic) (marked : List FaultyEntry) : Type 0 where
  pub count : ℕ
  pub each : (k : ℕ) (d : Diagnostic) → k < count → HasMarks names line marked (get_or told k d).number
  pub end : (d : Diagnostic) → count < length told → (get_or told count d).card ≢ line.card

-- a line's marks are appended
pub record PassesLine (names : Names) (lines : List Line) (place : ℕ) (told : List Diagnostic) (old new : List FaultyEntry) : Type 0 where
  pub more : List FaultyEntry
  pub added : new ≡ old ++ more
  pub first : (line : Line) → place < length lines → line ≡ get_or lines place line → MarksFirst names line told more
