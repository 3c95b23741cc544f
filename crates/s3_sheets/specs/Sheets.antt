-- The diagnostics of a source's single cards: each number is a condition on a card and the cards before it.
use Rattle.std.specs.Prelude.{ℕ, zero, suc, ◌+◌, List, [], ◌∷◌, ◌++◌, Bool, true, false, ◌==◌, ◌&&◌, ◌||◌, not, Option, Some, None, is_some, length, map, filter, take, nat_lt, if◌then◌else◌}
use Rattle.std.specs.List.{list_any}
use Rattle.std.specs.Map.{lookup}
use Rattle.std.specs.Option.{option_to_list}
use Rattle.s3_entries.specs.declared.calculation.TheConstants as calculation
use Rattle.s3_entries.specs.declared.file.TheConstants as file
use Rattle.s3_entries.specs.declared.input.TheConstants as input
use Rattle.s3_entries.specs.declared.output.TheConstants as output
use Rattle.s3_entries.specs.declared.shared.TheConstants as shared
use Rattle.s3_sheets.specs.Columns.{columns, are_blank, number_of}
use Rattle.s3_cards.specs.Names.{name_of, same_name}
use Rattle.s3_sheets.specs.Kinds.{kind_of, sheet_of, is_record, is_output_line}
use Rattle.s3_sheets.specs.Rules.{both_faults, broken_by}
use Rattle.s3_sheets.specs.Combinations.{combined_faults}
use Rattle.s3_sheets.specs.Tables.{rules_of}
use Rattle.s3_sheets.specs.Lines.{card_at, number_or_zero, maybe_name}
use Rattle.s3_cards.specs.declared.name.Name.{Name}
use Rattle.s3_sheets.specs.declared.kind.CardKind.{CardKind}
use Rattle.s3_sheets.specs.declared.kind.CardKind.TheVariants.{Comment, Unknown, File, Record, RecordAnd, RecordOr, Field, Calculation, OutputField}
use Rattle.s3_sheets.specs.declared.faults.Faults.{Faults}
use Rattle.s3_sheets.specs.declared.progress.Standing.{Standing}
use Rattle.s3_lines.specs.declared.diagnostic.Diagnostic.{Diagnostic}

abbrev pub kind_at : List (List ℕ) → ℕ → CardKind
kind_at cards i = kind_of (card_at cards i)

abbrev pub before : List (List ℕ) → ℕ → List CardKind
before cards i = map kind_of (take i cards)

-- ---- 1: the order of the sheets
-- A card of a sheet can't follow a card of a later sheet. A Control specification (H) can't follow another, either.
abbrev pub is_behind : ℕ → ℕ → Bool
is_behind sheet earlier = nat_lt sheet earlier || (sheet == 1 && earlier == 1)

-- the card has no sheet, or its sheet is out of order
abbrev pub is_misplaced : CardKind → List CardKind → Bool
is_misplaced Comment earlier = false
is_misplaced Unknown earlier = true
is_misplaced kind earlier = list_any (λ other. is_behind (sheet_of kind) (sheet_of other)) earlier

-- ---- 3: a line card without a file
-- the first output line must name its file; a later one without a name has the file of the previous line
abbrev pub lacks_file : CardKind → List CardKind → List ℕ → Bool
lacks_file kind earlier card = is_output_line kind && are_blank (columns card shared.FILENAME) && not (list_any is_output_line earlier)

-- ---- 2 to 4: the card's own columns, except positions in a record
unfoldable pub faults_of : List ℕ → Faults
faults_of card = both_faults (broken_by (rules_of (kind_of card)) card) (combined_faults (kind_of card) card)

abbrev pub has_fault : Faults → Bool
has_fault faults = faults.entry || faults.name || faults.number

-- whether a card has an error by 1 to 4, except positions in its record
unfoldable pub is_at_fault : List (List ℕ) → ℕ → Bool
is_at_fault cards i =
    let card : List ℕ = card_at cards i in
    let kind : CardKind = kind_of card in
    is_misplaced kind (before cards i) || lacks_file kind (before cards i) card || has_fault (faults_of card)

-- ---- the files
-- the file that a card defines, with its record length; a card in error defines none
abbrev pub file_of : CardKind → Bool → List ℕ → Option (Name × ℕ)
file_of File false card = Some (name_of (columns card shared.FILENAME), number_or_zero (columns card file.RECORD_LENGTH))
file_of _ _ card = None

abbrev pub record_length_of : List (Name × ℕ) → Name → Option ℕ
record_length_of files name = lookup (same_name name) files

-- the file, if it isn't defined yet
abbrev pub new_file : List (Name × ℕ) → Option (Name × ℕ) → Option (Name × ℕ)
new_file files None = None
new_file files (Some file) = if is_some (record_length_of files file.0) then None else Some file

-- the files that the first n cards define, each name once
abbrev pub files : List (List ℕ) → ℕ → List (Name × ℕ)
files cards zero = []
files cards (suc n) = files cards n ++ option_to_list (new_file (files cards n) (file_of (kind_at cards n) (is_at_fault cards n) (card_at cards n)))

-- ---- 4: positions after the end of the record
-- whether a number is known to exceed another one
abbrev pub exceeds : Option ℕ → Option ℕ → Bool
exceeds (Some number) (Some most) = nat_lt most number
exceeds _ _ = false

-- the record length of the file named on a card
abbrev pub named_length : List (List ℕ) → ℕ → Option ℕ
named_length cards i = record_length_of (files cards i) (name_of (columns (card_at cards i) shared.FILENAME))

-- whether the position of some record identification code is after the end of the record
abbrev pub has_code_past : List ℕ → Option ℕ → Bool
has_code_past card length =
    exceeds (number_of (columns card input.POSITION_1)) length || exceeds (number_of (columns card input.POSITION_2)) length || exceeds (number_of (columns card input.POSITION_3)) length

-- a record card or line card sets the record length, unknown if the card is in error; other cards keep it
abbrev pub length_behind : Bool → Bool → Option ℕ → Option ℕ → Option ℕ
length_behind false at_fault new last = last
length_behind true false new last = new
length_behind true true new last = None

-- whether a record card is in error, including its codes
abbrev pub has_wrong_codes : List (List ℕ) → ℕ → Bool
has_wrong_codes cards i = is_at_fault cards i || has_code_past (card_at cards i) (named_length cards i)

-- the record length of the file of the last record card, for AND, OR and field lines
abbrev pub input_length : List (List ℕ) → ℕ → Option ℕ
input_length cards zero = None
input_length cards (suc n) = length_behind (is_record (kind_at cards n)) (has_wrong_codes cards n) (named_length cards n) (input_length cards n)

-- a line card without a name has the file of the previous line
abbrev pub line_length : Bool → Option ℕ → Option ℕ → Option ℕ
line_length unnamed named last = if unnamed then last else named

-- the record length of the file of the last line card, for output field cards
abbrev pub output_length : List (List ℕ) → ℕ → Option ℕ
output_length cards zero = None
output_length cards (suc n) =
    length_behind (is_output_line (kind_at cards n)) (is_at_fault cards n)
    (line_length (are_blank (columns (card_at cards n) shared.FILENAME)) (named_length cards n) (output_length cards n)) (output_length cards n)

-- the record length for the positions on a card; other kinds have no such positions
abbrev pub length_for : CardKind → Option ℕ → Option ℕ → Option ℕ → Option ℕ
length_for Record named input output = named
length_for RecordAnd named input output = input
length_for RecordOr named input output = input
length_for Field named input output = input
length_for _ named input output = output

-- whether a position on a card is after the end of the record
abbrev pub names_position_past : CardKind → List ℕ → Option ℕ → Bool
names_position_past Record card length = has_code_past card length
names_position_past RecordAnd card length = has_code_past card length
names_position_past RecordOr card length = has_code_past card length
names_position_past Field card length = exceeds (number_of (columns card input.TO)) length
names_position_past OutputField card length = exceeds (number_of (columns card output.END_POSITION)) length
names_position_past _ card length = false

unfoldable pub is_outside : List (List ℕ) → ℕ → Bool
is_outside cards i =
    let kind : CardKind = kind_at cards i in
    names_position_past kind (card_at cards i) (length_for kind (named_length cards i) (input_length cards i) (output_length cards i))

-- ---- 13: too many files or fields
-- the field that a calculation card defines: its result, if the card has an operation and a length
abbrev pub result_defined : List ℕ → Option Name
result_defined card =
    if are_blank (columns card calculation.OPERATION) || are_blank (columns card calculation.LENGTH) then None else maybe_name (columns card calculation.RESULT)

-- the field that a card defines; a card in error defines none
abbrev pub field_of : CardKind → Bool → List ℕ → Option Name
field_of Field false card = Some (name_of (columns card input.FIELD_NAME))
field_of Calculation false card = result_defined card
field_of _ _ card = None

-- the field, if it isn't defined yet
abbrev pub new_field : List Name → Option Name → Option Name
new_field fields None = None
new_field fields (Some name) = if list_any (same_name name) fields then None else Some name

-- the fields that the first n cards define, each name once
abbrev pub fields : List (List ℕ) → ℕ → List Name
fields cards zero = []
fields cards (suc n) =
    fields cards n
    ++ option_to_list (new_field (fields cards n) (field_of (kind_at cards n) (is_at_fault cards n || is_outside cards n) (card_at cards n)))

-- whether the card defines the 21st file or the 1,000th field
unfoldable pub is_too_many : List (List ℕ) → ℕ → Bool
is_too_many cards i =
    (length (files cards i) == 20 && length (files cards (suc i)) == 21)
    || (length (fields cards i) == 999 && length (fields cards (suc i)) == 1000)

-- ---- the diagnostics
-- the facts about a card, from its columns and the cards before it
abbrev pub standing_at : List (List ℕ) → ℕ → Standing
standing_at cards i = record {
  faults = faults_of (card_at cards i);
  is_misplaced = is_misplaced (kind_at cards i) (before cards i);
  lacks_file = lacks_file (kind_at cards i) (before cards i) (card_at cards i);
  is_outside = is_outside cards i;
  is_too_many = is_too_many cards i;
}

-- whether a card with these facts has a diagnostic
unfoldable pub card_holds : Standing → ℕ → Bool
card_holds standing number =
    if number == 1 then standing.is_misplaced
    else if number == 2 then standing.faults.entry
    else if number == 3 then standing.faults.name || standing.lacks_file
    else if number == 4 then standing.faults.number || standing.is_outside
    else standing.is_too_many

-- whether the condition of a diagnostic holds for a card of the source
abbrev pub holds : List (List ℕ) → ℕ × ℕ → Bool
holds cards pair = card_holds (standing_at cards pair.0) pair.1

-- the diagnostics of single cards
abbrev pub numbers : List ℕ
numbers = 1 ∷ 2 ∷ 3 ∷ 4 ∷ 13 ∷ []

-- each of the first n cards with each number, in order
abbrev pub pairs : ℕ → List (ℕ × ℕ)
pairs zero = []
pairs (suc n) = pairs n ++ map (λ number. (n, number)) numbers

abbrev pub diagnostic : ℕ → ℕ × ℕ → Diagnostic
diagnostic from pair = record { card = from + pair.0 + 1; number = pair.1 }

-- the diagnostics of cards; `from` is the number of cards before the first
unfoldable pub sheet_diagnostics : ℕ → List (List ℕ) → List Diagnostic
sheet_diagnostics from cards = map (diagnostic from) (filter (holds cards) (pairs (length cards)))
