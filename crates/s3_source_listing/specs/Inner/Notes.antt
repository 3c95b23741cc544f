-- What is under a card in a listing.
use Rattle.std.specs.Prelude.{ℕ, nat_eq, ◌==◌, Bool, List, [], Vec, map, filter}
use Rattle.std.specs.Option.{option_map_or}
use Rattle.indexmap.specs.IndexMap.{IndexMap, get}
use Rattle.s3_blame.specs.Inner.Columns.{columns_of}
use Rattle.s3_lines.specs.declared.diagnostic.Diagnostic.{Diagnostic}
use Rattle.s3_decks.specs.declared.ruled.Columns.{Columns}
use Rattle.s3_sheets.specs.declared.parts.FaultyEntry.{FaultyEntry}
use Rattle.s3_source_listing.specs.declared.notes.Note.{Note}

abbrev pub number_of : Note → ℕ
number_of note = note.number

abbrev pub marked_of : Note → List Columns
marked_of note = note.marked.items

-- each number that a card has among diagnostics, in their order
abbrev pub numbers_under : (card : ℕ) → List Diagnostic → List ℕ
numbers_under card found = map (λ (diagnostic : Diagnostic). diagnostic.number) (filter (λ (diagnostic : Diagnostic). diagnostic.card == card) found)

-- whether an entry is one of a card
abbrev pub is_on : (card : ℕ) → FaultyEntry → Bool
is_on card entry = entry.card == card

-- the columns of the entries of a card that are at fault by a number
abbrev pub marks_of : (card : ℕ) → List FaultyEntry → (number : ℕ) → List Columns
marks_of card entries number = columns_of (record { card = card; number = number }) entries

-- those of each number that a card has among diagnostics
abbrev pub marks_under : (card : ℕ) → List Diagnostic → List FaultyEntry → List (List Columns)
marks_under card found entries = map (marks_of card entries) (numbers_under card found)

-- the entries, and the notes, that a table has for a card
abbrev pub entries_in : {A S : Type 0} → IndexMap ℕ (Vec FaultyEntry A) S → (card : ℕ) → List FaultyEntry
entries_in table card = option_map_or (λ entries. entries.items) (get nat_eq table card) []

abbrev pub notes_in : {A S : Type 0} → IndexMap ℕ (Vec Note A) S → (card : ℕ) → List Note
notes_in table card = option_map_or (λ notes. notes.items) (get nat_eq table card) []
