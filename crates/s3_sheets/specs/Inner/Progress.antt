-- Reading card by card: the state kept of the cards so far, and what follows from it for the next card.
use Rattle.std.specs.Prelude.{ℕ, ◌+◌, List, [], ◌++◌, Bool, true, false, ◌==◌, ◌&&◌, ◌||◌, not, Option, None, length, max}
use Rattle.std.specs.Option.{option_to_list}
use Rattle.s3_entries.specs.declared.shared.TheConstants as shared
use Rattle.s3_sheets.specs.Columns.{columns, are_blank}
use Rattle.s3_cards.specs.Names.{name_of}
use Rattle.s3_sheets.specs.Kinds.{kind_of, sheet_of, is_record, is_output_line}
use Rattle.s3_sheets.specs.Sheets.{is_behind, faults_of, has_fault, file_of, record_length_of, new_file, has_code_past, length_behind, line_length, names_position_past, length_for, field_of, new_field}
use Rattle.s3_cards.specs.declared.name.Name.{Name}
use Rattle.s3_sheets.specs.declared.kind.CardKind.{CardKind}
use Rattle.s3_sheets.specs.declared.kind.CardKind.TheVariants.{Comment, Unknown}
use Rattle.s3_sheets.specs.declared.progress.Standing.{Standing}

-- the state kept of the cards so far
pub record Kept : Type 0 where
  pub latest_sheet : ℕ
  pub has_output_line : Bool
  pub files : List (Name × ℕ)
  pub input_length : Option ℕ
  pub output_length : Option ℕ
  pub fields : List Name

abbrev pub nothing_kept : Kept
nothing_kept = record {
  latest_sheet = 0;
  has_output_line = false;
  files = [];
  input_length = None;
  output_length = None;
  fields = [];
}

abbrev pub is_misplaced_behind : CardKind → ℕ → Bool
is_misplaced_behind Comment latest = false
is_misplaced_behind Unknown latest = true
is_misplaced_behind kind latest = is_behind (sheet_of kind) latest

abbrev pub lacks_its_file : Kept → CardKind → List ℕ → Bool
lacks_its_file kept kind card = is_output_line kind && are_blank (columns card shared.FILENAME) && not kept.has_output_line

-- the record length of the file named on a card
abbrev pub length_named : Kept → List ℕ → Option ℕ
length_named kept card = record_length_of kept.files (name_of (columns card shared.FILENAME))

unfoldable pub is_outside_behind : Kept → CardKind → List ℕ → Bool
is_outside_behind kept kind card = names_position_past kind card (length_for kind (length_named kept card) kept.input_length kept.output_length)

unfoldable pub is_at_fault_behind : Kept → List ℕ → Bool
is_at_fault_behind kept card =
    let kind : CardKind = kind_of card in
    is_misplaced_behind kind kept.latest_sheet || lacks_its_file kept kind card || has_fault (faults_of card)

-- the list grows from its limit to one more element
abbrev pub passes_limit : ℕ → ℕ → ℕ → Bool
passes_limit most old new = (old == most) && (new == most + 1)

unfoldable pub files_with : Kept → List ℕ → List (Name × ℕ)
files_with kept card = kept.files ++ option_to_list (new_file kept.files (file_of (kind_of card) (is_at_fault_behind kept card) card))

unfoldable pub fields_with : Kept → List ℕ → List Name
fields_with kept card =
    kept.fields ++ option_to_list (new_field kept.fields (field_of (kind_of card) (is_at_fault_behind kept card || is_outside_behind kept (kind_of card) card) card))

-- the state after one more card
unfoldable pub kept_behind : Kept → List ℕ → Kept
kept_behind kept card =
    let kind : CardKind = kind_of card in
    let is_at_fault : Bool = is_at_fault_behind kept card in
    let named : Option ℕ = length_named kept card in
    record {
      latest_sheet = max kept.latest_sheet (sheet_of kind);
      has_output_line = kept.has_output_line || is_output_line kind;
      files = files_with kept card;
      input_length = length_behind (is_record kind) (is_at_fault || has_code_past card named) named kept.input_length;
      output_length = length_behind (is_output_line kind) is_at_fault
          (line_length (are_blank (columns card shared.FILENAME)) named kept.output_length) kept.output_length;
      fields = fields_with kept card;
    }

-- the facts about the next card, from the state and the card's own columns
unfoldable pub standing_behind : Kept → List ℕ → Standing
standing_behind kept card =
    let kind : CardKind = kind_of card in
    record {
      faults = faults_of card;
      is_misplaced = is_misplaced_behind kind kept.latest_sheet;
      lacks_file = lacks_its_file kept kind card;
      is_outside = is_outside_behind kept kind card;
      is_too_many = passes_limit 20 (length kept.files) (length (files_with kept card))
          || passes_limit 999 (length kept.fields) (length (fields_with kept card));
    }
