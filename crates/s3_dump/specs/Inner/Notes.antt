-- The notes of a dump about the fields of a record: a line for each, with its name and its value.
use Rattle.std.specs.Prelude.{◌≡◌, ℕ, ◌+◌, ◌-◌, ◌/◌, ◌%◌, ◌==◌, ◌&&◌, nat_lt, not, Bool, List, [], ◌∷◌, ◌++◌, filter, find, length, map, replicate, take, Option, option_map, if◌then◌else◌}
use Rattle.std.specs.List.{flat_map, prefix_len}
use Rattle.s3_cards.specs.Codes.{shown_byte}
use Rattle.s3_cards.specs.Names.{is_mark, same_name}
use Rattle.s3_cards.specs.declared.name.Name.{Name}
use Rattle.s3_cells.specs.Inner.Fields.{cell_of, field_bytes, is_shown}
use Rattle.s3_cells.specs.declared.field.Field.{Field}
use Rattle.s3_cells.specs.declared.layout.Layout.{Layout}
use Rattle.s3_record_types.specs.Inner.Chosen.{is_chosen}
use Rattle.s3_labels.specs.Inner.AreaNumbers.{area_number}
use Rattle.s3_labels.specs.declared.area.Area.{Area}
use Rattle.s3_dump.specs.Inner.Dumps.{line_end}
use Rattle.s3_dump.specs.declared.laid.FileLayout.{FileLayout}
use Rattle.s3_dump.specs.declared.writing.Writer.{Writer}

-- ---- which layout a record has
-- a layout is of a file, and has the length and the type of a record
abbrev pub is_layout_of : Area → Name → List ℕ → FileLayout → Bool
is_layout_of area name bytes file = (area_number file.area == area_number area) && same_name file.name name && (file.layout.now.record_length == length bytes) && is_chosen file.records.now bytes

abbrev pub layout_for : Area → Name → List ℕ → List FileLayout → Option Layout
layout_for area name bytes files = option_map (λ (file : FileLayout). file.layout.now) (find (is_layout_of area name bytes) files)

-- ---- the text of a field
-- a hexadecimal digit, 0 to 9 and A to F, and the two of a byte
abbrev pub digit_of : ℕ → ℕ
digit_of number = if nat_lt number 10 then 48 + number else 65 + (number - 10)

abbrev pub digits_of : ℕ → List ℕ
digits_of byte = digit_of (byte / 16) ∷ digit_of (byte % 16) ∷ []

-- X'..'
abbrev pub hexadecimal : List ℕ → List ℕ
hexadecimal bytes = 88 ∷ 39 ∷ (flat_map digits_of bytes ++ 39 ∷ [])

-- the cell that shows it in a table; if it can't be shown, its bytes
abbrev pub value_text : Field → List ℕ → List ℕ
value_text field bytes = if is_shown field bytes then cell_of field bytes else hexadecimal (field_bytes field bytes)

abbrev pub name_length : Name → ℕ
name_length name = prefix_len is_mark name.codes

-- with blanks up to eight characters
abbrev pub name_column : Name → List ℕ
name_column name = map shown_byte (take (name_length name) name.codes) ++ replicate (8 - name_length name) 32

abbrev pub field_text : Field → List ℕ → List ℕ
field_text field bytes = name_column field.name ++ value_text field bytes

-- ---- its line
abbrev pub is_noted : ℕ → Bool
is_noted c = not (c == line_end)

-- # and a blank, and the text on one line; no line for no text
abbrev pub note_line : List ℕ → List ℕ
note_line [] = []
note_line (c ∷ text) = 35 ∷ 32 ∷ (filter is_noted (c ∷ text) ++ line_end ∷ [])

-- the notes about a record: one for each field
abbrev pub notes_text : List Field → List ℕ → List ℕ
notes_text fields bytes = flat_map (λ field. note_line (field_text field bytes)) fields

-- notes are written, if no zeros are waiting for their line
pub record HasWritten (old new : Writer) (text : List ℕ) : Type 0 where
  pub written : new.text.items ≡ old.text.items ++ text
  pub zeros : new.zeros ≡ 0

abbrev pub AddsNotes : (old new : Writer) (text : List ℕ) → Type 0
AddsNotes old new text = old.zeros ≡ 0 → HasWritten old new text
