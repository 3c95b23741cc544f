-- The columns of a table, by its heading.
use Rattle.std.specs.Prelude.{◌≡◌, ℕ, ◌+◌, ◌<◌, ◌==◌, ◌&&◌, ◌⊎◌, nat_le, nat_lt, not, Bool, true, false, List, [], ◌∷◌, ◌++◌, length, drop, get_or}
use Rattle.std.specs.List.{AllPairs, Contains, filter, list_all, list_any, prefix_len, range_with_len}
use Rattle.s3_cells.specs.Inner.Texts.{space, trimmed}
use Rattle.s3_cells.specs.declared.field.Field.{Field}
use Rattle.s3_cells.specs.declared.kind.FieldKind.{FieldKind}
use Rattle.s3_cells.specs.declared.kind.FieldKind.TheVariants.{Text as TextKind, Zoned, Packed, Date}
use Rattle.s3_cells.specs.declared.dates.DateField.TheVariants.{Text as TextDate, Number as NumberDate}
use Rattle.s3_unload.specs.Inner.Tables.{name_text}
use Rattle.s3_load.specs.declared.columns.Columns.{Columns}

abbrev pub is_blank : ℕ → Bool
is_blank character = character == space

-- a cell without the blanks around it
abbrev pub bare : List ℕ → List ℕ
bare cell = trimmed (drop (prefix_len is_blank cell) cell)

-- a field of the list with this name
pub record IsNamed (fields : List Field) (text : List ℕ) (field : Field) : Type 0 where
  pub there : Contains fields field
  pub named : name_text field.name ≡ text

-- each of the first so many cells of a heading names the field of its column
pub record AreNamed (fields : List Field) (cells : List (List ℕ)) (count : ℕ) (columns : List Field) : Type 0 where
  pub counted : length columns ≡ count
  pub each : (k : ℕ) (d : Field) → k < count → IsNamed fields (bare (get_or cells k [])) (get_or columns k d)

-- one column more, for the field of that name
pub record AddsColumn (fields : List Field) (text : List ℕ) (old new : List Field) : Type 0 where
  pub field : Field
  pub column : IsNamed fields text field
  pub added : new ≡ old ++ field ∷ []

-- ---- fields in records
-- a byte of a record is one of the field
abbrev pub has_byte : ℕ → Field → Bool
has_byte place field = nat_le field.start place && nat_lt place (field.start + field.width)

-- two fields have a byte in common
abbrev pub overlap : Field → Field → Bool
overlap one other = nat_lt one.start (other.start + other.width) && nat_lt other.start (one.start + one.width)

-- no two of these fields have a byte in common
abbrev pub LieApart : List Field → Type 0
LieApart columns = AllPairs (λ one other. overlap one other ≡ false) columns

-- a number, or a date that is one
abbrev pub is_number : FieldKind → Bool
is_number (TextKind cells) = false
is_number (Zoned decimals cells) = true
is_number (Packed decimals cells) = true
is_number (Date TextDate) = false
is_number (Date NumberDate) = true

-- if the field is a number, it has no byte in common with any of these fields, so it can be filled with 0
abbrev pub is_clear : List Field → Field → Bool
is_clear columns field = not (is_number field.kind && list_any (λ other. overlap other field) columns)

-- a byte belongs to one of these fields
abbrev pub is_inside : List Field → ℕ → Bool
is_inside columns place = list_any (has_byte place) columns

-- each byte of a field belongs to one of these fields
abbrev pub is_covered : List Field → Field → Bool
is_covered columns field = list_all (is_inside columns) (range_with_len field.start field.width)

-- the fields that these leave out
abbrev pub left_out : List Field → List Field → List Field
left_out columns fields = filter (λ field. not (is_covered columns field)) fields

-- ---- a heading
-- The columns of a heading: each cell names one of the fields, and no two of these overlap. The fields without a column are filled; there
-- are none if filling isn't asked for. No number among them overlaps a column.
pub record IsHeading (fields : List Field) (fills : Bool) (cells : List (List ℕ)) (columns : Columns) : Type 0 where
  pub named : AreNamed fields cells (length cells) columns.fields.items
  pub apart : LieApart columns.fields.items
  pub filled : columns.filled.items ≡ left_out columns.fields.items fields
  pub allowed : (fills ≡ true) ⊎ (columns.filled.items ≡ [])
  pub clear : list_all (is_clear columns.fields.items) columns.filled.items ≡ true
