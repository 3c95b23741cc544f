-- A field in a record.
use Rattle.std.specs.Prelude.{◌≡◌, ◌+◌, ◌≤◌, ℕ, Bool, List, length}
use Rattle.s3_store.specs.Bytes.{part}
use Rattle.s3_store.specs.Inner.Bytes.{with_part}
use Rattle.s3_cells.specs.Inner.Values.{GetsValue, SaysNone, cell_text, is_shown_in, value_in, zeroed_bytes}
use Rattle.s3_cells.specs.declared.field.Field.{Field}

abbrev pub field_bytes : Field → List ℕ → List ℕ
field_bytes field bytes = part bytes field.start field.width

-- its value can be shown
abbrev pub is_shown : Field → List ℕ → Bool
is_shown field bytes = is_shown_in field.kind (field_bytes field bytes)

-- the cell that shows its value
abbrev pub cell_of : Field → List ℕ → List ℕ
cell_of field bytes = cell_text field.kind (value_in field.kind (field_bytes field bytes))

-- the field gets the value that a cell says, and no other byte changes
pub record Takes (field : Field) (cell old new : List ℕ) : Type 0 where
  pub bytes : List ℕ
  pub long : length bytes ≡ field.width
  pub got : GetsValue field.kind cell field.width bytes
  pub new_record : new ≡ with_part old field.start bytes

-- a cell says a value that the field can't hold, or none
abbrev pub IsNotTaken : Field → List ℕ → Type 0
IsNotTaken field cell = SaysNone field.kind cell field.width

-- a record in which the field, if it is a number, is 0
abbrev pub zeroed : List ℕ → Field → List ℕ
zeroed bytes field = with_part bytes field.start (zeroed_bytes field.kind (field_bytes field bytes))

-- it lies in records of so many bytes
abbrev pub LiesIn : ℕ → Field → Type 0
LiesIn record_length field = field.start + field.width ≤ record_length
