-- Which record an amendment means.
use Rattle.std.specs.Prelude.{◌≡◌, ◌≢◌, ◌<◌, ◌+◌, ◌-◌, ◌==◌, ◌&&◌, ℕ, Bool, false, List, find, slice_get, Option, Some, None}
use Rattle.s3_store.specs.Bytes.{part}
use Rattle.s3_slots.specs.declared.label.FileLabel.{FileLabel}
use Rattle.s3_cells.specs.Inner.Values.{GetsValue}
use Rattle.s3_cells.specs.declared.field.Field.{Field}
use Rattle.s3_cells.specs.declared.kind.FieldKind.{FieldKind}
use Rattle.s3_cells.specs.declared.kind.FieldKind.TheVariants.{Text as TextKind}
use Rattle.s3_amend.specs.declared.amendment.Which.{Which}
use Rattle.s3_amend.specs.declared.amendment.Which.TheVariants.{Number, Key}

-- the key of a record
abbrev pub key_of : FileLabel → List ℕ → List ℕ
key_of label bytes = part bytes (label.key_start - 1) label.key_length

-- a field has the bytes of the key, and no others
abbrev pub is_key : FileLabel → Field → Bool
is_key label field = (field.start == label.key_start - 1) && (field.width == label.key_length)

-- characters, as they are
abbrev pub characters : FieldKind
characters = TextKind (record { safe = false; capitals = false })

-- the key that a text means: the value of the field that is the key, or the text's characters if no field is
abbrev pub IsKeyBy : Option Field → FileLabel → (text key : List ℕ) → Type 0
IsKeyBy (Some field) label text key = GetsValue field.kind text field.width key
IsKeyBy None label text key = GetsValue characters text label.key_length key

-- the record at a place is the first that has this key
pub record IsFirstOf (label : FileLabel) (key : List ℕ) (records : List (List ℕ)) (place : ℕ) : Type 0 where
  pub has : (bytes : List ℕ) → slice_get records place ≡ Some bytes → key_of label bytes ≡ key
  pub first : (k : ℕ) (bytes : List ℕ) → k < place → slice_get records k ≡ Some bytes → key_of label bytes ≢ key

-- the record at a place is the first that has the key that a text means
pub record IsFirstWith (fields : List Field) (label : FileLabel) (text : List ℕ) (records : List (List ℕ)) (place : ℕ) : Type 0 where
  pub key : List ℕ
  pub said : IsKeyBy (find (is_key label) fields) label text key
  pub found : IsFirstOf label key records place

-- the record at a place, from 0, is meant: the one of a number, from 1, or the first of a key
abbrev pub IsMeant : Which → List Field → FileLabel → List (List ℕ) → (place : ℕ) → Type 0
IsMeant (Number number) fields label records place = number ≡ place + 1
IsMeant (Key text) fields label records place = IsFirstWith fields label text.now records place
