-- Fields that are named with values.
use Rattle.std.specs.Prelude.{◌≡◌, ◌<◌, ◌+◌, ◌-◌, ◌&&◌, ℕ, nat_lt, Bool, false, List, [], ◌∷◌, ◌++◌, length, get_or, map}
use Rattle.std.specs.List.{All, Contains}
use Rattle.s3_slots.specs.declared.label.FileLabel.{FileLabel}
use Rattle.s3_cells.specs.declared.field.Field.{Field}
use Rattle.s3_load.specs.Inner.Columns.{IsNamed}
use Rattle.s3_amend.specs.declared.amendment.Setting.{Setting}

-- the values of settings
abbrev pub values_of : List Setting → List (List ℕ)
values_of settings = map (λ (setting : Setting). setting.value.now) settings

-- a field has a byte of the key of a file
abbrev pub is_in_key : FileLabel → Field → Bool
is_in_key label field = nat_lt field.start (label.key_start - 1 + label.key_length) && nat_lt (label.key_start - 1) (field.start + field.width)

-- these are the fields that the first so many settings name; each is one of the layout's, and none has a byte of the key
pub record AreNamed (fields : List Field) (label : FileLabel) (settings : List Setting) (count : ℕ) (named : List Field) : Type 0 where
  pub counted : length named ≡ count
  pub each : (k : ℕ) (d : Field) (s : Setting) → k < count → IsNamed fields (get_or settings k s).name.now (get_or named k d)
  pub among : All (Contains fields) named
  pub unkeyed : All (λ field. is_in_key label field ≡ false) named

-- a setting more
pub record AddsNamed (fields : List Field) (label : FileLabel) (setting : Setting) (old new : List Field) : Type 0 where
  pub field : Field
  pub named : IsNamed fields setting.name.now field
  pub unkeyed : is_in_key label field ≡ false
  pub added : new ≡ old ++ field ∷ []
