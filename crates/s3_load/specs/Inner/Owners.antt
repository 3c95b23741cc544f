-- For each byte of a record, the number of the field that has it, from 1; 0 if no field has it.
use Rattle.std.specs.Prelude.{◌≡◌, ℕ, not, nat_lt, Bool, true, false, List, get_or}
use Rattle.std.specs.List.{filter, list_all, range_with_len}
use Rattle.s3_cells.specs.declared.field.Field.{Field}
use Rattle.s3_load.specs.Inner.Columns.{has_byte, is_inside}

abbrev pub is_owned : List ℕ → ℕ → Bool
is_owned owners place = nat_lt 0 (get_or owners place 0)

-- a byte has an owner exactly if one of these fields has it
abbrev pub AreOwners : List Field → List ℕ → Type 0
AreOwners fields owners = (place : ℕ) → is_owned owners place ≡ is_inside fields place

-- no byte of the field has an owner
abbrev pub IsFree : List ℕ → Field → Type 0
IsFree owners field = (place : ℕ) → has_byte place field ≡ true → is_owned owners place ≡ false

-- each byte of the field has an owner
abbrev pub owns_whole : List ℕ → Field → Bool
owns_whole owners field = list_all (is_owned owners) (range_with_len field.start field.width)

-- the fields with a byte without an owner
abbrev pub unowned : List ℕ → List Field → List Field
unowned owners fields = filter (λ field. not (owns_whole owners field)) fields
