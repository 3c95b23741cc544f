-- The records of a table's rows.
use Rattle.std.specs.Prelude.{◌≡◌, ℕ, ◌<◌, true, false, List, [], length, get_or, take, replicate}
use Rattle.std.specs.List.{fold}
use Rattle.s3_cards.specs.declared.ebcdic.TheConstants.{BLANK}
use Rattle.s3_cells.specs.Inner.Fields.{field_bytes, zeroed}
use Rattle.s3_cells.specs.Inner.Values.{GetsValue, IsAsWritten}
use Rattle.s3_cells.specs.declared.field.Field.{Field}
use Rattle.s3_record_types.specs.Inner.Chosen.{codes_of, is_chosen}
use Rattle.s3_record_types.specs.Inner.Codes.{with_codes}
use Rattle.s3_record_types.specs.declared.chosen.ChosenRecords.{ChosenRecords}
use Rattle.s3_load.specs.Inner.Columns.{is_inside}

-- a record in which each of these numbers is 0
abbrev pub with_zeros : List ℕ → List Field → List ℕ
with_zeros bytes fields = fold zeroed bytes fields

-- a record before its row is read: blank, except for the filled numbers and the codes of the chosen type
abbrev pub empty_record : (record_length : ℕ) → (filled : List Field) → ChosenRecords → List ℕ
empty_record record_length filled chosen = with_codes (with_zeros (replicate record_length BLANK) filled) (codes_of chosen)

-- The first so many cells have put their values into a record: each field has the value of its cell, and all bytes outside of these fields
-- are unchanged.
pub record HasTaken (columns : List Field) (cells : List (List ℕ)) (old : List ℕ) (count : ℕ) (new : List ℕ) : Type 0 where
  pub long : length new ≡ length old
  pub said : (k : ℕ) (d : Field) → k < count → GetsValue (get_or columns k d).kind (get_or cells k []) (get_or columns k d).width (field_bytes (get_or columns k d) new)
  pub rest : (place : ℕ) → is_inside (take count columns) place ≡ false → get_or new place 0 ≡ get_or old place 0

-- The record of a row: the field of each column has the value of its cell. The other bytes are blank, except for the filled numbers, which
-- are 0, and the codes of the chosen type. The record is of that type.
pub record IsRecordOf (record_length : ℕ) (columns filled : List Field) (chosen : ChosenRecords) (cells : List (List ℕ)) (bytes : List ℕ) : Type 0 where
  pub long : length bytes ≡ record_length
  pub counted : length cells ≡ length columns
  pub said : (k : ℕ) (d : Field) → k < length columns → GetsValue (get_or columns k d).kind (get_or cells k []) (get_or columns k d).width (field_bytes (get_or columns k d) bytes)
  pub rest : (place : ℕ) → is_inside columns place ≡ false → get_or bytes place 0 ≡ get_or (empty_record record_length filled chosen) place 0
  pub is_meant : is_chosen chosen bytes ≡ true

-- each number of these fields has the bytes with which the program writes it
abbrev pub AreAsWritten : List Field → List ℕ → Type 0
AreAsWritten columns bytes = (k : ℕ) (d : Field) → k < length columns → IsAsWritten (get_or columns k d).kind (field_bytes (get_or columns k d) bytes)
