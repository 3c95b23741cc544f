-- Numbers that are filled because no column has them.
use Rattle.std.specs.Prelude.{◌≡◌, ℕ, Bool, true, List, replicate}
use Rattle.std.specs.List.{list_all}
use Rattle.std.specs.Str.{bytes_eq}
use Rattle.s3_cards.specs.declared.ebcdic.TheConstants.{BLANK}
use Rattle.s3_cells.specs.Inner.Fields.{zeroed}
use Rattle.s3_cells.specs.declared.field.Field.{Field}
use Rattle.s3_load.specs.Inner.Records.{with_zeros}

-- a field of a record is 0, if it is a number
abbrev pub is_settled : List ℕ → Field → Bool
is_settled bytes field = bytes_eq (zeroed bytes field) bytes

-- each of these fields is 0, once all of them are filled in a blank record
abbrev pub AreSettled : (record_length : ℕ) → List Field → Type 0
AreSettled record_length fields = list_all (is_settled (with_zeros (replicate record_length BLANK) fields)) fields ≡ true
