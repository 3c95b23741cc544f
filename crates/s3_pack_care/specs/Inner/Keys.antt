-- The keys for sorting records: lists of numbers; the first different number decides.
use Rattle.std.specs.Prelude.{ℕ, ◌+◌, ◌-◌, ◌*◌, ◌^◌, Bool, ℤ, List, [], ◌∷◌, map, unsigned_abs, nat_lt, nat_le, ◌&&◌, if◌then◌else◌}
use Rattle.std.specs.List.{flat_map}
use Rattle.s3_store.specs.Bytes.{part}
use Rattle.s3_decimal.specs.Exact.{is_negative}
use Rattle.s3_decimal.specs.Records.{packed_number, zoned_number}
use Rattle.s3_pack_care.specs.declared.fields.Form.{Form}
use Rattle.s3_pack_care.specs.declared.fields.Form.TheVariants.{Characters, Packed, Zoned}
use Rattle.s3_pack_care.specs.declared.fields.SortField.{SortField}

-- how many bytes a field may have
abbrev pub most_bytes : Form → ℕ
most_bytes Characters = 1024
most_bytes Zoned = 15
most_bytes Packed = 8

-- a field has at least one byte, is in the record, and has no more bytes than its form allows
abbrev pub fits : SortField → ℕ → Bool
fits field record_length =
    nat_lt 0 field.from && nat_le field.from field.to && nat_le field.to record_length && nat_lt (field.to - field.from) (most_bytes field.form)

-- the bytes of a field in a record
abbrev pub field_bytes : SortField → List ℕ → List ℕ
field_bytes field bytes = part bytes (field.from - 1) (field.to + 1 - field.from)

-- numbers of at most 15 digits as natural numbers in the same order
abbrev pub rank : ℤ → ℕ
rank n = if is_negative n then 10 ^ 15 - unsigned_abs n else 10 ^ 15 + unsigned_abs n

-- the reverse order, if it is asked for
abbrev pub turned : (descending : Bool) (greatest : ℕ) → ℕ → ℕ
turned descending greatest n = if descending then greatest - n else n

-- the numbers of a field for the order of records: each byte of characters, or one number
abbrev pub ranks_in : (descending : Bool) → Form → List ℕ → List ℕ
ranks_in descending Characters bytes = map (turned descending 255) bytes
ranks_in descending Zoned bytes = turned descending (2 * 10 ^ 15) (rank (zoned_number bytes)) ∷ []
ranks_in descending Packed bytes = turned descending (2 * 10 ^ 15) (rank (packed_number bytes)) ∷ []

abbrev pub ranks_of : List ℕ → SortField → List ℕ
ranks_of bytes field = ranks_in field.descending field.form (field_bytes field bytes)

-- the key of a record: the numbers of its fields, the first field first
abbrev pub key_of : List SortField → List ℕ → List ℕ
key_of fields bytes = flat_map (ranks_of bytes) fields
