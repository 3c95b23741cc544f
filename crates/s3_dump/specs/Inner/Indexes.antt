-- The index of records, as a line of a dump stands for it: an entry for each record, ascending by the keys, which are distinct. An entry
-- is the key and the record's number, from 1, in four bytes.
use Rattle.std.specs.Prelude.{ℕ, zero, suc, ◌+◌, ◌-◌, ◌*◌, ◌%◌, ◌==◌, ◌&&◌, nat_le, nat_lt, Bool, List, [], ◌∷◌, ◌++◌, length, replicate, take, drop, Option, Some, None, if◌then◌else◌}
use Rattle.std.specs.BTreeMap.{insert_entry}
use Rattle.std.specs.Cmp.Lexicographic.{slice_cmp}
use Rattle.std.specs.Int.{to_be_bytes, w32}
use Rattle.std.specs.List.{fold}
use Rattle.std.specs.Ordering.{nat_cmp}
use Rattle.s3_dump.specs.declared.index.IndexLine.{IndexLine}

-- the bytes of the sectors of the records, which are the last so many before the line
abbrev pub records_bytes : IndexLine → ℕ
records_bytes line = 256 * line.sectors

-- the key lies in each record
abbrev pub has_key : IndexLine → Bool
has_key line = nat_le 1 line.key_length && nat_le line.key_length 29 && nat_le 1 line.key_start && nat_le (line.key_start + line.key_length) (line.record_length + 1)

-- the records lie in their sectors, and these in so many bytes
abbrev pub has_records : IndexLine → ℕ → Bool
has_records line long = nat_le (line.count * line.record_length) (records_bytes line) && nat_le (records_bytes line) long

abbrev pub fits_in : IndexLine → ℕ → Bool
fits_in line long = has_key line && has_records line long

-- the key of the record of a number, from 0
abbrev pub key_in : IndexLine → List ℕ → ℕ → List ℕ
key_in line records i = take line.key_length (drop (i * line.record_length + (line.key_start - 1)) records)

-- the numbers of the first so many records under their keys, in order of the keys
abbrev pub entries_to : IndexLine → List ℕ → ℕ → List (List ℕ × ℕ)
entries_to line records zero = []
entries_to line records (suc i) = insert_entry (slice_cmp nat_cmp) (entries_to line records i) (key_in line records i) (suc i)

-- zeros up to the next sector, if so many bytes don't fit in what is left of this one
abbrev pub zeros_before : (place long : ℕ) → ℕ
zeros_before place long = if nat_lt (256 - place % 256) long then 256 - place % 256 else 0

abbrev pub with_entry : List ℕ → List ℕ × ℕ → List ℕ
with_entry bytes entry = bytes ++ replicate (zeros_before (length bytes) (length entry.0 + 4)) 0 ++ entry.0 ++ to_be_bytes w32 entry.1

-- the entries in sectors; none if two records have one key
abbrev pub in_sectors : (count : ℕ) → List (List ℕ × ℕ) → Option (List ℕ)
in_sectors count entries = if length entries == count then Some (fold with_entry [] entries) else None

-- the index of the records at the end of these bytes; none if the line doesn't fit there
abbrev pub index_of : IndexLine → List ℕ → Option (List ℕ)
index_of line bytes =
    if fits_in line (length bytes) then in_sectors line.count (entries_to line (drop (length bytes - records_bytes line) bytes) line.count) else None
