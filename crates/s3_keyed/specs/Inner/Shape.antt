-- An indexed file, and an entry in memory, in the terms of the definitions.
use Rattle.std.specs.Prelude.{◌≡◌, ◌≤◌, ℕ, ◌+◌, ◌-◌, ◌*◌, List, Some, length, slice_get}
use Rattle.s3_store.specs.Bytes.{bytes_at, part}
use Rattle.s3_slots.specs.Slots.{record_sectors}
use Rattle.s3_keyed.specs.declared.indexed.IndexedFile.{IndexedFile}
use Rattle.s3_keyed.specs.declared.indexed.IndexEntry.{IndexEntry}
use Rattle.s3_keyed.specs.KeyOrder.{number_of, Entry}
use Rattle.s3_keyed.specs.Index.{Layout, entry_in}
use Rattle.s3_keyed.specs.Inner.Index.{keys_at}

abbrev pub layout_in : IndexedFile → Layout
layout_in f = record {
  record_length = f.file.record_length;
  capacity = f.file.capacity;
  key = record { length = f.key_length; start = f.key_start };
}

-- the bytes of the file, from these sectors
abbrev pub bytes_in : IndexedFile → List (List ℕ) → List ℕ
bytes_in f contents = bytes_at f.file.sectors contents

-- the bytes of a sector of its index, from 0
abbrev pub index_sector : IndexedFile → ℕ → List ℕ → List ℕ
index_sector f place bytes = part bytes (256 * (record_sectors f.file.capacity f.file.record_length + place)) 256

-- the keys of its records, in file order
abbrev pub keys_on : IndexedFile → List (List ℕ) → List ℕ
keys_on f contents = keys_at (layout_in f) f.file.count (bytes_in f contents)

abbrev pub entry_of : IndexEntry → Entry
entry_of e = record { key = number_of e.key.bytes; number = e.number }

-- entry j of an index's sector, for keys of so many bytes
abbrev pub entry_here : (key_length : ℕ) → List ℕ → ℕ → Entry
entry_here key_length sector j = entry_in key_length (part sector (j * (key_length + 4)) (key_length + 4))

-- an entry has the number of one of the records with these keys, and that record's key
pub record IsOfRecord (keys : List ℕ) (e : Entry) : Type 0 where
  pub some : 1 ≤ e.number
  pub within : e.number ≤ length keys
  pub keyed : slice_get keys (e.number - 1) ≡ Some e.key
