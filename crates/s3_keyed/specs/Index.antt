-- The index of a file, in the sectors after those of its records.
use Rattle.std.specs.Prelude.{ℕ, ◌+◌, ◌-◌, ◌*◌, ◌/◌, ◌%◌, List, map, take, drop}
use Rattle.std.specs.List.{range_with_len}
use Rattle.byteorder.specs.Endian.{big_number}
use Rattle.s3_store.specs.Bytes.{part}
use Rattle.s3_slots.specs.Slots.{record_sectors, entries_per_sector}
use Rattle.s3_slots.specs.declared.label.FileLabel.{FileLabel}
use Rattle.s3_keyed.specs.KeyOrder.{number_of, Entry}

-- the place of the key in a record: its length, and its start from 1
pub record KeyPlace : Type 0 where
  pub length : ℕ
  pub start : ℕ

abbrev pub key_of : KeyPlace → List ℕ → ℕ
key_of place bytes = number_of (part bytes (place.start - 1) place.length)

unfoldable pub keys_of : KeyPlace → List (List ℕ) → List ℕ
keys_of place records = map (key_of place) records

-- the layout of an indexed file in its bytes
pub record Layout : Type 0 where
  pub record_length : ℕ
  pub capacity : ℕ
  pub key : KeyPlace

abbrev pub layout_of : FileLabel → Layout
layout_of label = record {
  record_length = label.record_length;
  capacity = label.capacity;
  key = record { length = label.key_length; start = label.key_start };
}

-- the place of an entry: in the sectors after those of the records; no entry crosses the end of a sector
abbrev pub entry_place : Layout → ℕ → ℕ
entry_place layout i =
    256 * (record_sectors layout.capacity layout.record_length + i / entries_per_sector layout.key.length)
    + i % entries_per_sector layout.key.length * (layout.key.length + 4)

-- the entry in these bytes: a key and a number in four bytes
abbrev pub entry_in : (key_length : ℕ) → List ℕ → Entry
entry_in key_length bytes = record { key = number_of (take key_length bytes); number = big_number 4 (drop key_length bytes) }

unfoldable pub entry_at : Layout → List ℕ → ℕ → Entry
entry_at layout bytes i = entry_in layout.key.length (part bytes (entry_place layout i) (layout.key.length + 4))

-- the first so many entries in the bytes of a file
unfoldable pub index_in : Layout → (count : ℕ) → List ℕ → List Entry
index_in layout count bytes = map (entry_at layout bytes) (range_with_len 0 count)
