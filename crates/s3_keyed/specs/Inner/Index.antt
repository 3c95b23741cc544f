-- The index in the file of a valid label, and the keys of the first so many records.
use Rattle.std.specs.Prelude.{ℕ, ◌+◌, ◌≤◌, List, length}
use Rattle.s3_store.specs.Stretches.{sectors_in}
use Rattle.s3_slots.specs.Slots.{record_sectors, index_sectors}
use Rattle.s3_slots.specs.declared.label.FileLabel.{FileLabel}
use Rattle.s3_files.specs.Records.{records_in}
use Rattle.s3_keyed.specs.Index.{keys_of, Layout}

-- The file of a valid label with an index: its key is in its records, and the index fits after them.
pub record HasIndex (label : FileLabel) : Type 0 where
  pub some_key : 1 ≤ label.key_length
  pub short_key : label.key_length ≤ 29
  pub some_start : 1 ≤ label.key_start
  pub inside : label.key_start + label.key_length ≤ label.record_length + 1
  pub fits : record_sectors label.capacity label.record_length + index_sectors label.capacity label.key_length ≤ length (sectors_in label.extents)

-- the keys of the first so many records
abbrev pub keys_at : Layout → (count : ℕ) → List ℕ → List ℕ
keys_at layout count bytes = keys_of layout.key (records_in layout.record_length count bytes)
