-- A file to which records are appended one after another.
use Rattle.std.specs.Prelude.{◌≡◌, ◌+◌, ℕ, true, false, List, [], ◌∷◌, ◌++◌, length, map, slice_get}
use Rattle.std.specs.List.{Contains}
use Rattle.s3_store.specs.Bytes.{bytes_at}
use Rattle.s3_slots.specs.Labels.{is_indexed, sectors_of}
use Rattle.s3_slots.specs.declared.label.FileLabel.{FileLabel}
use Rattle.s3_files.specs.Records.{records_in}
use Rattle.s3_files.specs.Inner.Files.{AreStored, FileShape, file_of}
use Rattle.s3_files.specs.declared.sequential.Sequential.{Sequential}
use Rattle.s3_keyed.specs.Index.{index_in, keys_of, layout_of}
use Rattle.s3_keyed.specs.KeyOrder.{is_good_index}
use Rattle.s3_keyed.specs.Inner.Keyed.{HasKeyOrder, bytes_now, records_now, shown}
use Rattle.s3_keyed.specs.Inner.Unused.{KeepsUnused}
use Rattle.s3_keyed.specs.declared.keyed.Keyed.{Keyed}
use Rattle.s3_pack_care.specs.Inner.Rows.{KeepsTail, shape_of}
use Rattle.s3_unload.specs.Inner.Ordered.{in_order}
use Rattle.s3_load.specs.declared.rows.Row.{Row}

-- the records of rows
abbrev pub records_of : List Row → List (List ℕ)
records_of rows = map (λ row. row.bytes.items) rows

-- the file of a label, with another count of records
abbrev pub counted : FileLabel → ℕ → FileLabel
counted label count = record label { count = count }

-- the file of a label with its present bytes and another count of records
abbrev pub grown : FileLabel → ℕ → FileShape
grown label count = record (file_of label) { count = count }

-- The file has these records after those that its label counts. Without an index, the bytes after the last of them are unchanged.
pub record HasMore (label : FileLabel) (added : List (List ℕ)) (old new : List (List ℕ)) (count : ℕ) : Type 0 where
  pub counts : count ≡ label.count + length added
  pub records : in_order (counted label count) new ≡ in_order label old ++ added
  pub tail : is_indexed label.organization ≡ false → KeepsTail (grown label count) old new

-- only these sectors have changed
pub record ChangesOnly (sectors : List ℕ) (old new : List (List ℕ)) : Type 0 where
  pub others : (n : ℕ) → ¬ Contains sectors n → slice_get new n ≡ slice_get old n

-- its index is that of its records
abbrev pub HasGoodIndex : FileLabel → List (List ℕ) → Type 0
HasGoodIndex label contents =
    is_good_index (index_in (layout_of label) label.count (bytes_at (sectors_of label) contents)) (keys_of (layout_of label).key (in_order label contents)) ≡ true

-- a file with an index keeps the bytes that are in none of its first so many records and entries
abbrev pub KeepsSpare : FileLabel → (count : ℕ) → (old new : List (List ℕ)) → Type 0
KeepsSpare label count old new = KeepsUnused (layout_of label) count (bytes_at (sectors_of label) old) (bytes_at (sectors_of label) new)

-- ---- a file without an index
-- the file of the label over these sectors, with these records after those that the label counts, and the same bytes after them
pub record IsFilled (file : Sequential) (label : FileLabel) (added : List (List ℕ)) (old new : List (List ℕ)) : Type 0 where
  pub sectors : file.sectors ≡ sectors_of label
  pub record_length : file.record_length ≡ label.record_length
  pub counts : file.count ≡ label.count + length added
  pub records : records_in file.record_length file.count (bytes_at file.sectors new) ≡ in_order label old ++ added
  pub tail : KeepsTail (shape_of file) old new

-- the file has one record more, and the same bytes after it
pub record AddsRecord (bytes : List ℕ) (first last : Sequential) (old new : List (List ℕ)) : Type 0 where
  pub sectors : last.sectors ≡ first.sectors
  pub record_length : last.record_length ≡ first.record_length
  pub counts : last.count ≡ first.count + 1
  pub records : records_in last.record_length last.count (bytes_at last.sectors new) ≡ records_in first.record_length first.count (bytes_at first.sectors old) ++ bytes ∷ []
  pub tail : KeepsTail (shape_of last) old new

-- ---- a file with an index
-- the file of the label over these sectors, with its keys in order
pub record IsAtWork (file : Keyed) (label : FileLabel) (contents : List (List ℕ)) : Type 0 where
  pub stored : AreStored (shown file).sectors contents
  pub key_order : HasKeyOrder (shown file) contents
  pub sectors : (shown file).sectors ≡ sectors_of label
  pub layout : (shown file).layout ≡ layout_of label

-- the bytes that are in no record and in no entry stay, except those of the next record and of one more entry
abbrev pub KeepsSpareNow : Keyed → (old new : List (List ℕ)) → Type 0
KeepsSpareNow file old new = KeepsUnused (shown file).layout ((shown file).count + 1) (bytes_now (shown file) old) (bytes_now (shown file) new)

-- the file has one record more
abbrev pub AddsByKey : List ℕ → Keyed → Keyed → (old new : List (List ℕ)) → Type 0
AddsByKey bytes first last old new = records_now (shown last) new ≡ records_now (shown first) old ++ bytes ∷ []
