-- Rows, which have a record and its key, and the files that they are read from and written to.
use Rattle.std.specs.Prelude.{◌≡◌, ◌*◌, ℕ, List, drop, slice_get}
use Rattle.std.specs.List.{Contains}
use Rattle.s3_store.specs.Bytes.{bytes_at}
use Rattle.s3_files.specs.Inner.Files.{FileShape}
use Rattle.s3_files.specs.declared.sequential.Sequential.{Sequential}
use Rattle.s3_pack_care.specs.Inner.Keys.{key_of}
use Rattle.s3_pack_care.specs.declared.fields.SortField.{SortField}
use Rattle.s3_pack_care.specs.declared.rows.Row.{Row}

-- where the records of a file are
abbrev pub shape_of : Sequential → FileShape
shape_of file = record { sectors = file.sectors; record_length = file.record_length; capacity = file.capacity; count = file.count }

-- a row has the key of its record
abbrev pub IsKeyed : List SortField → Row → Type 0
IsKeyed fields row = row.key.items ≡ key_of fields row.bytes.items

-- the bytes of a file after its last record, up to the end of its sectors, are unchanged
abbrev pub KeepsTail : FileShape → (old new : List (List ℕ)) → Type 0
KeepsTail file old new = drop (file.count * file.record_length) (bytes_at file.sectors new) ≡ drop (file.count * file.record_length) (bytes_at file.sectors old)

-- no other sector has changed
abbrev pub ChangesSectors : (sectors : List ℕ) (old new : List (List ℕ)) → Type 0
ChangesSectors sectors old new = (n : ℕ) → ¬ Contains sectors n → slice_get new n ≡ slice_get old n
