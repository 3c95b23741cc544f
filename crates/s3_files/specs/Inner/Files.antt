-- A file over the contents of a pool.
use Rattle.std.specs.Prelude.{◌≡◌, ◌*◌, ◌^◌, ◌<◌, ◌≤◌, ◌++◌, ℕ, List, length, take, drop, nat_eq}
use Rattle.std.specs.List.{All, IsDistinct}
use Rattle.s3_store.specs.Bytes.{bytes_at}
use Rattle.s3_store.specs.Inner.Bytes.{SameOutside}
use Rattle.s3_store.specs.Stretches.{sectors_in}
use Rattle.s3_slots.specs.Labels.{sectors_of}
use Rattle.s3_slots.specs.declared.label.FileLabel.{FileLabel}
use Rattle.s3_files.specs.Records.{records_in}

-- Where the records of a file are: the numbers of its sectors, in the order of its bytes; the length of a record; the number of records
-- that have space, and the number of records.
pub record FileShape : Type 0 where
  pub sectors : List ℕ
  pub record_length : ℕ
  pub capacity : ℕ
  pub count : ℕ

-- the records of a file over these sectors
abbrev pub records : FileShape → List (List ℕ) → List (List ℕ)
records file contents = records_in file.record_length file.count (bytes_at file.sectors contents)

-- only the bytes of the record at i change
abbrev pub ChangesRecord : FileShape → ℕ → List (List ℕ) → List (List ℕ) → Type 0
ChangesRecord file i old new = SameOutside (i * file.record_length) file.record_length (bytes_at file.sectors old) (bytes_at file.sectors new)

-- a buffer after a refused read: the first bytes of the whole, as many as were read, and then the buffer's own bytes
abbrev pub IsReadInPart : (whole old new : List ℕ) → Type 0
IsReadInPart whole old new = (count : ℕ) × (new ≡ take count whole ++ drop count old)

-- the sectors exist
abbrev pub AreStored : List ℕ → List (List ℕ) → Type 0
AreStored sectors contents = All (λ n. n < length contents) sectors

-- ---- a file as its label says

abbrev pub file_of : FileLabel → FileShape
file_of label = record { sectors = sectors_of label; record_length = label.record_length; capacity = label.capacity; count = label.count }

-- The file of a valid label: no sector occurs twice, the records fit, and the count is at most the capacity.
pub record HasRoom (label : FileLabel) : Type 0 where
  pub small : All (λ n. n < 65536) (sectors_in label.extents)
  pub distinct : IsDistinct nat_eq (sectors_in label.extents)
  pub fits : label.capacity * label.record_length ≤ 256 * length (sectors_in label.extents)
  pub few : 256 * length (sectors_in label.extents) < 2 ^ 31
  pub counted : label.count ≤ label.capacity
