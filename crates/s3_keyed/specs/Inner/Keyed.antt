-- An open file with keys as a contract sees it, and its invariant.
use Rattle.std.specs.Prelude.{◌≡◌, ◌+◌, ◌^◌, ◌<◌, ◌≤◌, ℕ, true, List, [], length, take}
use Rattle.std.specs.List.{All}
use Rattle.s3_store.specs.Bytes.{bytes_at}
use Rattle.s3_store.specs.Inner.State.{PoolState, KeepsContents}
use Rattle.s3_files.specs.Records.{records_in}
use Rattle.s3_keyed.specs.KeyOrder.{Entry, key_order, insert_entries, ascends, keys_in}
use Rattle.s3_keyed.specs.Index.{Layout, keys_of, index_in}
use Rattle.s3_keyed.specs.Inner.Added.{entries_of}
use Rattle.s3_keyed.specs.Inner.Shape.{layout_in}
use Rattle.s3_keyed.specs.declared.keyed.Keyed.{Keyed}

-- Its sectors and their layout. The number of records at its check, the number with their entry on the pack, and the number of all
-- records. The entries of the others, in memory.
pub record KeyedFile : Type 0 where
  pub sectors : List ℕ
  pub layout : Layout
  pub started : ℕ
  pub indexed : ℕ
  pub count : ℕ
  pub added : List Entry

abbrev pub shown : Keyed → KeyedFile
shown keyed = record {
  sectors = keyed.file.file.sectors;
  layout = layout_in keyed.file;
  started = keyed.file.file.count;
  indexed = keyed.indexed;
  count = keyed.count;
  added = entries_of keyed.added;
}

-- the file when it is opened: every record has its entry on the pack
abbrev pub opened_of : (sectors : List ℕ) → Layout → (count : ℕ) → KeyedFile
opened_of sectors layout count = record { sectors = sectors; layout = layout; started = count; indexed = count; count = count; added = [] }

abbrev pub bytes_now : KeyedFile → List (List ℕ) → List ℕ
bytes_now keyed contents = bytes_at keyed.sectors contents

-- the records of the file, and their keys, in file order
abbrev pub records_now : KeyedFile → List (List ℕ) → List (List ℕ)
records_now keyed contents = records_in keyed.layout.record_length keyed.count (bytes_now keyed contents)

abbrev pub keys_now : KeyedFile → List (List ℕ) → List ℕ
keys_now keyed contents = keys_of keyed.layout.key (records_now keyed contents)

-- The entries on the pack and the added ones are together the key order of the records, in which no key is twice. The entries on the pack
-- are the key order of the records that have theirs there; also those at the check were.
pub record IsOrdered (start stop limit : ℕ) (at_start on_pack in_memory : List Entry) (keys : List ℕ) : Type 0 where
  pub begun : start ≤ stop
  pub counted : stop + length in_memory ≡ length keys
  pub first : at_start ≡ key_order (take start keys)
  pub index : on_pack ≡ key_order (take stop keys)
  pub order : insert_entries on_pack in_memory ≡ key_order keys
  pub distinct : ascends (keys_in (key_order keys)) ≡ true
  pub index_ascends : ascends (keys_in on_pack) ≡ true
  pub added_ascends : ascends (keys_in in_memory) ≡ true
  pub short : All (λ entry. entry.key < limit) in_memory

abbrev pub HasKeyOrder : KeyedFile → List (List ℕ) → Type 0
HasKeyOrder keyed contents =
    IsOrdered keyed.started keyed.indexed (256 ^ keyed.layout.key.length)
    (index_in keyed.layout keyed.started (bytes_now keyed contents)) (index_in keyed.layout keyed.indexed (bytes_now keyed contents)) keyed.added (keys_now keyed contents)

-- the same file, as it was checked
pub record IsSameFile (old new : KeyedFile) : Type 0 where
  pub sectors : new.sectors ≡ old.sectors
  pub layout : new.layout ≡ old.layout
  pub started : new.started ≡ old.started

-- nothing has changed
pub record IsUntouched (old new : KeyedFile) (old_state new_state : PoolState) : Type 0 where
  pub file : new ≡ old
  pub sectors : KeepsContents old_state new_state
