-- The bytes of an indexed file that are in no record and in no entry of its index.
use Rattle.std.specs.Prelude.{◌≡◌, ℕ, ◌+◌, ◌*◌, ◌<◌, ◌≤◌, List, slice_get}
use Rattle.s3_keyed.specs.Index.{Layout, entry_place}

-- byte k is in one of the first so many entries
pub record IsInIndex (layout : Layout) (count k : ℕ) : Type 0 where
  pub entry : ℕ
  pub counted : entry < count
  pub from : entry_place layout entry ≤ k
  pub to : k < entry_place layout entry + (layout.key.length + 4)

-- The bytes that are in none of the first so many records and in none of the first so many entries stay. They are the bytes after the
-- last record and after the last entry, and the last ones of each sector of the index.
pub record KeepsUnused (layout : Layout) (count : ℕ) (old new : List ℕ) : Type 0 where
  pub others : (k : ℕ) → ¬ (k < count * layout.record_length) → ¬ IsInIndex layout count k → slice_get new k ≡ slice_get old k
