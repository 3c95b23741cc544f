-- The check of one sector of an index.
use Rattle.std.specs.Prelude.{ℕ, ◌<◌, List}
use Rattle.s3_keyed.specs.KeyOrder.{Entry}
use Rattle.s3_keyed.specs.Inner.KeyOrder.{IsAscending}
use Rattle.s3_keyed.specs.Inner.Shape.{IsOfRecord}

-- the keys of the sector's entries ascend, and the first is above the last key of the sector before it, if there is one
pub record GoesOn (place last : ℕ) (entry : ℕ → Entry) (entries : ℕ) : Type 0 where
  pub follows : 0 < place → last < (entry 0).key
  pub ascending : IsAscending entry entries

-- the keys ascend, and the entries are those of the records with these keys
pub record IsGoodSector (keys : List ℕ) (place last : ℕ) (entry : ℕ → Entry) (entries : ℕ) : Type 0 where
  pub goes_on : GoesOn place last entry entries
  pub of_records : (j : ℕ) → j < entries → IsOfRecord keys (entry j)
