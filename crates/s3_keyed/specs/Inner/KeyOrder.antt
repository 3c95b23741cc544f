-- The keys of the first so many entries ascend.
use Rattle.std.specs.Prelude.{ℕ, ◌<◌}
use Rattle.s3_keyed.specs.KeyOrder.{Entry}

-- the keys of the first n entries ascend
abbrev pub IsAscending : (ℕ → Entry) → ℕ → Type 0
IsAscending entry n = (i j : ℕ) → i < j → j < n → (entry i).key < (entry j).key
