-- A change of some bytes within others, and within a sector.
use Rattle.std.specs.Prelude.{◌≡◌, ℕ, ◌+◌, ◌++◌, List, length, take, drop, slice_set}
use Rattle.s3_store.specs.Bytes.{sector_bytes}

-- only the bytes of the part have changed
pub record SameOutside (at width : ℕ) (old new : List ℕ) : Type 0 where
  pub before : take at new ≡ take at old
  pub after : drop (at + width) new ≡ drop (at + width) old

-- these bytes, with others written over them from a place on
abbrev pub with_part : List ℕ → ℕ → List ℕ → List ℕ
with_part bytes at piece = (take at bytes ++ piece) ++ drop (at + length piece) bytes

-- the sectors, with these bytes written into sector n from a place on
abbrev pub with_piece : List (List ℕ) → ℕ → ℕ → List ℕ → List (List ℕ)
with_piece contents n at piece = slice_set contents n (with_part (sector_bytes contents n) at piece)
