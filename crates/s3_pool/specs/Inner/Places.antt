-- The place of each sector that is in memory.
use Rattle.std.specs.Prelude.{◌≡◌, ℕ, List, length, slice_get, Some}
use Rattle.s3_pool.specs.declared.buffers.Buffer.{Buffer}
use Rattle.s3_pool.specs.declared.buffers.Buffers.{Buffers}

-- the sector of each slot has this slot as its place
abbrev pub IsPlaced : List ℕ → List Buffer → Type 0
IsPlaced places slots = (slot : ℕ) (x : Buffer) → slice_get slots slot ≡ Some x → slice_get places x.sector ≡ Some slot

-- each sector of the store has a place: its slot if it has one
pub record IsIndexed (sectors : List (List ℕ)) (buffers : Buffers) : Type 0 where
  pub whole : length buffers.places.items ≡ length sectors
  pub placed : IsPlaced buffers.places.items buffers.slots.items
