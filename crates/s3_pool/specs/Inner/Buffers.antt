-- The buffers of a pool over its store.
use Rattle.std.specs.Prelude.{◌≡◌, ◌≢◌, ◌<◌, ◌⊎◌, ℕ, List, [], ◌∷◌, length, slice_get, slice_set, Some, IsSomeAnd, false}
use Rattle.s3_store.specs.Inner.State.{PoolState, IsBetween}
use Rattle.s3_pool.specs.declared.buffers.Buffer.{Buffer}
use Rattle.s3_pool.specs.declared.buffers.Buffers.{Buffers}

-- the sectors of a store, each replaced by its buffer if it has one
abbrev pub laid : List Buffer → List (List ℕ) → List (List ℕ)
laid [] sectors = sectors
laid (x ∷ xs) sectors = slice_set (laid xs sectors) x.sector x.bytes.value

-- sector n is in this slot
abbrev pub IsAt : ℕ → ℕ → List Buffer → Type 0
IsAt n slot slots = IsSomeAnd (slice_get slots slot) (λ x. x.sector ≡ n)

-- no slot has sector n
abbrev pub IsMissed : ℕ → List Buffer → Type 0
IsMissed n slots = (slot : ℕ) (x : Buffer) → slice_get slots slot ≡ Some x → x.sector ≢ n

-- Each slot has a sector of the store, and no two slots have the same one. A buffer that isn't dirty has the store's bytes.
pub record IsSound (sectors : List (List ℕ)) (slots : List Buffer) : Type 0 where
  pub apart : (i j : ℕ) (x y : Buffer) → slice_get slots i ≡ Some x → slice_get slots j ≡ Some y → x.sector ≡ y.sector → i ≡ j
  pub in_range : (i : ℕ) (x : Buffer) → slice_get slots i ≡ Some x → x.sector < length sectors
  pub clean : (i : ℕ) (x : Buffer) → slice_get slots i ≡ Some x → x.is_dirty ≡ false → slice_get sectors x.sector ≡ Some x.bytes.value

-- From a store and its buffers to later ones: the sectors seen through the buffers are unchanged. Each sector of the store is unchanged or
-- as seen through the buffers.
pub record KeepsLaid (sectors : List (List ℕ)) (slots : List Buffer) (later : List (List ℕ)) (later_slots : List Buffer) : Type 0 where
  pub sound : IsSound later later_slots
  pub contents : laid later_slots later ≡ laid slots sectors
  pub stored : IsBetween sectors later (laid slots sectors)

-- From a store and its buffers to later ones: sector n has these bytes, and the other sectors seen through the buffers are unchanged. Each
-- other sector of the store is unchanged or as it was seen before.
pub record Overwrites (n : ℕ) (bytes : List ℕ) (sectors : List (List ℕ)) (slots : List Buffer) (later : List (List ℕ)) (later_slots : List Buffer) : Type 0 where
  pub sound : IsSound later later_slots
  pub contents : laid later_slots later ≡ slice_set (laid slots sectors) n bytes
  pub stored : (i : ℕ) → i ≢ n → (slice_get later i ≡ slice_get sectors i) ⊎ (slice_get later i ≡ slice_get (laid slots sectors) i)

-- the state of a pool whose store has these sectors and failures
abbrev pub pool_state : List (List ℕ) → ℕ → Buffers → PoolState
pool_state sectors failures buffers = record { contents = laid buffers.slots.items sectors; stored = sectors; failures = failures }
