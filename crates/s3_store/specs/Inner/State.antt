-- Sectors over a store, and what a call may do to both.
use Rattle.std.specs.Prelude.{◌≡◌, ◌⊎◌, ℕ, List, length, slice_get}

-- the sectors, the sectors of the store below them, and how often it has failed
pub record PoolState : Type 0 where
  pub contents : List (List ℕ)
  pub stored : List (List ℕ)
  pub failures : ℕ

-- each sector of the store is unchanged or has the bytes of the contents
pub record IsBetween (old new contents : List (List ℕ)) : Type 0 where
  pub each : (i : ℕ) → (slice_get new i ≡ slice_get old i) ⊎ (slice_get new i ≡ slice_get contents i)

-- no sector changes, and each sector of the store is unchanged or has the bytes of the contents
pub record KeepsContents (old new : PoolState) : Type 0 where
  pub contents : new.contents ≡ old.contents
  pub stored : IsBetween old.stored new.stored old.contents

-- No sector outside of the region changes. Outside of it, each sector of the store is unchanged or has the bytes of the contents.
pub record ChangesWithin (region : ℕ → Type 0) (old new : PoolState) : Type 0 where
  pub count : length new.contents ≡ length old.contents
  pub contents : (i : ℕ) → ¬ region i → slice_get new.contents i ≡ slice_get old.contents i
  pub stored : (i : ℕ) → ¬ region i → (slice_get new.stored i ≡ slice_get old.stored i) ⊎ (slice_get new.stored i ≡ slice_get old.contents i)

-- No kept sector changes. If the store has the same bytes as the contents for it, that stays so.
pub record KeepsInStep (IsKept : ℕ → Type 0) (old new : PoolState) : Type 0 where
  pub count : length new.contents ≡ length old.contents
  pub contents : (i : ℕ) → IsKept i → slice_get new.contents i ≡ slice_get old.contents i
  pub stored : (i : ℕ) → IsKept i → slice_get old.stored i ≡ slice_get old.contents i → slice_get new.stored i ≡ slice_get new.contents i
