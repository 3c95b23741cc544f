-- The state of a pool after a reference into it has ended.
use Rattle.std.specs.Prelude.{◌≡◌, ◌+◌, ℕ, List, slice_set, Result, ⊤}
use mathlib.Core.Option.{none}
use Rattle.std.specs.Borrow.{Fml, RattleType, Bor, MutBor, LendsSoOk, follows_so, Array, u8}
use Rattle.s3_store.specs.declared.pack_store.PackStore as store
use Rattle.s3_store.specs.Inner.State.{PoolState, IsBetween, KeepsContents}
use Rattle.s3_pool.specs.contracts.pool.Pool.{the_row}
use Rattle.s3_pool.specs.declared.pool_fault.PoolFault.{PoolFault}
use Rattle.s3_pool.specs.Inner.Loads.{failed_loads}

-- Only one sector of the contents changes. Each sector of the store is unchanged or as the old contents had it. No transfer failed.
pub record ChangesSector (n : ℕ) (old new : PoolState) (bytes : List ℕ) : Type 0 where
  pub contents : new.contents ≡ slice_set old.contents n bytes
  pub stored : IsBetween old.stored new.stored old.contents
  pub failures : new.failures ≡ old.failures

-- no sector changes, and the number of failures is the one of the answer
pub record KeepsAll {T : Type 0} (old : PoolState) (result : Result T PoolFault) (new : PoolState) : Type 0 where
  pub contents : KeepsContents old new
  pub failures : new.failures ≡ old.failures + failed_loads result

module _ (S : RattleType) (ghosts : store.Ghosts S.Denot) where
  -- after the reference has ended, sector n has the bytes that the caller left; a refused call changes nothing
  abbrev pub LendsSector : MutBor PoolState → ℕ → Result (MutBor (List ℕ)) PoolFault → Fml
  LendsSector p n r = LendsSoOk (the_row S ghosts) (Array u8 256) p r (λ after bytes. ChangesSector n p.now after bytes) (λ after. KeepsAll p.now r after)

  -- after the reference has ended, nothing has changed
  abbrev pub EndsKept : MutBor PoolState → Result (Bor (List ℕ)) PoolFault → Fml
  EndsKept p r = follows_so (the_row S ghosts) (the_row S ghosts) p.ghost_name none (λ _ _. ⊤) (λ after. KeepsAll p.now r after)
