-- What a call on sectors changes, by its answer.
use Rattle.std.specs.Prelude.{◌≡◌, ◌+◌, ℕ, List, Result}
use Rattle.std.specs.List.{Contains}
use Rattle.s3_store.specs.Inner.Failures.{failed_transfers}
use Rattle.s3_store.specs.Inner.State.{PoolState, ChangesWithin, KeepsContents}
use Rattle.s3_store.specs.declared.sector_fault.SectorFault.{SectorFault}

-- no sector changes, and each failed transfer is counted
pub record Reads {T : Type 0} (result : Result T SectorFault) (old new : PoolState) : Type 0 where
  pub keeps : KeepsContents old new
  pub failures : new.failures ≡ old.failures + failed_transfers result

-- only these sectors change, and each failed transfer is counted
pub record Changes {T : Type 0} (sectors : List ℕ) (result : Result T SectorFault) (old new : PoolState) : Type 0 where
  pub within : ChangesWithin (Contains sectors) old new
  pub failures : new.failures ≡ old.failures + failed_transfers result
