-- The number of failed transfers by an answer of the pool's own calls.
use Rattle.std.specs.Prelude.{ℕ, Result, Ok, Err}
use Rattle.s3_store.specs.Inner.Failures.{failed_transfers}
use Rattle.s3_pool.specs.declared.pool_fault.PoolFault.{PoolFault}
use Rattle.s3_pool.specs.declared.pool_fault.PoolFault.TheVariants.{NoSector, Sectors}

abbrev pub failed_loads : {T : Type 0} → Result T PoolFault → ℕ
failed_loads (Ok _) = 0
failed_loads (Err NoSector) = 0
failed_loads {T} (Err (Sectors fault)) = failed_transfers {T = T} (Err fault)
