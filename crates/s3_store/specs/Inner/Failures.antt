-- The number of failed transfers by a call's answer.
use Rattle.std.specs.Prelude.{ℕ, ◌+◌, Bool, true, false, Result, Ok, Err}
use Rattle.s3_store.specs.declared.sector_fault.SectorFault.{SectorFault}
use Rattle.s3_store.specs.declared.sector_fault.SectorFault.TheVariants.{Device, NoMemory}

-- for a call to a store
abbrev pub failed_calls : {T E : Type 0} → Result T E → ℕ
failed_calls (Ok _) = 0
failed_calls (Err _) = 1

-- for a call on sectors, which ends at the first failed transfer
abbrev pub failed_transfers : {T : Type 0} → Result T SectorFault → ℕ
failed_transfers (Ok _) = 0
failed_transfers (Err Device) = 1
failed_transfers (Err NoMemory) = 0

-- the failures of a fuse store: those of the store below it, and its own
abbrev pub fuse_failures : ℕ → Bool → ℕ
fuse_failures inner true = inner + 1
fuse_failures inner false = inner
