-- The number of failed transfers by a refusal of a file.
use Rattle.std.specs.Prelude.{ℕ, Result, Ok, Err}
use Rattle.s3_store.specs.Inner.Failures.{failed_transfers}
use Rattle.s3_files.specs.declared.fault.FileFault.{FileFault}
use Rattle.s3_files.specs.declared.fault.FileFault.TheVariants.{NoRecord, Full, Pool}

-- how many transfers failed in a call with this answer
abbrev pub failed_file_transfers : {T : Type 0} → Result T FileFault → ℕ
failed_file_transfers {T} (Err (Pool fault)) = failed_transfers {T = T} (Err fault)
failed_file_transfers (Err NoRecord) = 0
failed_file_transfers (Err Full) = 0
failed_file_transfers (Ok _) = 0
