-- Why an entry isn't performed.
use Rattle.std.specs.Prelude.{ℕ, Result, Ok, Err}
use Rattle.s3_store.specs.declared.sector_fault.SectorFault.{SectorFault}
use Rattle.s3_store.specs.declared.sector_fault.SectorFault.TheVariants.{Device as DeviceFault, NoMemory as NoMemoryFault}
use Rattle.s3_bureau.specs.declared.stop.Stop.{Stop}
use Rattle.s3_bureau.specs.declared.stop.Stop.TheVariants.{NoMemory, Device, Stopped}

-- the cause for which a fault stops a bureau
abbrev pub stop_of : SectorFault → Stop
stop_of DeviceFault = Device
stop_of NoMemoryFault = NoMemory

-- the number of failed transfers by an answer
abbrev pub failed_stop : {T : Type 0} → Result T Stop → ℕ
failed_stop (Ok _) = 0
failed_stop (Err NoMemory) = 0
failed_stop (Err Device) = 1
failed_stop (Err Stopped) = 0
