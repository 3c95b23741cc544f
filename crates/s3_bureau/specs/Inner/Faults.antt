-- How a run reports an error of the script, a refused mount and a stop, and the numbers of refused mounts.
use Rattle.std.specs.Prelude.{ℕ}
use Rattle.s3_slots.specs.declared.header.MountFault.{MountFault}
use Rattle.s3_slots.specs.declared.header.MountFault.TheVariants.{BadHeader, BadRegions, Short}
use Rattle.s3_store.specs.declared.sector_fault.SectorFault.TheVariants.{Device as DeviceFault, NoMemory as NoMemoryFault}
use Rattle.s3_labels.specs.declared.fault.Refusal.{Refusal}
use Rattle.s3_labels.specs.declared.fault.Refusal.TheVariants.{BadPack, Sectors}
use Rattle.s3_bureau.specs.declared.script.ScriptFault.{ScriptFault}
use Rattle.s3_bureau.specs.declared.script.ScriptFault.TheVariants.{NoMemory as ScriptNoMemory, Line}
use Rattle.s3_bureau.specs.declared.stop.Stop.{Stop}
use Rattle.s3_bureau.specs.declared.stop.Stop.TheVariants.{NoMemory as StopNoMemory, Device as StopDevice, Stopped}
use Rattle.s3_bureau.specs.declared.run_fault.RunFault.{RunFault}
use Rattle.s3_bureau.specs.declared.run_fault.RunFault.TheVariants.{NoMemory, Device, Mount, Script}

abbrev pub fault_of_script : ScriptFault → RunFault
fault_of_script ScriptNoMemory = NoMemory
fault_of_script (Line n) = Script n

-- how a run reports a refused mount
abbrev pub told_as : Refusal → RunFault
told_as (BadPack fault) = Mount fault
told_as (Sectors DeviceFault) = Device
told_as (Sectors NoMemoryFault) = NoMemory

abbrev pub fault_of_stop : Stop → RunFault
fault_of_stop StopDevice = Device
fault_of_stop StopNoMemory = NoMemory
fault_of_stop Stopped = NoMemory

abbrev pub mount_number : MountFault → ℕ
mount_number BadHeader = 1
mount_number BadRegions = 2
mount_number Short = 3
