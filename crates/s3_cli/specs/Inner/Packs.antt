-- What the list of a pack's files is to a session's faults.
use Rattle.std.specs.Prelude.{◌≡◌, ℕ, List, Result, Err, ⊤}
use Rattle.s3_slots.specs.declared.header.MountFault.{MountFault}
use Rattle.s3_listing.specs.declared.fault.ListFault.{ListFault}
use Rattle.s3_listing.specs.declared.fault.ListFault.TheVariants.{Mount as ListMount, NoMemory as ListNoMemory, File as ListFile}
use Rattle.s3_bureau.specs.declared.run_fault.RunFault.TheVariants.{Script, Mount, Device, NoMemory}
use Rattle.s3_cli.specs.declared.fault.SessionFault.{SessionFault}
use Rattle.s3_cli.specs.declared.fault.SessionFault.TheVariants.{Run, Input, File}

abbrev pub fault_of_list : ListFault → SessionFault
fault_of_list (ListMount fault) = Run (Mount fault)
fault_of_list ListNoMemory = Run NoMemory
fault_of_list ListFile = File

-- a list is refused by the pack's header; nothing is said of memory and of the writer
abbrev pub IsListRefusal : Result (List ℕ) MountFault → SessionFault → Type 0
IsListRefusal text (Run (Mount fault)) = text ≡ Err fault
IsListRefusal text (Run NoMemory) = ⊤
IsListRefusal text (Run (Script number)) = ⊥
IsListRefusal text (Run Device) = ⊥
IsListRefusal text Input = ⊥
IsListRefusal text File = ⊤
