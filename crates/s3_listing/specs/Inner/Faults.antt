-- Why nothing is listed where a mount is refused.
use Rattle.s3_labels.specs.declared.fault.Refusal.{Refusal}
use Rattle.s3_labels.specs.declared.fault.Refusal.TheVariants.{BadPack, Sectors}
use Rattle.s3_listing.specs.declared.fault.ListFault.{ListFault}
use Rattle.s3_listing.specs.declared.fault.ListFault.TheVariants.{Mount, NoMemory}

-- a store in memory never fails
abbrev pub fault_of : Refusal → ListFault
fault_of (BadPack fault) = Mount fault
fault_of (Sectors fault) = NoMemory
