-- Why files aren't unloaded.
use Rattle.std.specs.Prelude.{◌≡◌, ℕ, List, Err, ⊤}
use Rattle.s3_cards.specs.declared.name.Name.{Name}
use Rattle.s3_slots.specs.Header.{mounted}
use Rattle.s3_slots.specs.Slots.{standing}
use Rattle.s3_slots.specs.declared.header.Header.{Header}
use Rattle.s3_slots.specs.declared.slot.Standing.TheVariants.{Absent, Blocked}
use Rattle.s3_slots.specs.declared.slot.Standing.{Standing}
use Rattle.s3_labels.specs.Inner.Areas.{areas_on, slots_in}
use Rattle.s3_labels.specs.declared.fault.Refusal.{Refusal}
use Rattle.s3_labels.specs.declared.fault.Refusal.TheVariants.{BadPack, Sectors}
use Rattle.std.specs.Prelude.{Ok}
use Rattle.s3_labels.specs.Inner.AreaNumbers.{area_number}
use Rattle.s3_labels.specs.declared.area.Area.{Area}
use Rattle.s3_unload.specs.declared.fault.UnloadFault.{UnloadFault}
use Rattle.s3_unload.specs.declared.fault.UnloadFault.TheVariants.{Mount, NotFound, DamagedLabel, BadIndex, OtherLength, Hidden, NoCharacter, NoMemory, File}

-- why nothing is unloaded if a mount over a store in memory is refused; such a store never fails
abbrev pub fault_of_mount : Refusal → UnloadFault
fault_of_mount (BadPack fault) = Mount fault
fault_of_mount (Sectors fault) = NoMemory

-- a mount finds this for the label in the area
pub record Stands (area : Area) (name : Name) (contents : List (List ℕ)) (meant : Standing) : Type 0 where
  pub header : Header
  pub is_mounted : mounted contents ≡ Ok header
  pub stands : standing name (slots_in (area_number area) (areas_on header contents)) ≡ meant

-- no file is found, because of the pack or because memory ran out
abbrev pub IsFindRefusal : Area → Name → List (List ℕ) → UnloadFault → Type 0
IsFindRefusal area name contents (Mount fault) = mounted contents ≡ Err fault
IsFindRefusal area name contents NotFound = Stands area name contents Absent
IsFindRefusal area name contents DamagedLabel = Stands area name contents Blocked
IsFindRefusal area name contents NoMemory = ⊤
IsFindRefusal area name contents BadIndex = ⊥
IsFindRefusal area name contents (OtherLength long) = ⊥
IsFindRefusal area name contents (Hidden number field fault) = ⊥
IsFindRefusal area name contents (NoCharacter number position) = ⊥
IsFindRefusal area name contents File = ⊥
