-- The slot that a refusal names.
use Rattle.std.specs.Prelude.{◌≡◌, ℕ, false, List, Some, Ok, ⊤}
use Rattle.s3_slots.specs.Header.{mounted}
use Rattle.s3_slots.specs.declared.header.Header.{Header}
use Rattle.s3_slots.specs.declared.slot.Slot.{Slot}
use Rattle.s3_labels.specs.Inner.Areas.{areas_on, slots_at}
use Rattle.s3_labels.specs.declared.fault.ChangeFault.{ChangeFault}
use Rattle.s3_labels.specs.declared.fault.ChangeFault.TheVariants.{Label as OfLabel, Sectors}
use Rattle.s3_pack_check.specs.Inner.Damages.{first_damaged}
use Rattle.s3_load.specs.declared.fault.LoadFault.{LoadFault}
use Rattle.s3_load.specs.declared.fault.LoadFault.TheVariants.{DamagedSlot, Label, NoMemory}
use Rattle.s3_load.specs.declared.order.Order.{Order}

-- A new file was to be made, and the slot of this number is the first damaged one of the level's area.
pub record IsFirstDamaged (order : Order) (contents : List (List ℕ)) (slot : ℕ) : Type 0 where
  pub anew : order.appends ≡ false
  pub header : Header
  pub mounts : mounted contents ≡ Ok header
  pub first : first_damaged (slots_at order.level (areas_on header contents)) ≡ Some slot

-- if a refusal names a damaged slot, it is the first one
abbrev pub NamesDamaged : Order → (contents : List (List ℕ)) → LoadFault → Type 0
NamesDamaged order contents (DamagedSlot slot) = IsFirstDamaged order contents slot
NamesDamaged order contents _ = ⊤

-- ---- steps
-- a refusal names no slot
abbrev pub NamesNone : LoadFault → Type 0
NamesNone (DamagedSlot slot) = ⊥
NamesNone _ = ⊤

-- a refusal names the first damaged one of these slots
abbrev pub NamesFirst : List Slot → LoadFault → Type 0
NamesFirst slots (DamagedSlot slot) = first_damaged slots ≡ Some slot
NamesFirst slots _ = ⊥

-- the refusal of a label's change
abbrev pub of_change : ChangeFault → LoadFault
of_change (OfLabel fault) = Label fault
of_change (Sectors fault) = NoMemory
