-- The header and slots of a mounted pack: when the pack can be used, what calls change, and how calls are refused.
use Rattle.std.specs.Prelude.{◌≡◌, ◌<◌, ◌≤◌, ◌⊎◌, ℕ, zero, suc, true, List, ◌++◌, length, slice_get, take, drop, replicate, Some, Result, Ok, Err, ⊤}
use Rattle.std.specs.List.{Contains}
use Rattle.byteorder.specs.Endian.{big_bytes}
use Rattle.s3_cards.specs.declared.levels.LevelId.{LevelId}
use Rattle.s3_cards.specs.declared.levels.LevelId.TheVariants.{One, Two}
use Rattle.s3_cards.specs.declared.name.Name.{Name}
use Rattle.s3_slots.specs.Header.{accepted, region_of}
use Rattle.s3_slots.specs.Inner.Kept.{AreKept}
use Rattle.s3_slots.specs.Stretches.{IsIn}
use Rattle.s3_slots.specs.Labels.{is_direct, sectors_of}
use Rattle.s3_slots.specs.Slots.{slots_of, is_count_of}
use Rattle.s3_slots.specs.declared.header.Header.{Header}
use Rattle.s3_slots.specs.declared.header.MountFault.{MountFault}
use Rattle.s3_slots.specs.declared.label.FileLabel.{FileLabel}
use Rattle.s3_slots.specs.declared.making.LabelFault.{LabelFault}
use Rattle.s3_slots.specs.declared.slot.Slot.{Slot}
use Rattle.s3_slots.specs.declared.slot.Slot.TheVariants.{Sound}
use Rattle.s3_slots.specs.declared.slot.Standing.{Standing}
use Rattle.s3_slots.specs.declared.slot.Standing.TheVariants.{Absent, Blocked, Present}
use Rattle.s3_store.specs.declared.stretch.Stretch.{Stretch}
use Rattle.s3_store.specs.declared.sector_fault.SectorFault.TheVariants.{Device, NoMemory}
use Rattle.s3_labels.specs.declared.fault.ChangeFault.{ChangeFault}
use Rattle.s3_labels.specs.declared.fault.ChangeFault.TheVariants.{Label, Sectors as ChangedSectors}
use Rattle.s3_labels.specs.declared.fault.PlanFault.{PlanFault}
use Rattle.s3_labels.specs.declared.fault.PlanFault.TheVariants.{File, NoMemory as NoMemoryToPlan}
use Rattle.s3_labels.specs.declared.fault.Refusal.{Refusal}
use Rattle.s3_labels.specs.declared.fault.Refusal.TheVariants.{BadPack, Sectors}
use Rattle.s3_labels.specs.Areas.{IsLabelSector}

-- The slots as the mount validated them, with later changes. With the sectors, this is all that a contract sees of a pack.
pub record Areas : Type 0 where
  pub header : Header
  pub masters : List Slot
  pub level_one : List Slot
  pub level_two : List Slot

abbrev pub slots_at : LevelId → Areas → List Slot
slots_at One areas = areas.level_one
slots_at Two areas = areas.level_two

-- the slots of area 0, the masters, 1 or 2
abbrev pub slots_in : ℕ → Areas → List Slot
slots_in zero areas = areas.masters
slots_in (suc zero) areas = areas.level_one
slots_in (suc (suc n)) areas = areas.level_two

-- the areas of a pack with this header, as a mount validates them
abbrev pub areas_on : Header → List (List ℕ) → Areas
areas_on header contents =
    record {
      header = header;
      masters = slots_of header.format header.masters 0 contents;
      level_one = slots_of header.format header.level_one 1 contents;
      level_two = slots_of header.format header.level_two 2 contents;
    }

abbrev pub with_slots : LevelId → List Slot → Areas → Areas
with_slots One slots areas = record areas { level_one = slots }
with_slots Two slots areas = record areas { level_two = slots }

abbrev pub region_at : LevelId → Areas → Stretch
region_at level areas = region_of level areas.header

-- ---- the representation invariant
-- a mount of so many sectors accepts the header, and no two files of an area have a sector or a name in common
pub record IsReady (areas : Areas) (contents : List (List ℕ)) : Type 0 where
  pub header : accepted (length contents) (Some areas.header) ≡ Ok areas.header
  pub few : length contents ≤ 65535
  pub own : (level : LevelId) → AreKept (region_at level areas) (slots_at level areas)
  pub masters : AreKept areas.header.masters areas.masters

-- the regions, sector by sector
pub record ArePlaced (header : Header) (sectors : ℕ) : Type 0 where
  pub level : (level : LevelId) (n : ℕ) → IsIn (region_of level header) n → (168 ≤ n) × (n < sectors)
  pub masters : (n : ℕ) → IsIn header.masters n → (168 ≤ n) × (n < sectors)
  pub levels_apart : (n : ℕ) → IsIn header.level_one n → IsIn header.level_two n → ⊥
  pub masters_apart : (level : LevelId) (n : ℕ) → IsIn (region_of level header) n → IsIn header.masters n → ⊥

-- a sector of a direct file
abbrev pub IsRecordOfDirect : FileLabel → ℕ → Type 0
IsRecordOfDirect label n = (is_direct label.organization ≡ true) × Contains (sectors_of label) n

-- a sector of the direct file of that label
pub record IsOfDirect (slots : List Slot) (name : Name) (n : ℕ) : Type 0 where
  pub slot : ℕ
  pub label : FileLabel
  pub there : slice_get slots slot ≡ Some (Sound label)
  pub named : label.name ≡ name
  pub has : IsRecordOfDirect label n

-- a sector that a make changes: one of its area's labels, or, if a direct file was made, one of that file
abbrev pub IsOfMake : ℕ → Name → Result (List Slot) LabelFault → ℕ → Type 0
IsOfMake area name (Ok slots) n = IsLabelSector area n ⊎ IsOfDirect slots name n
IsOfMake area name (Err fault) n = IsLabelSector area n

-- each byte of these sectors has this value
abbrev pub AreFilled : ℕ → List ℕ → List (List ℕ) → Type 0
AreFilled byte sectors contents = (n : ℕ) → Contains sectors n → slice_get contents n ≡ Some (replicate 256 byte)

-- ---- refusals
-- a mount is refused only for the header, or by the sectors
abbrev pub IsRefusal : Result Header MountFault → Refusal → Type 0
IsRefusal header (BadPack fault) = header ≡ Err fault
IsRefusal header (Sectors fault) = ⊤

abbrev pub failed_by : Refusal → ℕ
failed_by (BadPack fault) = 0
failed_by (Sectors Device) = 1
failed_by (Sectors NoMemory) = 0

abbrev pub failed_mount : {T : Type 0} → Result T Refusal → ℕ
failed_mount (Ok _) = 0
failed_mount (Err refusal) = failed_by refusal

-- a change is refused only for the slots, or by the sectors
abbrev pub IsChangeRefusal : Result (List Slot) LabelFault → ChangeFault → Type 0
IsChangeRefusal slots (Label fault) = slots ≡ Err fault
IsChangeRefusal slots (ChangedSectors fault) = ⊤

abbrev pub IsOfSectors : ChangeFault → Type 0
IsOfSectors (Label fault) = ⊥
IsOfSectors (ChangedSectors fault) = ⊤

abbrev pub failed_change : {T : Type 0} → Result T ChangeFault → ℕ
failed_change (Ok _) = 0
failed_change (Err (Label fault)) = 0
failed_change (Err (ChangedSectors Device)) = 1
failed_change (Err (ChangedSectors NoMemory)) = 0

-- a list of files is refused at the first file that can't be made
abbrev pub IsPlanRefusal : Result (List Slot) (ℕ × LabelFault) → PlanFault → Type 0
IsPlanRefusal slots (File place fault) = slots ≡ Err (place, fault)
IsPlanRefusal slots NoMemoryToPlan = ⊤

-- the file of a label, if there is one, has space for so many records
abbrev pub MayHave : ℕ → Standing → Type 0
MayHave count (Present label) = is_count_of label.organization label.capacity count ≡ true
MayHave count Absent = ⊤
MayHave count Blocked = ⊤

-- the 64 bytes of a slot, with another count
abbrev pub with_count_bytes : ℕ → List ℕ → List ℕ
with_count_bytes count bytes = (take 24 bytes ++ big_bytes 4 count) ++ drop 28 bytes
