-- What a call may change on a pack, byte by byte. All other bytes are unchanged: other labels, files and areas, the header, the spool
-- blocks, the free space, the spare sectors, and the bytes after the last sector.
use Rattle.std.specs.Prelude.{◌≡◌, ◌≤◌, ◌<◌, ◌⊎◌, ◌+◌, ◌*◌, ◌/◌, ℕ, List, length, slice_get, Some, Ok}
use Rattle.std.specs.List.{Contains}
use Rattle.s3_cards.specs.declared.name.Name.{Name}
use Rattle.s3_slots.specs.Header.{mounted}
use Rattle.s3_slots.specs.Labels.{sectors_of}
use Rattle.s3_slots.specs.Slots.{slot_bytes}
use Rattle.s3_slots.specs.declared.header.Header.{Header}
use Rattle.s3_slots.specs.declared.label.FileLabel.{FileLabel}
use Rattle.s3_slots.specs.declared.slot.Slot.TheVariants.{Sound}
use Rattle.s3_labels.specs.Areas.{IsLabelSector}
use Rattle.s3_labels.specs.Inner.Areas.{areas_on, slots_in}
use Rattle.s3_pack_care.specs.Inner.Deleted.{chosen_in}
use Rattle.s3_pack_care.specs.Inner.Kept.{slot_on}
use Rattle.s3_pack_care.specs.Inner.Rows.{ChangesSectors}
use Rattle.s3_pack_care.specs.declared.deleting.Chosen.{Chosen}

-- the number of bytes is the same, and only these bytes have changed
pub record ChangesBytes (IsChanged : ℕ → Type 0) (old new : List ℕ) : Type 0 where
  pub long : length new ≡ length old
  pub others : (k : ℕ) → ¬ IsChanged k → slice_get new k ≡ slice_get old k

-- ---- bytes of a pack, by their places
-- byte k is one of the 64 of slot i of an area
abbrev pub IsInSlot : (area i k : ℕ) → Type 0
IsInSlot area i k = (256 + 2048 * area + 64 * i ≤ k) × (k < 256 + 2048 * area + 64 * i + 64)

-- byte k is in one of these sectors
abbrev pub IsInSectors : List ℕ → (k : ℕ) → Type 0
IsInSectors sectors k = Contains sectors (k / 256)

-- byte k is in the meant slot
pub record IsInChosen (area : ℕ) (chosen : Chosen) (contents : List (List ℕ)) (k : ℕ) : Type 0 where
  pub header : Header
  pub mounts : mounted contents ≡ Ok header
  pub slot : ℕ
  pub is : chosen_in chosen (slots_in area (areas_on header contents)) ≡ Some slot
  pub at : IsInSlot area slot k

-- an area has a file of this name, and its slot and its label meet this predicate
pub record IsOfFile (area : ℕ) (name : Name) (contents : List (List ℕ)) (is : ℕ → FileLabel → Type 0) : Type 0 where
  pub header : Header
  pub mounts : mounted contents ≡ Ok header
  pub slot : ℕ
  pub label : FileLabel
  pub there : slot_on header contents area slot ≡ Some (Sound label)
  pub named : label.name ≡ name
  pub so : is slot label

-- byte k is in the sectors of that file
abbrev pub IsInFile : (area : ℕ) → Name → List (List ℕ) → (k : ℕ) → Type 0
IsInFile area name contents k = IsOfFile area name contents (λ slot label. IsInSectors (sectors_of label) k)

-- byte k is in the slot of that file, or in its sectors
abbrev pub IsInLabelled : (area : ℕ) → Name → List (List ℕ) → (k : ℕ) → Type 0
IsInLabelled area name contents k = IsOfFile area name contents (λ slot label. IsInSlot area slot k ⊎ IsInSectors (sectors_of label) k)

-- ---- the same frame conditions by sectors and slots, for inner functions
-- In the area only the slot of the file of a name has changed, and slots of the given predicate. Of the sectors without a label of the
-- area, only the file's own have changed.
pub record ChangesFile (area : ℕ) (name : Name) (IsAlso : ℕ → Type 0) (old new : List (List ℕ)) : Type 0 where
  pub header : Header
  pub mounts : mounted new ≡ Ok header
  pub slot : ℕ
  pub label : FileLabel
  pub there : slot_on header new area slot ≡ Some (Sound label)
  pub named : label.name ≡ name
  pub labels : (i : ℕ) → i < 32 → (i ≡ slot → ⊥) → ¬ IsAlso i → slot_bytes area new i ≡ slot_bytes area old i
  pub sectors : (n : ℕ) → ¬ IsLabelSector area n → ¬ Contains (sectors_of label) n → slice_get new n ≡ slice_get old n
  pub long : length new ≡ length old

-- only sectors of the file of a name have changed
pub record ChangesRecords (area : ℕ) (name : Name) (old new : List (List ℕ)) : Type 0 where
  pub header : Header
  pub mounts : mounted old ≡ Ok header
  pub slot : ℕ
  pub label : FileLabel
  pub there : slot_on header old area slot ≡ Some (Sound label)
  pub named : label.name ≡ name
  pub sectors : ChangesSectors (sectors_of label) old new
  pub long : length new ≡ length old
