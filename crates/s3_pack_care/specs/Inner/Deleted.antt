-- Which slot a deletion means, and when a deletion is refused.
use Rattle.std.specs.Prelude.{◌≡◌, ◌<◌, ◌≤◌, ◌==◌, ◌&&◌, not, ℕ, Bool, true, false, List, length, replicate, slice_index, Option, Some, Ok, Err, ⊤}
use Rattle.std.specs.List.{position_from}
use Rattle.s3_cards.specs.declared.ebcdic.TheConstants.{LETTER_P}
use Rattle.s3_slots.specs.Header.{mounted}
use Rattle.s3_slots.specs.Inner.Making.{refusal}
use Rattle.s3_slots.specs.Making.{is_permanent}
use Rattle.s3_slots.specs.Placement.{is_free}
use Rattle.s3_slots.specs.Slots.{bears, slot_bytes, standing}
use Rattle.s3_slots.specs.declared.header.Header.{Header}
use Rattle.s3_slots.specs.declared.slot.Slot.{Slot}
use Rattle.s3_slots.specs.declared.slot.Slot.TheVariants.{Damaged, Free, Sound}
use Rattle.s3_labels.specs.Inner.Areas.{areas_on, slots_in}
use Rattle.s3_pack_care.specs.Inner.Kept.{AreOn, IsChanged, IsRelabelled, slot_on, with_slot}
use Rattle.s3_pack_care.specs.declared.deleting.Chosen.{Chosen}
use Rattle.s3_pack_care.specs.declared.deleting.Chosen.TheVariants.{Label, Slot as SlotNumber}
use Rattle.s3_pack_care.specs.declared.fault.CareFault.{CareFault}
use Rattle.s3_pack_care.specs.declared.fault.CareFault.TheVariants.{Label as OfLabels, Mount, NoFile, NoMemory, NoSlot, Permanent, Uncovers}

-- the slot of the valid file of that label, or the slot of that number
abbrev pub chosen_in : Chosen → List Slot → Option ℕ
chosen_in (Label name) slots = position_from (bears name) 0 slots
chosen_in (SlotNumber slot) slots = Some slot

-- ---- when a deletion is refused
-- the slot must be kept: its file is permanent, or it is damaged and its retention byte is that of a permanent file
abbrev pub is_kept : Slot → List ℕ → Bool
is_kept Free bytes = false
is_kept (Damaged name) bytes = slice_index bytes 10 == LETTER_P
is_kept (Sound label) bytes = is_permanent label.retention

-- why no slot is meant: no file has the label, a damaged slot has it, or there is no slot of that number
abbrev pub RefusesLabel : Chosen → List Slot → CareFault → Type 0
RefusesLabel (Label name) slots (OfLabels fault) = refusal (standing name slots) ≡ Some fault
RefusesLabel (Label name) slots _ = ⊥
RefusesLabel (SlotNumber slot) slots NoSlot = 32 ≤ slot
RefusesLabel (SlotNumber slot) slots _ = ⊥

-- why a slot isn't freed: it is free, or it must be kept and that wasn't overridden
abbrev pub RefusesSlot : Slot → List ℕ → (meant : Bool) → CareFault → Type 0
RefusesSlot slot bytes meant NoFile = is_free slot ≡ true
RefusesSlot slot bytes meant Permanent = is_kept slot bytes && not meant ≡ true
RefusesSlot slot bytes meant _ = ⊥

-- nothing refuses the deletion
abbrev pub MayFree : Slot → List ℕ → (meant : Bool) → Type 0
MayFree slot bytes meant = (fault : CareFault) → RefusesSlot slot bytes meant fault → ⊥

-- the meant slot, with its content
pub record IsChosen (area : ℕ) (chosen : Chosen) (contents : List (List ℕ)) (refuses : Slot → List ℕ → Type 0) : Type 0 where
  pub header : Header
  pub mounts : mounted contents ≡ Ok header
  pub slot : ℕ
  pub is : chosen_in chosen (slots_in area (areas_on header contents)) ≡ Some slot
  pub found : Slot
  pub there : slot_on header contents area slot ≡ Some found
  pub so : refuses found (slot_bytes area contents slot)

-- without the meant slot, another slot would change: it is damaged, and would have a file again
pub record IsUncovering (area : ℕ) (chosen : Chosen) (contents : List (List ℕ)) (other : ℕ) : Type 0 where
  pub header : Header
  pub mounts : mounted contents ≡ Ok header
  pub slot : ℕ
  pub is : chosen_in chosen (slots_in area (areas_on header contents)) ≡ Some slot
  pub so : IsChanged area slot (areas_on header contents) (areas_on header (with_slot area slot (replicate 64 0) contents)) other

-- why a deletion is refused; or memory ran out
abbrev pub RefusesDelete : (area : ℕ) → Chosen → (meant : Bool) → List (List ℕ) → CareFault → Type 0
RefusesDelete area chosen meant contents (Mount fault) = mounted contents ≡ Err fault
RefusesDelete area chosen meant contents (OfLabels fault) = AreOn contents (λ areas. RefusesLabel chosen (slots_in area areas) (OfLabels fault))
RefusesDelete area chosen meant contents NoSlot = AreOn contents (λ areas. RefusesLabel chosen (slots_in area areas) NoSlot)
RefusesDelete area chosen meant contents NoFile = IsChosen area chosen contents (λ slot bytes. RefusesSlot slot bytes meant NoFile)
RefusesDelete area chosen meant contents Permanent = IsChosen area chosen contents (λ slot bytes. RefusesSlot slot bytes meant Permanent)
RefusesDelete area chosen meant contents NoMemory = ⊤
RefusesDelete area chosen meant contents (Uncovers other) = IsUncovering area chosen contents other
RefusesDelete area chosen meant contents _ = ⊥

-- the freed slot had a file or was damaged; if it had to be kept, that was overridden
abbrev pub MayGo : (area : ℕ) → Chosen → (meant : Bool) → List (List ℕ) → Type 0
MayGo area chosen meant contents = IsChosen area chosen contents (λ slot bytes. MayFree slot bytes meant)

-- the meant slot has zeros, each other slot has its own bytes and is validated as before, and no other sector has changed
pub record IsFreed (area : ℕ) (chosen : Chosen) (old new : List (List ℕ)) : Type 0 where
  pub header : Header
  pub mounts : mounted old ≡ Ok header
  pub slot : ℕ
  pub slot_in : slot < 32
  pub is : chosen_in chosen (slots_in area (areas_on header old)) ≡ Some slot
  pub relabelled : IsRelabelled area slot (replicate 64 0) header old new
  pub long : length new ≡ length old
