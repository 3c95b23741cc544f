-- What is unchanged on a pack when a file is deleted or added.
use Rattle.std.specs.Prelude.{◌≡◌, ◌≢◌, ◌<◌, ◌+◌, ◌*◌, ◌/◌, ◌%◌, ℕ, Bool, true, false, List, replicate, slice_get, Option, Some, Ok, Err, ⊤}
use Rattle.s3_store.specs.Inner.Bytes.{with_piece}
use Rattle.s3_slots.specs.Header.{mounted}
use Rattle.s3_slots.specs.Labels.{file_bytes}
use Rattle.s3_slots.specs.Slots.{labels_at, slot_bytes}
use Rattle.s3_slots.specs.declared.header.Header.{Header}
use Rattle.s3_slots.specs.declared.label.FileLabel.{FileLabel}
use Rattle.s3_slots.specs.declared.slot.Slot.{Slot}
use Rattle.s3_slots.specs.declared.slot.Slot.TheVariants.{Damaged, Free, Sound}
use Rattle.s3_labels.specs.Inner.Areas.{Areas, areas_on, slots_in}
use Rattle.s3_labels.specs.declared.fault.Refusal.{Refusal}
use Rattle.s3_labels.specs.declared.fault.Refusal.TheVariants.{BadPack, Sectors}
use Rattle.s3_pack_care.specs.declared.fault.CareFault.{CareFault}
use Rattle.s3_pack_care.specs.declared.fault.CareFault.TheVariants.{Mount, NoMemory, Uncovers}

-- ---- validated slots
abbrev pub same_kind : Slot → Slot → Bool
same_kind Free Free = true
same_kind (Damaged name) (Damaged other) = true
same_kind (Sound label) (Sound other) = true
same_kind _ _ = false

abbrev pub alike : Option Slot → Option Slot → Bool
alike (Some old) (Some new) = same_kind old new
alike _ _ = false

-- ---- mounts
abbrev pub fault_of : Refusal → CareFault
fault_of (BadPack fault) = Mount fault
fault_of (Sectors fault) = NoMemory

-- a pack is refused for its header, or memory ran out
abbrev pub IsMountRefusal : List (List ℕ) → CareFault → Type 0
IsMountRefusal contents (Mount fault) = mounted contents ≡ Err fault
IsMountRefusal contents NoMemory = ⊤
IsMountRefusal contents _ = ⊥

-- these sectors can be mounted, and the areas on them meet this predicate
pub record AreOn (contents : List (List ℕ)) (are : Areas → Type 0) : Type 0 where
  pub header : Header
  pub mounts : mounted contents ≡ Ok header
  pub so : are (areas_on header contents)

-- these sectors are mounted with these areas
pub record IsMounted (areas : Areas) (contents : List (List ℕ)) : Type 0 where
  pub mounts : mounted contents ≡ Ok areas.header
  pub judged : areas ≡ areas_on areas.header contents

-- slot i of an area of a pack with this header
abbrev pub slot_on : Header → List (List ℕ) → (area i : ℕ) → Option Slot
slot_on header contents area i = slice_get (slots_in area (areas_on header contents)) i

-- a slot of the three areas other than this one
pub record IsOther (area slot a i : ℕ) : Type 0 where
  pub area_in : a < 3
  pub slot_in : i < 32
  pub other : a ≡ area → i ≡ slot → ⊥

-- ---- after a slot is written
-- one slot has these bytes, each other slot has its own bytes and is validated as before, and no other sector has changed
pub record IsRelabelled (area slot : ℕ) (bytes : List ℕ) (header : Header) (old new : List (List ℕ)) : Type 0 where
  pub mounts : mounted new ≡ Ok header
  pub own : slot_bytes area new slot ≡ bytes
  pub labels : (a i : ℕ) → IsOther area slot a i → slot_bytes a new i ≡ slot_bytes a old i
  pub others : (a i : ℕ) → IsOther area slot a i → slot_on header new a i ≡ slot_on header old a i
  pub sectors : (n : ℕ) → n ≢ labels_at area + slot / 4 → slice_get new n ≡ slice_get old n

-- slot i of one of the three areas isn't of the same kind as before; the written slot doesn't count
pub record IsChanged (area slot : ℕ) (old new : Areas) (i : ℕ) : Type 0 where
  pub in_area : ℕ
  pub is : IsOther area slot in_area i
  pub unlike : alike (slice_get (slots_in in_area old) i) (slice_get (slots_in in_area new) i) ≡ false

-- the sectors with these bytes in a slot
abbrev pub with_slot : (area slot : ℕ) → List ℕ → List (List ℕ) → List (List ℕ)
with_slot area slot bytes contents = with_piece contents (labels_at area + slot / 4) (slot % 4 * 64) bytes

-- a slot isn't written if another slot would change; or memory ran out
abbrev pub RefusesWritten : (area slot : ℕ) → List ℕ → Header → List (List ℕ) → CareFault → Type 0
RefusesWritten area slot bytes header old (Uncovers other) = IsChanged area slot (areas_on header old) (areas_on header (with_slot area slot bytes old)) other
RefusesWritten area slot bytes header old NoMemory = ⊤
RefusesWritten area slot bytes header old _ = ⊥

-- ---- what a call leaves unchanged
-- a slot is unchanged, and its file has the same bytes
pub record KeepsFile (header : Header) (old new : List (List ℕ)) (a i : ℕ) : Type 0 where
  pub slot : slot_on header new a i ≡ slot_on header old a i
  pub bytes : (label : FileLabel) → slot_on header old a i ≡ Some (Sound label) → file_bytes label new ≡ file_bytes label old

-- a slot is free and has zeros, and all other files are unchanged
pub record IsWithout (area slot : ℕ) (header : Header) (old new : List (List ℕ)) : Type 0 where
  pub mounts : mounted new ≡ Ok header
  pub zeros : slot_bytes area new slot ≡ replicate 64 0
  pub free : slot_on header new area slot ≡ Some Free
  pub others : (a i : ℕ) → IsOther area slot a i → KeepsFile header old new a i
