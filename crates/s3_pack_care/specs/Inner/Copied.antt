-- A copied file, what is unchanged on the pack that gets the copy, and when a copy is refused.
use Rattle.std.specs.Prelude.{◌≡◌, ◌<◌, ℕ, zero, suc, ◌/◌, true, false, List, [], length, slice_get, Some, None, Ok, Err, ⊤}
use Rattle.std.specs.List.{Contains, list_any}
use Rattle.s3_cards.specs.Names.{is_name}
use Rattle.s3_cards.specs.declared.name.Name.{Name}
use Rattle.s3_store.specs.Bytes.{bytes_at}
use Rattle.s3_store.specs.declared.stretch.Stretch.{Stretch}
use Rattle.s3_slots.specs.Header.{mounted}
use Rattle.s3_slots.specs.Inner.Kept.{IsOfPack}
use Rattle.s3_slots.specs.Inner.Making.{refusal}
use Rattle.s3_slots.specs.Labels.{sectors_of}
use Rattle.s3_slots.specs.Placement.{free_slot, placed}
use Rattle.s3_slots.specs.Inner.Labels.{label_bytes}
use Rattle.s3_slots.specs.Slots.{bears, slot_bytes, standing}
use Rattle.s3_slots.specs.Stretches.{IsIn}
use Rattle.s3_slots.specs.declared.header.Header.{Header}
use Rattle.s3_slots.specs.declared.label.FileLabel.{FileLabel}
use Rattle.s3_slots.specs.declared.making.LabelFault.TheVariants.{Master, NoSlot as NoFreeSlot, NoSpace}
use Rattle.s3_slots.specs.declared.slot.Slot.{Slot}
use Rattle.s3_slots.specs.declared.slot.Slot.TheVariants.{Damaged as DamagedSlot, Free, Sound}
use Rattle.s3_slots.specs.declared.slot.Standing.TheVariants.{Absent, Present}
use Rattle.s3_labels.specs.Inner.Areas.{Areas, areas_on, slots_in}
use Rattle.s3_pack_check.specs.Inner.Damages.{first_damaged}
use Rattle.s3_pack_check.specs.Inner.Wrongs.{region_in}
use Rattle.s3_pack_care.specs.Inner.Kept.{AreOn, IsOther, KeepsFile, slot_on}
use Rattle.s3_pack_care.specs.declared.fault.CareFault.{CareFault}
use Rattle.s3_pack_care.specs.declared.fault.CareFault.TheVariants.{Damaged, Exists, Label, Mount, NoMemory, NoName, SourceLabel, SourceMount}

-- ---- the file
-- the file of a label in an area of a pack: its label and its bytes
pub record IsSource (area : ℕ) (name : Name) (label : FileLabel) (bytes : List ℕ) (contents : List (List ℕ)) : Type 0 where
  pub stands : (header : Header) → mounted contents ≡ Ok header → standing name (slots_in area (areas_on header contents)) ≡ Present label
  pub mounts : AreOn contents (λ areas. standing name (slots_in area areas) ≡ Present label)
  pub on_pack : IsOfPack (length contents) label
  pub has : bytes ≡ bytes_at (sectors_of label) contents

-- the tracks that a file takes
abbrev pub tracks_in : FileLabel → ℕ
tracks_in label = length (sectors_of label) / 24

-- the label of a copy: the label of the file, with another name and place
abbrev pub copied_label : Name → FileLabel → List Stretch → FileLabel
copied_label name source extents = record source { name = name; extents = extents }

-- ---- the space for a copy
-- the masters' slots for a level, whose files can't have the label of a master; none for the masters' own area
abbrev pub masters_beside : ℕ → Areas → List Slot
masters_beside zero areas = []
masters_beside (suc n) areas = areas.masters

-- A slot and a label for a copy in an area: no slot of the area is damaged, no file has the name, and for a level no master has it. The
-- slot is the lowest free one, and the file's place is that of a new file of as many tracks.
pub record IsRoom (area : ℕ) (name : Name) (source : FileLabel) (areas : Areas) (slot : ℕ) (label : FileLabel) : Type 0 where
  pub undamaged : first_damaged (slots_in area areas) ≡ None
  pub absent : standing name (slots_in area areas) ≡ Absent
  pub unmastered : list_any (bears name) (masters_beside area areas) ≡ false
  pub free : free_slot (slots_in area areas) ≡ Some slot
  pub lies : placed areas.header.format (region_in area areas) (slots_in area areas) (tracks_in source) ≡ Some label.extents
  pub labelled : label ≡ copied_label name source label.extents

-- ---- the space for a copy is free
-- a slot may have this sector: a valid slot has those of its file, a damaged one may have any of its area's region
abbrev pub MayHold : Stretch → Slot → (n : ℕ) → Type 0
MayHold region Free n = ⊥
MayHold region (Sound label) n = Contains (sectors_of label) n
MayHold region (DamagedSlot name) n = IsIn region n

-- no slot of the three areas may have the sector
abbrev pub IsFreeSector : Header → List (List ℕ) → (n : ℕ) → Type 0
IsFreeSector header contents n = (a i : ℕ) (slot : Slot) → a < 3 → slot_on header contents a i ≡ Some slot → MayHold (region_in a (areas_on header contents)) slot n → ⊥

-- ---- what a copy leaves
-- the file in a slot has the label of a copy and these bytes; only sectors of the file have changed
pub record IsFilled (area slot : ℕ) (name : Name) (source : FileLabel) (bytes : List ℕ) (header : Header) (old new : List (List ℕ)) : Type 0 where
  pub label : FileLabel
  pub there : slot_on header old area slot ≡ Some (Sound label)
  pub like : label ≡ copied_label name source label.extents
  pub filled : bytes_at (sectors_of label) new ≡ bytes
  pub count : length new ≡ length old
  pub sectors : (n : ℕ) → ¬ Contains (sectors_of label) n → slice_get new n ≡ slice_get old n

-- A slot that was free has a file with the label of a copy and these bytes, in sectors that no slot may have had. All other files are
-- unchanged.
pub record IsWith (area slot : ℕ) (name : Name) (source : FileLabel) (bytes : List ℕ) (header : Header) (old new : List (List ℕ)) : Type 0 where
  pub mounts : mounted new ≡ Ok header
  pub was_free : slot_on header old area slot ≡ Some Free
  pub label : FileLabel
  pub there : slot_on header new area slot ≡ Some (Sound label)
  pub written : slot_bytes area new slot ≡ label_bytes label
  pub like : label ≡ copied_label name source label.extents
  pub room : (n : ℕ) → Contains (sectors_of label) n → IsFreeSector header old n
  pub filled : bytes_at (sectors_of label) new ≡ bytes
  pub others : (a i : ℕ) → IsOther area slot a i → KeepsFile header old new a i

-- ---- when a copy is refused
-- why a file can't be read: the pack can't be mounted, because of its header; or no file has the label, or a damaged slot has it
abbrev pub RefusesSource : (area : ℕ) → Name → List (List ℕ) → CareFault → Type 0
RefusesSource area name contents (SourceMount fault) = mounted contents ≡ Err fault
RefusesSource area name contents (SourceLabel fault) = AreOn contents (λ areas. refusal (standing name (slots_in area areas)) ≡ Some fault)
RefusesSource area name contents NoMemory = ⊤
RefusesSource area name contents _ = ⊥

-- Why an area has no space for a copy with a name: the name is malformed; a slot is damaged (the first one is reported); a file has the
-- name; a master has it; no slot is free; the free extents have too few tracks.
abbrev pub Forbids : (area : ℕ) → Name → FileLabel → Areas → CareFault → Type 0
Forbids area name source areas NoName = is_name name.codes ≡ false
Forbids area name source areas (Damaged slot) = first_damaged (slots_in area areas) ≡ Some slot
Forbids area name source areas Exists = (label : FileLabel) × (standing name (slots_in area areas) ≡ Present label)
Forbids area name source areas (Label Master) = list_any (bears name) (masters_beside area areas) ≡ true
Forbids area name source areas (Label NoFreeSlot) = free_slot (slots_in area areas) ≡ None
Forbids area name source areas (Label NoSpace) = placed areas.header.format (region_in area areas) (slots_in area areas) (tracks_in source) ≡ None
Forbids area name source areas _ = ⊥

-- the same reasons, or memory ran out
abbrev pub RefusesRoom : (area : ℕ) → Name → FileLabel → Areas → CareFault → Type 0
RefusesRoom area name source areas NoMemory = ⊤
RefusesRoom area name source areas fault = Forbids area name source areas fault

-- the file exists, and the pack for the copy has no space for it
pub record IsForbidden (from_area : ℕ) (name : Name) (area : ℕ) (new_name : Name) (from old : List (List ℕ)) (fault : CareFault) : Type 0 where
  pub source : FileLabel
  pub read : AreOn from (λ areas. standing name (slots_in from_area areas) ≡ Present source)
  pub forbids : AreOn old (λ areas. Forbids area new_name source areas fault)

-- why a file isn't copied; or memory ran out
abbrev pub RefusesCopy : (from_area : ℕ) → Name → (area : ℕ) → Name → (from old : List (List ℕ)) → CareFault → Type 0
RefusesCopy from_area name area new_name from old (SourceMount fault) = mounted from ≡ Err fault
RefusesCopy from_area name area new_name from old (SourceLabel fault) = AreOn from (λ areas. refusal (standing name (slots_in from_area areas)) ≡ Some fault)
RefusesCopy from_area name area new_name from old (Mount fault) = mounted old ≡ Err fault
RefusesCopy from_area name area new_name from old NoMemory = ⊤
RefusesCopy from_area name area new_name from old fault = IsForbidden from_area name area new_name from old fault

-- ---- a copy
-- a pack with a copy of a file of another pack; nothing forbade it, so no slot of the area that got it was damaged
pub record IsCopy (from_area : ℕ) (name : Name) (area : ℕ) (new_name : Name) (from old new : List (List ℕ)) : Type 0 where
  pub slot : ℕ
  pub slot_in : slot < 32
  pub source : FileLabel
  pub bytes : List ℕ
  pub read : IsSource from_area name source bytes from
  pub undamaged : AreOn old (λ areas. first_damaged (slots_in area areas) ≡ None)
  pub allowed : (fault : CareFault) → AreOn old (λ areas. Forbids area new_name source areas fault) → ⊥
  pub copied : (header : Header) → mounted old ≡ Ok header → IsWith area slot new_name source bytes header old new
