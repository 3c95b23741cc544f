-- All damage on a pack.
use Rattle.std.specs.Prelude.{◌≡◌, ◌<◌, ℕ, zero, suc, Bool, true, List, [], ◌∷◌, ◌++◌, take, slice_get, Option, Some, None, Result, Ok, Err, ⊤, if◌then◌else◌}
use Rattle.std.specs.List.{flat_map, range_with_len}
use Rattle.s3_cards.specs.declared.levels.LevelId.TheVariants.{One, Two}
use Rattle.s3_cards.specs.declared.name.Name.{Name}
use Rattle.s3_store.specs.Bytes.{bytes_at}
use Rattle.s3_store.specs.declared.stretch.Stretch.{Stretch}
use Rattle.s3_slots.specs.Header.{mounted}
use Rattle.s3_slots.specs.Labels.{is_indexed, sectors_of}
use Rattle.s3_slots.specs.Slots.{slot_bytes}
use Rattle.s3_slots.specs.declared.header.Header.{Header}
use Rattle.s3_slots.specs.declared.header.MountFault.{MountFault}
use Rattle.s3_slots.specs.declared.label.FileLabel.{FileLabel}
use Rattle.s3_slots.specs.declared.slot.Slot.{Slot}
use Rattle.s3_slots.specs.declared.slot.Slot.TheVariants.{Damaged, Free, Sound}
use Rattle.s3_labels.specs.Inner.AreaNumbers.{area_number}
use Rattle.s3_labels.specs.Contents.{contents_of}
use Rattle.s3_labels.specs.Inner.Areas.{Areas, areas_on, slots_in}
use Rattle.s3_labels.specs.declared.area.Area.{Area}
use Rattle.s3_labels.specs.declared.area.Area.TheVariants.{Level, Masters}
use Rattle.s3_labels.specs.declared.fault.Refusal.{Refusal}
use Rattle.s3_labels.specs.declared.fault.Refusal.TheVariants.{BadPack, Sectors}
use Rattle.s3_keyed.specs.Index.{index_in, layout_of}
use Rattle.s3_keyed.specs.Inner.Index.{keys_at}
use Rattle.s3_keyed.specs.KeyOrder.{is_good_index}
use Rattle.s3_pack_check.specs.Inner.Damages.{damage_of}
use Rattle.s3_pack_check.specs.Inner.Entries.{first_fault}
use Rattle.s3_pack_check.specs.declared.checking.Cause.{Cause}
use Rattle.s3_pack_check.specs.declared.checking.Cause.TheVariants.{Index, Label}
use Rattle.s3_pack_check.specs.declared.checking.Wrong.{Wrong}
use Rattle.s3_pack_check.specs.declared.fault.CheckFault.{CheckFault}
use Rattle.s3_pack_check.specs.declared.fault.CheckFault.TheVariants.{Mount, NoMemory}

-- ---- indexes
-- the bytes of a file are those of its sectors, end to end; the index in them is good for its records
abbrev pub is_good : FileLabel → List (List ℕ) → Bool
is_good label contents =
    let bytes : List ℕ = bytes_at (sectors_of label) contents in
    is_good_index (index_in (layout_of label) label.count bytes) (keys_at (layout_of label) label.count bytes)

abbrev pub index_cause : FileLabel → List (List ℕ) → Option Cause
index_cause label contents = if is_good label contents then None else Some (Index (first_fault label (bytes_at (sectors_of label) contents)))

-- ---- slots
abbrev pub region_in : ℕ → Areas → Stretch
region_in zero areas = areas.header.masters
region_in (suc zero) areas = areas.header.level_one
region_in (suc (suc n)) areas = areas.header.level_two

abbrev pub file_cause : FileLabel → List (List ℕ) → Option Cause
file_cause label contents = if is_indexed label.organization then index_cause label contents else None

-- the cause of damage in slot i of an area
abbrev pub cause_of : Areas → Area → (i : ℕ) → List (List ℕ) → Option Slot → Option Cause
cause_of areas area i contents (Some (Damaged name)) =
    Some (Label (damage_of areas.header.format (region_in (area_number area) areas) name (take i (slots_in (area_number area) areas)) (slot_bytes (area_number area) contents i)))
cause_of areas area i contents (Some (Sound label)) = file_cause label contents
cause_of areas area i contents (Some Free) = None
cause_of areas area i contents None = None

abbrev pub name_on : Slot → Option Name
name_on Free = None
name_on (Damaged name) = name
name_on (Sound label) = Some label.name

abbrev pub name_at : Option Slot → Option Name
name_at None = None
name_at (Some slot) = name_on slot

abbrev pub wrong_with : Area → (i : ℕ) → Option Name → Option Cause → List Wrong
wrong_with area i name None = []
wrong_with area i name (Some cause) = record { area = area; slot = i; name = name; cause = cause } ∷ []

-- the damage that is reported for a slot
unfoldable pub slot_wrongs : Areas → Area → List (List ℕ) → ℕ → List Wrong
slot_wrongs areas area contents i =
    let slot : Option Slot = slice_get (slots_in (area_number area) areas) i in
    wrong_with area i (name_at slot) (cause_of areas area i contents slot)

unfoldable pub area_wrongs : Areas → Area → List (List ℕ) → List Wrong
area_wrongs areas area contents = flat_map (slot_wrongs areas area contents) (range_with_len 0 32)

abbrev pub wrongs_on : Areas → List (List ℕ) → List Wrong
wrongs_on areas contents = area_wrongs areas Masters contents ++ area_wrongs areas (Level One) contents ++ area_wrongs areas (Level Two) contents

-- ---- packs
abbrev pub told_if : List (List ℕ) → Result Header MountFault → Result (List Wrong) MountFault
told_if contents (Ok header) = Ok (wrongs_on (areas_on header contents) contents)
told_if contents (Err fault) = Err fault

-- all damage of the pack with these bytes, or why it can't be mounted
abbrev pub told : List ℕ → Result (List Wrong) MountFault
told bytes = told_if (contents_of bytes) (mounted (contents_of bytes))

-- a pack is refused for its header, or memory ran out
abbrev pub IsRefused : Result (List Wrong) MountFault → CheckFault → Type 0
IsRefused told (Mount fault) = told ≡ Err fault
IsRefused told NoMemory = ⊤

-- a store in memory never fails
abbrev pub fault_of : Refusal → CheckFault
fault_of (BadPack fault) = Mount fault
fault_of (Sectors fault) = NoMemory

-- ---- packs without damage
abbrev pub IsRight : Option Slot → List (List ℕ) → Type 0
IsRight None contents = ⊤
IsRight (Some Free) contents = ⊤
IsRight (Some (Damaged name)) contents = ⊥
IsRight (Some (Sound label)) contents = is_indexed label.organization ≡ true → is_good label contents ≡ true

-- each used slot is valid, and each index is good
abbrev pub IsSoundPack : Areas → List (List ℕ) → Type 0
IsSoundPack areas contents = (area : Area) (i : ℕ) → i < 32 → IsRight (slice_get (slots_in (area_number area) areas) i) contents
