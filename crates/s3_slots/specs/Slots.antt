-- The validation of the slots of an area, in order.
use Rattle.std.specs.Prelude.{ℕ, ◌+◌, ◌-◌, ◌*◌, ◌/◌, ◌%◌, ◌==◌, Bool, false, not, ◌&&◌, nat_le, List, [], ◌∷◌, ◌++◌, length, map, slice_index, slice_get, Option, Some, None, if◌then◌else◌}
use Rattle.std.specs.List.{list_all, list_any, range_with_len, sum_by, position_from}
use Rattle.s3_cards.specs.declared.name.Name.{Name}
use Rattle.s3_cards.specs.Names.{same_name}
use Rattle.s3_store.specs.Bytes.{sector_bytes, part}
use Rattle.s3_slots.specs.Stretches.{is_apart_from_all, are_apart, is_inside}
use Rattle.s3_slots.specs.Labels.{name_in, label_in}
use Rattle.s3_slots.specs.declared.header.Format.{Format}
use Rattle.s3_slots.specs.declared.label.FileLabel.{FileLabel}
use Rattle.s3_slots.specs.declared.label.Organization.{Organization}
use Rattle.s3_slots.specs.declared.label.Organization.TheVariants.{Direct, Indexed}
use Rattle.s3_slots.specs.declared.slot.Slot.{Slot}
use Rattle.s3_slots.specs.declared.slot.Slot.TheVariants.{Damaged, Free, Sound}
use Rattle.s3_slots.specs.declared.slot.Standing.{Standing}
use Rattle.s3_slots.specs.declared.slot.Standing.TheVariants.{Absent, Blocked, Present}
use Rattle.s3_store.specs.declared.stretch.Stretch.{Stretch}

-- ---- the space of a file
-- the number of sectors for the records
abbrev pub record_sectors : (capacity record_length : ℕ) → ℕ
record_sectors capacity record_length = (capacity * record_length + 255) / 256

-- the entries in a sector of its index: the key and four bytes each
abbrev pub entries_per_sector : ℕ → ℕ
entries_per_sector key_length = 256 / (key_length + 4)

abbrev pub index_sectors : (capacity key_length : ℕ) → ℕ
index_sectors capacity key_length = (capacity + entries_per_sector key_length - 1) / entries_per_sector key_length

abbrev pub sectors_needed : Organization → (record_length key_length capacity : ℕ) → ℕ
sectors_needed Indexed record_length key_length capacity = record_sectors capacity record_length + index_sectors capacity key_length
sectors_needed _ record_length key_length capacity = record_sectors capacity record_length

-- ---- a label alone
abbrev pub is_key_of : Organization → (record_length key_length key_start : ℕ) → Bool
is_key_of Indexed record_length key_length key_start =
    nat_le 1 key_length && nat_le key_length 29 && nat_le 1 key_start && nat_le (key_start + key_length) (record_length + 1)
is_key_of _ record_length key_length key_start = (key_length == 0) && (key_start == 0)

-- an extent is whole tracks of its area's region, at least one
abbrev pub is_extent : Stretch → Stretch → Bool
is_extent region extent =
    (extent.start % 24 == 0) && (extent.sectors % 24 == 0) && nat_le 24 extent.sectors && is_inside region extent

abbrev pub are_extents : Stretch → List Stretch → Bool
are_extents region extents = nat_le 1 (length extents) && list_all (is_extent region) extents && are_apart extents

abbrev pub is_count_of : Organization → (capacity count : ℕ) → Bool
is_count_of Direct capacity count = count == capacity
is_count_of _ capacity count = nat_le count capacity

abbrev pub is_well_formed : Stretch → FileLabel → Bool
is_well_formed region label =
    nat_le 1 label.record_length && nat_le label.record_length 1024
    && is_key_of label.organization label.record_length label.key_length label.key_start
    && are_extents region label.extents
    && nat_le 1 label.capacity && is_count_of label.organization label.capacity label.count
    && nat_le (sectors_needed label.organization label.record_length label.key_length label.capacity) (sum_by (λ extent. extent.sectors) label.extents)

-- ---- a label and the ones before it
-- the extents of a valid slot
abbrev pub extents_of : Slot → List Stretch
extents_of (Sound label) = label.extents
extents_of _ = []

-- it has no sector of a valid slot's extents
abbrev pub is_apart_from_slot : Stretch → Slot → Bool
is_apart_from_slot stretch slot = is_apart_from_all stretch (extents_of slot)

abbrev pub is_clear : List Slot → Stretch → Bool
is_clear slots stretch = list_all (is_apart_from_slot stretch) slots

abbrev pub bears : Name → Slot → Bool
bears name (Sound label) = same_name label.name name
bears name _ = false

-- it has no sector of a valid extent, and no valid slot has its label
abbrev pub is_disentangled : List Slot → FileLabel → Bool
is_disentangled earlier label = list_all (is_clear earlier) label.extents && not (list_any (bears label.name) earlier)

-- ---- validating
abbrev pub is_sound : Stretch → List Slot → FileLabel → Bool
is_sound region earlier label = is_well_formed region label && is_disentangled earlier label

abbrev pub judged_label : Stretch → List Slot → Option Name → Option FileLabel → Slot
judged_label region earlier name None = Damaged name
judged_label region earlier name (Some label) = if is_sound region earlier label then Sound label else Damaged name

-- a slot with these bytes, after the slots that were validated before it
abbrev pub judged : Format → Stretch → List Slot → List ℕ → Slot
judged format region earlier bytes =
    if slice_index bytes 0 == 0 then Free
    else (if slice_index bytes 0 == 1 then judged_label region earlier (name_in bytes) (label_in format bytes) else Damaged (name_in bytes))

abbrev pub judged_behind : Format → Stretch → List Slot → List (List ℕ) → List Slot
judged_behind format region earlier [] = earlier
judged_behind format region earlier (bytes ∷ more) = judged_behind format region (earlier ++ judged format region earlier bytes ∷ []) more

-- the first sector of the labels of area 0, the masters, 1 or 2
abbrev pub labels_at : ℕ → ℕ
labels_at area = 1 + 8 * area

-- the 64 bytes of a slot of an area
abbrev pub slot_bytes : ℕ → List (List ℕ) → ℕ → List ℕ
slot_bytes area contents i = part (sector_bytes contents (labels_at area + i / 4)) (i % 4 * 64) 64

-- the 32 slots of an area, validated
unfoldable pub slots_of : Format → Stretch → ℕ → List (List ℕ) → List Slot
slots_of format region area contents = judged_behind format region [] (map (slot_bytes area contents) (range_with_len 0 32))

-- A slot is entangled if it is damaged only by an overlapping or duplicate label.
abbrev pub is_entangled_label : Stretch → List Slot → Option FileLabel → Bool
is_entangled_label region earlier None = false
is_entangled_label region earlier (Some label) = is_well_formed region label && not (is_disentangled earlier label)

abbrev pub is_entangled : Format → Stretch → List Slot → List ℕ → Bool
is_entangled format region earlier bytes = (slice_index bytes 0 == 1) && is_entangled_label region earlier (label_in format bytes)

-- ---- looking up
abbrev pub is_damaged_under : Name → Slot → Bool
is_damaged_under name (Damaged (Some other)) = same_name other name
is_damaged_under name _ = false

abbrev pub without_file : Bool → Standing
without_file is_blocked = if is_blocked then Blocked else Absent

-- the valid slot of that label; without one, the label is blocked if a damaged slot has it
abbrev pub standing_with : Bool → Option Slot → Standing
standing_with is_blocked (Some (Sound label)) = Present label
standing_with is_blocked _ = without_file is_blocked

abbrev pub slot_at : List Slot → Option ℕ → Option Slot
slot_at slots None = None
slot_at slots (Some i) = slice_get slots i

unfoldable pub standing : Name → List Slot → Standing
standing name slots = standing_with (list_any (is_damaged_under name) slots) (slot_at slots (position_from (bears name) 0 slots))
