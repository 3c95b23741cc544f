-- Why a slot is damaged: the first test that its bytes fail.
use Rattle.std.specs.Prelude.{ℕ, Bool, true, false, ◌&&◌, ◌==◌, nat_le, List, [], drop, slice_index, is_some, Option, Some, None, if◌then◌else◌}
use Rattle.std.specs.List.{position_from}
use Rattle.byteorder.specs.Endian.{big_number}
use Rattle.s3_cards.specs.declared.name.Name.{Name}
use Rattle.s3_cards.specs.Names.{is_name}
use Rattle.s3_store.specs.Bytes.{part}
use Rattle.s3_store.specs.declared.stretch.Stretch.{Stretch}
use Rattle.s3_slots.specs.Labels.{organization_by, retention_by}
use Rattle.s3_slots.specs.Slots.{bears, is_count_of, is_key_of, judged}
use Rattle.s3_slots.specs.declared.header.Format.{Format}
use Rattle.s3_slots.specs.declared.label.Organization.{Organization}
use Rattle.s3_slots.specs.declared.slot.Slot.{Slot}
use Rattle.s3_slots.specs.declared.slot.Slot.TheVariants.{Damaged, Free, Sound}
use Rattle.s3_pack_check.specs.declared.damage.Damage.{Damage}
use Rattle.s3_pack_check.specs.declared.damage.Damage.TheVariants.{Capacity, Count, Extents, Key, Mark, Name as NameDamage, Organization as OrganizationDamage, Overlap, RecordLength, Retention, SameLabel}

-- the damage of a failed test, or else the damage that the later tests find
abbrev pub unless : Bool → Damage → Option Damage → Option Damage
unless passed damage behind = if passed then behind else Some damage

-- damage of the record length, the key, the capacity or the count
abbrev pub number_damage : Organization → List ℕ → Option Damage
number_damage organization bytes =
    let record_length : ℕ = big_number 2 (drop 11 bytes) in
    let capacity : ℕ = big_number 4 (drop 20 bytes) in
    unless (nat_le 1 record_length && nat_le record_length 1024) RecordLength
    (unless (is_key_of organization record_length (slice_index bytes 13) (big_number 2 (drop 14 bytes))) Key
    (unless (nat_le 1 capacity) Capacity
    (unless (is_count_of organization capacity (big_number 4 (drop 24 bytes))) Count None)))

abbrev pub damage_by : Option Organization → List ℕ → Option Damage
damage_by None bytes = Some OrganizationDamage
damage_by (Some organization) bytes = unless (is_some (retention_by (slice_index bytes 10))) Retention (number_damage organization bytes)

-- the first damage of a label's fields, without its extents
abbrev pub field_damage : List ℕ → Option Damage
field_damage bytes =
    unless (slice_index bytes 0 == 1) Mark
    (unless (is_name (part bytes 1 8)) NameDamage (damage_by (organization_by (slice_index bytes 9)) bytes))

abbrev pub is_damaged : Slot → Bool
is_damaged (Damaged name) = true
is_damaged Free = false
is_damaged (Sound label) = false

-- the first damaged slot of an area; the files in it can't be known
abbrev pub first_damaged : List Slot → Option ℕ
first_damaged slots = position_from is_damaged 0 slots

-- a label that is valid without the slots before it has the label of one of them, or overlaps it
abbrev pub neighbour_damage : Option Name → List Slot → Damage
neighbour_damage None earlier = Overlap
neighbour_damage (Some name) earlier = if is_some (position_from (bears name) 0 earlier) then SameLabel else Overlap

abbrev pub room_damage : Format → Stretch → Option Name → List Slot → List ℕ → Damage
room_damage format region name earlier bytes = if is_damaged (judged format region [] bytes) then Extents else neighbour_damage name earlier

abbrev pub damage_or : Option Damage → Damage → Damage
damage_or None other = other
damage_or (Some damage) other = damage

-- why a slot of these bytes is damaged, after the slots before it
unfoldable pub damage_of : Format → Stretch → Option Name → List Slot → List ℕ → Damage
damage_of format region name earlier bytes = damage_or (field_damage bytes) (room_damage format region name earlier bytes)
