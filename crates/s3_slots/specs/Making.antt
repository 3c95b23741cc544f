-- Making files, setting counts and dropping labels: the resulting slots of an area.
use Rattle.std.specs.Prelude.{ℕ, zero, suc, ◌*◌, ◌/◌, Bool, true, false, nat_le, List, slice_get, slice_set, Option, Some, None, Result, Ok, Err, if◌then◌else◌}
use Rattle.std.specs.List.{list_any, position_from}
use Rattle.s3_cards.specs.declared.name.Name.{Name}
use Rattle.s3_slots.specs.Stretches.{sectors_of_tracks, tracks_for}
use Rattle.s3_slots.specs.Slots.{standing, bears, sectors_needed}
use Rattle.s3_slots.specs.Placement.{free_slot, placed}
use Rattle.s3_slots.specs.declared.header.Format.{Format}
use Rattle.s3_slots.specs.declared.label.FileLabel.{FileLabel}
use Rattle.s3_slots.specs.declared.label.Organization.{Organization}
use Rattle.s3_slots.specs.declared.label.Organization.TheVariants.{Direct}
use Rattle.s3_cards.specs.declared.retention.Retention.{Retention}
use Rattle.s3_cards.specs.declared.retention.Retention.TheVariants.{Permanent}
use Rattle.s3_slots.specs.declared.making.LabelFault.{LabelFault}
use Rattle.s3_slots.specs.declared.making.LabelFault.TheVariants.{DamagedLabel, Master, NoSlot, NoSpace, Retained}
use Rattle.s3_slots.specs.declared.making.NewFile.{NewFile}
use Rattle.s3_slots.specs.declared.making.Size.{Size}
use Rattle.s3_slots.specs.declared.making.Size.TheVariants.{Records, Tracks}
use Rattle.s3_slots.specs.declared.slot.Slot.{Slot}
use Rattle.s3_slots.specs.declared.slot.Slot.TheVariants.{Free, Sound}
use Rattle.s3_slots.specs.declared.slot.Standing.{Standing}
use Rattle.s3_slots.specs.declared.slot.Standing.TheVariants.{Absent, Blocked, Present}
use Rattle.s3_store.specs.declared.stretch.Stretch.{Stretch}

-- ---- the size of a file
-- the greatest number up to n that passes a test, or 0
abbrev pub greatest : (ℕ → Bool) → ℕ → ℕ
greatest test zero = 0
greatest test (suc n) = elim (test (suc n)) as (λ is_so. ℕ) [ true ↦ suc n | false ↦ greatest test n ]

-- the greatest capacity for so many sectors
unfoldable pub greatest_capacity : NewFile → ℕ → ℕ
greatest_capacity new sectors =
    greatest (λ capacity. nat_le (sectors_needed new.organization new.record_length new.key_length capacity) sectors) (sectors * 256 / new.record_length)

abbrev pub tracks_of_size : NewFile → Size → ℕ
tracks_of_size new (Records n) = tracks_for (sectors_needed new.organization new.record_length new.key_length n)
tracks_of_size new (Tracks n) = n

abbrev pub tracks_of : NewFile → ℕ
tracks_of new = tracks_of_size new new.size

abbrev pub capacity_of_size : NewFile → Size → ℕ
capacity_of_size new (Records n) = n
capacity_of_size new (Tracks n) = greatest_capacity new (sectors_of_tracks n)

abbrev pub capacity_of : NewFile → ℕ
capacity_of new = capacity_of_size new new.size

-- a direct file is full of blank records when it is made
abbrev pub first_count : Organization → ℕ → ℕ
first_count Direct capacity = capacity
first_count _ capacity = 0

unfoldable pub new_label : NewFile → List Stretch → FileLabel
new_label new extents =
    record {
      name = new.name;
      organization = new.organization;
      retention = new.retention;
      record_length = new.record_length;
      key_length = new.key_length;
      key_start = new.key_start;
      extents = extents;
      capacity = capacity_of new;
      count = first_count new.organization (capacity_of new);
      date = new.date;
    }

-- ---- changes of the slots
-- the slots, with the slot at this place changed by a function of its label
abbrev pub changed_at : (FileLabel → Slot) → List Slot → ℕ → Option Slot → List Slot
changed_at change slots i (Some (Sound label)) = slice_set slots i (change label)
changed_at change slots i _ = slots

abbrev pub changed_in : (FileLabel → Slot) → List Slot → Option ℕ → List Slot
changed_in change slots None = slots
changed_in change slots (Some i) = changed_at change slots i (slice_get slots i)

-- the slots without the file of that label
unfoldable pub dropped : Name → List Slot → List Slot
dropped name slots = changed_in (λ label. Free) slots (position_from (bears name) 0 slots)

-- the slots with n as the count of that label's file
unfoldable pub counted : Name → ℕ → List Slot → List Slot
counted name n slots = changed_in (λ label. Sound (record label { count = n })) slots (position_from (bears name) 0 slots)

-- the slots with a new file in a slot, if it has extents
abbrev pub put_in : NewFile → List Slot → ℕ → Option (List Stretch) → Result (List Slot) LabelFault
put_in new slots at None = Err NoSpace
put_in new slots at (Some extents) = Ok (slice_set slots at (Sound (new_label new extents)))

abbrev pub put_at : Format → Stretch → NewFile → List Slot → Option ℕ → Result (List Slot) LabelFault
put_at format region new slots None = Err NoSlot
put_at format region new slots (Some at) = put_in new slots at (placed format region slots (tracks_of new))

abbrev pub put : Format → Stretch → NewFile → List Slot → Result (List Slot) LabelFault
put format region new slots = put_at format region new slots (free_slot slots)

abbrev pub is_permanent : Retention → Bool
is_permanent Permanent = true
is_permanent _ = false

-- the slots with the new file in place of the old file of its label, unless that one is permanent or its slot is damaged
abbrev pub put_over : Format → Stretch → NewFile → List Slot → Standing → Result (List Slot) LabelFault
put_over format region new slots Absent = put format region new slots
put_over format region new slots Blocked = Err DamagedLabel
put_over format region new slots (Present old) = if is_permanent old.retention then Err Retained else put format region new (dropped new.name slots)

-- the slots of an area after a make; the masters' slots are given, since a label of theirs can't be used
unfoldable pub made : Format → Stretch → (masters : List Slot) → NewFile → List Slot → Result (List Slot) LabelFault
made format region masters new slots =
    if list_any (bears new.name) masters then Err Master else put_over format region new slots (standing new.name slots)
