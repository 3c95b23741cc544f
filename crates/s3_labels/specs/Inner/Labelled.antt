-- The slots that the labels of an area give, each slot by itself.
use Rattle.std.specs.Prelude.{◌≡◌, ℕ, List, [], map}
use Rattle.std.specs.List.{range_with_len}
use Rattle.s3_cards.specs.declared.levels.LevelId.{LevelId}
use Rattle.s3_store.specs.declared.stretch.Stretch.{Stretch}
use Rattle.s3_slots.specs.Slots.{judged, slot_bytes}
use Rattle.s3_slots.specs.declared.header.Format.{Format}
use Rattle.s3_slots.specs.declared.slot.Slot.{Slot}
use Rattle.s3_labels.specs.Inner.Areas.{Areas, region_at, slots_at}
use Rattle.s3_labels.specs.Areas.{area_of}

-- the 32 slots of an area, each validated as if there were none before it: a well-formed label is valid
unfoldable pub slots_alone : Format → Stretch → ℕ → List (List ℕ) → List Slot
slots_alone format region area contents = map (λ i. judged format region [] (slot_bytes area contents i)) (range_with_len 0 32)

-- the labels of a level give its slots
abbrev pub SaysSlots : LevelId → Areas → List (List ℕ) → Type 0
SaysSlots level areas contents = slots_alone areas.header.format (region_at level areas) (area_of level) contents ≡ slots_at level areas

-- if the labels gave the level's slots before, they still do
abbrev pub KeepsSaid : LevelId → (old : Areas) → (before : List (List ℕ)) → (new : Areas) → (after : List (List ℕ)) → Type 0
KeepsSaid level old before new after = SaysSlots level old before → SaysSlots level new after
