-- The bytes that a call writes into the slot of a label.
use Rattle.std.specs.Prelude.{◌≡◌, ℕ, List, Some, slice_get}
use Rattle.std.specs.List.{position_from}
use Rattle.s3_cards.specs.declared.name.Name.{Name}
use Rattle.s3_slots.specs.Inner.Labels.{label_bytes}
use Rattle.s3_slots.specs.Slots.{bears, slot_bytes}
use Rattle.s3_slots.specs.declared.label.FileLabel.{FileLabel}
use Rattle.s3_slots.specs.declared.slot.Slot.{Slot}
use Rattle.s3_slots.specs.declared.slot.Slot.TheVariants.{Sound}

-- the slot of a label has that label on the pack
pub record IsWritten (area : ℕ) (slots : List Slot) (contents : List (List ℕ)) (label : FileLabel) : Type 0 where
  pub slot : ℕ
  pub there : slice_get slots slot ≡ Some (Sound label)
  pub bytes : slot_bytes area contents slot ≡ label_bytes label

-- the slot of the file of that label gets these bytes
abbrev pub WritesSlot : Name → List Slot → (area : ℕ) → (List ℕ → List ℕ) → (old new : List (List ℕ)) → Type 0
WritesSlot name slots area bytes old new = (i : ℕ) → position_from (bears name) 0 slots ≡ Some i → slot_bytes area new i ≡ bytes (slot_bytes area old i)
