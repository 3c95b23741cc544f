-- A mount that finds no label damaged because of another slot.
use Rattle.std.specs.Prelude.{◌≡◌, ◌<◌, ℕ, false, List, take}
use Rattle.s3_store.specs.declared.stretch.Stretch.{Stretch}
use Rattle.s3_slots.specs.Slots.{is_entangled, slot_bytes, slots_of}
use Rattle.s3_slots.specs.declared.header.Format.{Format}

-- a mount finds no slot of the area damaged only by an overlapping or duplicate label
abbrev pub IsUntangled : Format → Stretch → ℕ → List (List ℕ) → Type 0
IsUntangled format region area contents =
    (i : ℕ) → i < 32 → is_entangled format region (take i (slots_of format region area contents)) (slot_bytes area contents i) ≡ false
