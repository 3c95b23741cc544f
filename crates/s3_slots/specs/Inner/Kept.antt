-- The invariant of an area's slots while its files are made, counted and dropped.
use Rattle.std.specs.Prelude.{◌≡◌, ◌≤◌, ℕ, true, List, slice_get, Some}
use Rattle.std.specs.List.{Contains}
use Rattle.s3_store.specs.Stretches.{end_of}
use Rattle.s3_store.specs.declared.stretch.Stretch.{Stretch}
use Rattle.s3_slots.specs.Labels.{sectors_of}
use Rattle.s3_slots.specs.Slots.{is_well_formed}
use Rattle.s3_slots.specs.declared.label.FileLabel.{FileLabel}
use Rattle.s3_slots.specs.declared.slot.Slot.{Slot}
use Rattle.s3_slots.specs.declared.slot.Slot.TheVariants.{Sound}

-- each valid label is well formed, and no two valid labels share a sector or a name
pub record AreKept (region : Stretch) (slots : List Slot) : Type 0 where
  pub formed : (i : ℕ) (label : FileLabel) → slice_get slots i ≡ Some (Sound label) → is_well_formed region label ≡ true
  pub apart : (i j : ℕ) (first second : FileLabel) (n : ℕ) → slice_get slots i ≡ Some (Sound first) → slice_get slots j ≡ Some (Sound second)
      → Contains (sectors_of first) n → Contains (sectors_of second) n → i ≡ j
  pub named : (i j : ℕ) (first second : FileLabel) → slice_get slots i ≡ Some (Sound first) → slice_get slots j ≡ Some (Sound second)
      → first.name ≡ second.name → i ≡ j

-- a label on a pack of so many sectors: it is well formed in a region of the pack
pub record IsOfPack (sectors : ℕ) (label : FileLabel) : Type 0 where
  pub region : Stretch
  pub within : end_of region ≤ sectors
  pub few : sectors ≤ 65535
  pub formed : is_well_formed region label ≡ true
