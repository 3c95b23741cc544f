-- The slot that is found for a name.
use Rattle.std.proofs.Common.{◌≡◌, ℕ, Bool, true, false, List, slice_get, slice_set, Option, Some, None, refl, sym, ap, ◌∙◌}
use Rattle.std.specs.List.{list_any, position_from}
use Rattle.s3_store.proofs.SectorLists.{slice_set_known, slice_set_set_same}
use Rattle.s3_cards.specs.declared.name.Name.{Name}
use Rattle.s3_slots.specs.declared.label.FileLabel.{FileLabel}
use Rattle.s3_slots.specs.declared.slot.Slot.{Slot}
use Rattle.s3_slots.specs.declared.slot.Slot.TheVariants.{Free, Damaged, Sound}
use Rattle.s3_slots.specs.declared.slot.Standing.TheVariants.{Present}
use Rattle.s3_slots.specs.Slots.{bears, is_damaged_under, standing, standing_with, slot_at}
use Rattle.s3_slots.specs.Making.{dropped}

with_present : (b : Bool) (s : Option Slot) (old : FileLabel) → standing_with b s ≡ Present old → s ≡ Some (Sound old)
with_present true None old h = absurd cc
with_present false None old h = absurd cc
with_present true (Some Free) old h = absurd cc
with_present false (Some Free) old h = absurd cc
with_present true (Some (Damaged name)) old h = absurd cc
with_present false (Some (Damaged name)) old h = absurd cc
with_present b (Some (Sound label)) old h = cc

at_present : (name : Name) (slots : List Slot) (old : FileLabel) → standing name slots ≡ Present old → slot_at slots (position_from (bears name) 0 slots) ≡ Some (Sound old)
unfolding standing
at_present name slots old h = with_present (list_any (is_damaged_under name) slots) (slot_at slots (position_from (bears name) 0 slots)) old h

-- the slot of a label
pub record IsAt (slots : List Slot) (label : FileLabel) : Type 0 where
  pub slot : ℕ
  pub there : slice_get slots slot ≡ Some (Sound label)

pub present_at : (name : Name) (slots : List Slot) (label : FileLabel) → standing name slots ≡ Present label → IsAt slots label
present_at name slots label h = by (position_from (bears name) 0 slots) (at_present name slots label h)
  where
    by : (place : Option ℕ) → slot_at slots place ≡ Some (Sound label) → IsAt slots label
    by None e = absurd cc
    by (Some i) e = record { slot = i; there = e }

pub present_is : (name : Name) (slots : List Slot) (old : FileLabel) (i : ℕ) → standing name slots ≡ Present old → position_from (bears name) 0 slots ≡ Some i
    → slice_get slots i ≡ Some (Sound old)
present_is name slots old i h p = sym (ap (slot_at slots) p) ∙ at_present name slots old h

pub present_somewhere : (name : Name) (slots : List Slot) (old : FileLabel) → standing name slots ≡ Present old → position_from (bears name) 0 slots ≡ None → ⊥
present_somewhere name slots old h p = let e = sym (ap (slot_at slots) p) ∙ at_present name slots old h in cc

pub dropped_is : (name : Name) (slots : List Slot) (old : FileLabel) (i : ℕ) → standing name slots ≡ Present old → position_from (bears name) 0 slots ≡ Some i
    → dropped name slots ≡ slice_set slots i Free
unfolding dropped
dropped_is name slots old i h p = rw p (rw (present_is name slots old i h p) refl)

pub put_back : (slots : List Slot) (i : ℕ) (there between : Slot) → slice_get slots i ≡ Some there → slice_set (slice_set slots i between) i there ≡ slots
put_back slots i there between h = slice_set_set_same slots i between there ∙ slice_set_known slots i there h
