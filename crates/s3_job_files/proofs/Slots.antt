-- What an area has for a label after a count was set, or a label dropped.
use Rattle.std.proofs.Common.{◌≡◌, ℕ, Bool, true, false, List, slice_get, slice_set, Option, Some, None, refl, ap, ap₂, sym, ◌∙◌, inl, inr}
use Rattle.std.specs.List.{list_any, position_from}
use Rattle.std.proofs.lemmas.Bool.{true≢false}
use Rattle.s3_cards.specs.declared.name.Name.{Name}
use Rattle.s3_cards.specs.Names.{same_name}
use Rattle.s3_cards.proofs.NameLemmas.{same_name-equal}
use Rattle.s3_store.specs.declared.stretch.Stretch.{Stretch}
use Rattle.s3_store.proofs.SectorLists.{slice_get_set_other, slice_get_set_same, slice_set_known}
use Rattle.s3_slots.specs.Inner.Kept.{AreKept}
use Rattle.s3_slots.specs.Making.{counted, dropped}
use Rattle.s3_slots.specs.Slots.{bears, is_damaged_under, standing, standing_with, slot_at}
use Rattle.s3_slots.specs.declared.label.FileLabel.{FileLabel}
use Rattle.s3_slots.specs.declared.slot.Slot.{Slot}
use Rattle.s3_slots.specs.declared.slot.Slot.TheVariants.{Free, Sound}
use Rattle.s3_slots.specs.declared.slot.Standing.TheVariants.{Present}
use Rattle.s3_slots.proofs.Makes.{dropped_is, present_at, present_is, present_somewhere}
use Rattle.s3_job_files.proofs.Lists.{any_set, found_passes, get_set, position_set, within_get}
use Rattle.s3_job_files.proofs.Standings.{present_named}

-- ---- a slot is set
-- what an area has for a name that neither the old slot nor the new one has
set_else : (slots : List Slot) (i : ℕ) (old : FileLabel) (new : Slot) (q : Name) → slice_get slots i ≡ Some (Sound old) → same_name old.name q ≡ false → bears q new ≡ false → is_damaged_under q new ≡ false
    → standing q (slice_set slots i new) ≡ standing q slots
unfolding standing
set_else slots i old new q there differs unlike whole =
    ap₂ (λ (b : Bool) (place : Option ℕ). standing_with b (slot_at (slice_set slots i new) place))
    (any_set (is_damaged_under q) slots i (Sound old) new there whole) (position_set (bears q) 0 slots i (Sound old) new there (unlike ∙ sym differs))
    ∙ ap (standing_with (list_any (is_damaged_under q) slots)) (by (position_from (bears q) 0 slots) refl)
  where
    by : (place : Option ℕ) → position_from (bears q) 0 slots ≡ place → slot_at (slice_set slots i new) place ≡ slot_at slots place
    by None e = refl
    by (Some j) e = slice_get_set_other slots i j new (λ same. true≢false (sym (found_passes (bears q) slots j (Sound old) e (ap (slice_get slots) same ∙ there)) ∙ differs))

-- what an area has for the name of the slot that is found first
set_here : (slots : List Slot) (i : ℕ) (old new : FileLabel) (q : Name) → slice_get slots i ≡ Some (Sound old) → position_from (bears q) 0 slots ≡ Some i → new.name ≡ old.name
    → standing q (slice_set slots i (Sound new)) ≡ Present new
unfolding standing
set_here slots i old new q there found named =
    ap (λ (place : Option ℕ). standing_with (list_any (is_damaged_under q) (slice_set slots i (Sound new))) (slot_at (slice_set slots i (Sound new)) place))
    (position_set (bears q) 0 slots i (Sound old) (Sound new) there (ap (λ name. same_name name q) named) ∙ found)
    ∙ ap (standing_with (list_any (is_damaged_under q) (slice_set slots i (Sound new)))) (slice_get_set_same slots i (Sound new) (within_get slots i (Sound old) there))

-- ---- the slot of a name
pub record IsSlot (name : Name) (slots : List Slot) (label : FileLabel) : Type 0 where
  pub slot : ℕ
  pub found : position_from (bears name) 0 slots ≡ Some slot
  pub there : slice_get slots slot ≡ Some (Sound label)
  pub named : label.name ≡ name

slot_of : (name : Name) (slots : List Slot) (label : FileLabel) → standing name slots ≡ Present label → IsSlot name slots label
slot_of name slots label stands = by (position_from (bears name) 0 slots) refl
  where
    by : (place : Option ℕ) → position_from (bears name) 0 slots ≡ place → IsSlot name slots label
    by None e = absurd (present_somewhere name slots label stands e)
    by (Some i) e = record { slot = i; found = e; there = present_is name slots label i stands e; named = present_named name slots label stands }

-- ---- a count is set
counted_is : (name : Name) (n : ℕ) (slots : List Slot) (old : FileLabel) (i : ℕ) → position_from (bears name) 0 slots ≡ Some i → slice_get slots i ≡ Some (Sound old)
    → counted name n slots ≡ slice_set slots i (Sound (record old { count = n }))
unfolding counted
counted_is name n slots old i found there = rw found (rw there refl)

pub counted_here : (name : Name) (n : ℕ) (slots : List Slot) (old : FileLabel) → standing name slots ≡ Present old → standing name (counted name n slots) ≡ Present (record old { count = n })
counted_here name n slots old stands =
    let at = slot_of name slots old stands in
    ap (standing name) (counted_is name n slots old at.slot at.found at.there) ∙ set_here slots at.slot old (record old { count = n }) name at.there at.found refl

-- the count that a label has is set
pub counted_same : (name : Name) (slots : List Slot) (old : FileLabel) → standing name slots ≡ Present old → counted name old.count slots ≡ slots
counted_same name slots old stands =
    let at = slot_of name slots old stands in
    counted_is name old.count slots old at.slot at.found at.there ∙ slice_set_known slots at.slot (Sound old) at.there

pub counted_else : (name : Name) (n : ℕ) (slots : List Slot) (old : FileLabel) (q : Name) → standing name slots ≡ Present old → same_name name q ≡ false
    → standing q (counted name n slots) ≡ standing q slots
counted_else name n slots old q stands differs =
    let at = slot_of name slots old stands in
    let unlike : same_name old.name q ≡ false = ap (λ l. same_name l q) at.named ∙ differs in
    ap (standing q) (counted_is name n slots old at.slot at.found at.there) ∙ set_else slots at.slot old (Sound (record old { count = n })) q at.there unlike unlike refl

-- ---- a label is dropped
pub dropped_else : (name : Name) (slots : List Slot) (old : FileLabel) (q : Name) → standing name slots ≡ Present old → same_name name q ≡ false
    → standing q (dropped name slots) ≡ standing q slots
dropped_else name slots old q stands differs =
    let at = slot_of name slots old stands in
    ap (standing q) (dropped_is name slots old at.slot stands at.found) ∙ set_else slots at.slot old Free q at.there (ap (λ l. same_name l q) at.named ∙ differs) refl refl

pub dropped_none : (region : Stretch) (name : Name) (slots : List Slot) (old label : FileLabel) → AreKept region slots → standing name slots ≡ Present old
    → standing label.name (dropped name slots) ≡ Present label → same_name name label.name ≡ true → ⊥
dropped_none region name slots old label kept stands after same =
    let at = slot_of name slots old stands in
    let now = present_at label.name (slice_set slots at.slot Free) label (sym (ap (standing label.name) (dropped_is name slots old at.slot stands at.found)) ∙ after) in
    elim (get_set slots at.slot now.slot Free (Sound label) now.there) [
      | inl here ↦ let wrong : Free ≡ Sound label = here.1 in cc
      | inr before ↦ before.0 (kept.named now.slot at.slot label old before.1 at.there (sym (same_name-equal name label.name same) ∙ sym at.named))
    ]
