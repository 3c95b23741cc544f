-- What an area has for a label after a file was made.
use Rattle.std.proofs.Common.{◌≡◌, ◌+◌, ℕ, suc, Bool, true, false, List, [], ◌∷◌, arith, refl, ap, ap₂, sym, ◌∙◌}
use Rattle.std.specs.Prelude.{slice_get, slice_set, Option, Some, None, Ok, Err, cond, if◌then◌else◌}
use Rattle.std.specs.List.{list_any, position_from}
use Rattle.std.proofs.lemmas.Bool.{true≢false}
use Rattle.s3_cards.specs.declared.name.Name.{Name}
use Rattle.s3_cards.specs.Names.{same_name}
use Rattle.s3_store.specs.declared.stretch.Stretch.{Stretch}
use Rattle.s3_store.proofs.SectorLists.{slice_get_set_other}
use Rattle.s3_slots.specs.Making.{made, put, put_at, put_in, put_over, new_label, dropped, is_permanent, tracks_of}
use Rattle.s3_slots.specs.Placement.{free_slot, is_free, placed}
use Rattle.s3_slots.specs.Slots.{bears, is_damaged_under, standing, standing_with, slot_at}
use Rattle.s3_slots.specs.declared.header.Format.{Format}
use Rattle.s3_slots.specs.declared.label.FileLabel.{FileLabel}
use Rattle.s3_slots.specs.declared.making.LabelFault.TheVariants.{Master, Retained}
use Rattle.s3_slots.specs.declared.making.NewFile.{NewFile}
use Rattle.s3_slots.specs.declared.slot.Slot.{Slot}
use Rattle.s3_slots.specs.declared.slot.Slot.TheVariants.{Damaged, Free, Sound}
use Rattle.s3_slots.specs.declared.slot.Standing.{Standing}
use Rattle.s3_slots.specs.declared.slot.Standing.TheVariants.{Absent, Blocked, Present}
use Rattle.s3_job_files.proofs.Lists.{any_set, found_passes, position_set}
use Rattle.s3_job_files.proofs.Slots.{dropped_else}

-- ---- the free slot
pub record IsAt {X : Type 0} (xs : List X) (from found : ℕ) : Type 0 where
  pub place : ℕ
  pub is : found ≡ from + place
  pub element : X
  pub there : slice_get xs place ≡ Some element

pub found_at : {X : Type 0} (t : X → Bool) (from : ℕ) (xs : List X) (p : ℕ) → position_from t from xs ≡ Some p → IsAt xs from p
found_at t from [] p h = absurd cc
found_at {X} t from (y ∷ xs) p h = by (t y) h (found_at t (from + 1) xs p)
  where
    by : (b : Bool) → cond b (Some from) (position_from t (from + 1) xs) ≡ Some p → (position_from t (from + 1) xs ≡ Some p → IsAt xs (from + 1) p) → IsAt (y ∷ xs) from p
    by true e go = let same : from ≡ p = cc in record { place = 0; is = omega (arith, same); element = y; there = refl }
    by false e go = let rest = go e in record { place = suc rest.place; is = omega (arith, rest.is); element = rest.element; there = rest.there }

only_free : (slot : Slot) → is_free slot ≡ true → slot ≡ Free
only_free Free h = refl
only_free (Damaged name) h = absurd (true≢false (sym h))
only_free (Sound label) h = absurd (true≢false (sym h))

free_there : (slots : List Slot) (at : ℕ) → free_slot slots ≡ Some at → slice_get slots at ≡ Some Free
free_there slots at h =
    let found = found_at is_free 0 slots at h in
    let same : at ≡ found.place = omega (arith, found.is) in
    let there : slice_get slots at ≡ Some found.element = ap (slice_get slots) same ∙ found.there in
    there ∙ ap Some (only_free found.element (found_passes is_free slots at found.element h there))

-- ---- a label is put into it
put_else : (slots : List Slot) (i : ℕ) (new : FileLabel) (q : Name) → slice_get slots i ≡ Some Free → same_name new.name q ≡ false → standing q (slice_set slots i (Sound new)) ≡ standing q slots
unfolding standing
put_else slots i new q there differs =
    ap₂ (λ (b : Bool) (place : Option ℕ). standing_with b (slot_at (slice_set slots i (Sound new)) place))
    (any_set (is_damaged_under q) slots i Free (Sound new) there refl) (position_set (bears q) 0 slots i Free (Sound new) there differs)
    ∙ ap (standing_with (list_any (is_damaged_under q) slots)) (by (position_from (bears q) 0 slots) refl)
  where
    by : (place : Option ℕ) → position_from (bears q) 0 slots ≡ place → slot_at (slice_set slots i (Sound new)) place ≡ slot_at slots place
    by None e = refl
    by (Some j) e = slice_get_set_other slots i j (Sound new) (λ same. true≢false (sym (found_passes (bears q) slots j Free e (ap (slice_get slots) same ∙ there))))

put_in_else : (new : NewFile) (slots after : List Slot) (at : ℕ) (extents : Option (List Stretch)) (q : Name) → free_slot slots ≡ Some at → same_name new.name q ≡ false → put_in new slots at extents ≡ Ok after
    → standing q after ≡ standing q slots
unfolding new_label
put_in_else new slots after at None q free differs h = absurd cc
put_in_else new slots after at (Some extents) q free differs h =
    let is : slice_set slots at (Sound (new_label new extents)) ≡ after = cc in
    ap (standing q) (sym is) ∙ put_else slots at (new_label new extents) q (free_there slots at free) differs

placed_else : (format : Format) (region : Stretch) (new : NewFile) (slots after : List Slot) (q : Name) → same_name new.name q ≡ false → put format region new slots ≡ Ok after → standing q after ≡ standing q slots
placed_else format region new slots after q differs h = by (free_slot slots) refl h
  where
    by : (at : Option ℕ) → free_slot slots ≡ at → put_at format region new slots at ≡ Ok after → standing q after ≡ standing q slots
    by None e h = absurd cc
    by (Some at) e h = put_in_else new slots after at (placed format region slots (tracks_of new)) q e differs h

over_else : (format : Format) (region : Stretch) (new : NewFile) (slots after : List Slot) (stands : Standing) (q : Name) → standing new.name slots ≡ stands → same_name new.name q ≡ false
    → put_over format region new slots stands ≡ Ok after → standing q after ≡ standing q slots
over_else format region new slots after Absent q is differs h = placed_else format region new slots after q differs h
over_else format region new slots after Blocked q is differs h = absurd cc
over_else format region new slots after (Present old) q is differs h = by (is_permanent old.retention) h
  where
    by : (b : Bool) → (if b then Err Retained else put format region new (dropped new.name slots)) ≡ Ok after → standing q after ≡ standing q slots
    by true e = absurd cc
    by false e = placed_else format region new (dropped new.name slots) after q differs e ∙ dropped_else new.name slots old q is differs

-- what it has for any other name is unchanged
pub made_else : (format : Format) (region : Stretch) (masters : List Slot) (new : NewFile) (slots after : List Slot) (q : Name) → same_name new.name q ≡ false → made format region masters new slots ≡ Ok after
    → standing q after ≡ standing q slots
unfolding made
made_else format region masters new slots after q differs h = by (list_any (bears new.name) masters) h
  where
    by : (b : Bool) → (if b then Err Master else put_over format region new slots (standing new.name slots)) ≡ Ok after → standing q after ≡ standing q slots
    by true e = absurd cc
    by false e = over_else format region new slots after (standing new.name slots) q refl differs e
