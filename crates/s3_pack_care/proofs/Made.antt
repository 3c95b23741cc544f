-- What a make of a new file with an unused label shows about the slots: the space that it takes, or why there is none.
use Rattle.std.proofs.Common.{◌≡◌, ℕ, ◌<◌, Bool, true, false, List, length, slice_get, slice_set, Option, Some, None, Result, Ok, Err, if◌then◌else◌, refl, sym, ap, ◌∙◌, subst}
use Rattle.std.specs.List.{list_any}
use Rattle.s3_store.proofs.SectorLists.{slice_get_set_same}
use Rattle.s3_store.specs.declared.stretch.Stretch.{Stretch}
use Rattle.s3_slots.specs.Making.{dropped, made, new_label, put, put_at, put_in, put_over, tracks_of}
use Rattle.s3_slots.specs.Placement.{free_slot, placed}
use Rattle.s3_slots.specs.Slots.{bears, standing}
use Rattle.s3_slots.specs.declared.header.Format.{Format}
use Rattle.s3_slots.specs.declared.label.FileLabel.{FileLabel}
use Rattle.s3_slots.specs.declared.making.LabelFault.{LabelFault}
use Rattle.s3_slots.specs.declared.making.LabelFault.TheVariants.{DamagedLabel, Master, NoSlot, NoSpace, NotFound, Retained}
use Rattle.s3_slots.specs.declared.making.NewFile.{NewFile}
use Rattle.s3_slots.specs.declared.slot.Slot.{Slot}
use Rattle.s3_slots.specs.declared.slot.Slot.TheVariants.{Sound}
use Rattle.s3_slots.specs.declared.slot.Standing.TheVariants.{Absent}
use Rattle.s3_slots.proofs.Judging.{absent_dropped}

-- ---- a file that is made
record IsPutThere (format : Format) (region : Stretch) (new : NewFile) (slots after : List Slot) : Type 0 where
  at : ℕ
  extents : List Stretch
  free : free_slot slots ≡ Some at
  room : placed format region slots (tracks_of new) ≡ Some extents
  is : after ≡ slice_set slots at (Sound (new_label new extents))

put_there : (format : Format) (region : Stretch) (new : NewFile) (slots after : List Slot) → put format region new slots ≡ Ok after → IsPutThere format region new slots after
put_there format region new slots after h = by (free_slot slots) refl h
  where
    there : (at : ℕ) → free_slot slots ≡ Some at → (extents : Option (List Stretch)) → placed format region slots (tracks_of new) ≡ extents → put_in new slots at extents ≡ Ok after → IsPutThere format region new slots after
    there at free None room e = absurd cc
    there at free (Some extents) room e =
        let is : slice_set slots at (Sound (new_label new extents)) ≡ after = cc in
        record { at = at; extents = extents; free = free; room = room; is = sym is }

    by : (at : Option ℕ) → free_slot slots ≡ at → put_at format region new slots at ≡ Ok after → IsPutThere format region new slots after
    by None free e = absurd cc
    by (Some at) free e = there at free (placed format region slots (tracks_of new)) refl e

record IsMadeThere (format : Format) (region : Stretch) (masters : List Slot) (new : NewFile) (slots after : List Slot) : Type 0 where
  unmastered : list_any (bears new.name) masters ≡ false
  put_so : IsPutThere format region new slots after

made_there : (format : Format) (region : Stretch) (masters : List Slot) (new : NewFile) (slots after : List Slot) → standing new.name slots ≡ Absent → made format region masters new slots ≡ Ok after
    → IsMadeThere format region masters new slots after
unfolding made
made_there format region masters new slots after absent h = first (list_any (bears new.name) masters) refl h
  where
    first : (b : Bool) → list_any (bears new.name) masters ≡ b → (if b then Err Master else put_over format region new slots (standing new.name slots)) ≡ Ok after → IsMadeThere format region masters new slots after
    first true is e = absurd cc
    first false is e = record { unmastered = is; put_so = put_there format region new slots after (sym (ap (put_over format region new slots) absent) ∙ e) }

extents_are : (new : NewFile) (extents : List Stretch) → (new_label new extents).extents ≡ extents
unfolding new_label
extents_are new extents = refl

label_same : (a b : FileLabel) → Some (Sound a) ≡ Some (Sound b) → a ≡ b
label_same a b h = cc

place_same : (a b : ℕ) → Some a ≡ Some b → a ≡ b
place_same a b h = cc

-- what a make says of the room that it has taken
pub record HasRoom (format : Format) (region : Stretch) (masters : List Slot) (new : NewFile) (slots : List Slot) (at : ℕ) (extents : List Stretch) : Type 0 where
  pub unmastered : list_any (bears new.name) masters ≡ false
  pub free : free_slot slots ≡ Some at
  pub room : placed format region slots (tracks_of new) ≡ Some extents

pub made_room : (format : Format) (region : Stretch) (masters : List Slot) (new : NewFile) (slots after : List Slot) (at : ℕ) (label : FileLabel) → standing new.name slots ≡ Absent → made format region masters new slots ≡ Ok after
    → at < length slots → free_slot (dropped new.name slots) ≡ Some at → slice_get after at ≡ Some (Sound label) → HasRoom format region masters new slots at label.extents
made_room format region masters new slots after at label absent is within free there =
    let so = made_there format region masters new slots after absent is in
    let here : free_slot slots ≡ Some at = sym (ap free_slot (absent_dropped new.name slots absent)) ∙ free in
    let same : so.put_so.at ≡ at = place_same so.put_so.at at (sym so.put_so.free ∙ here) in
    let got : slice_get after at ≡ Some (Sound (new_label new so.put_so.extents)) =
    ap (λ l. slice_get l at) so.put_so.is ∙ ap (λ i. slice_get (slice_set slots i (Sound (new_label new so.put_so.extents))) at) same ∙ slice_get_set_same slots at (Sound (new_label new so.put_so.extents)) within in
    let label_is : new_label new so.put_so.extents ≡ label = label_same (new_label new so.put_so.extents) label (sym got ∙ there) in
    let extents : so.put_so.extents ≡ label.extents = sym (extents_are new so.put_so.extents) ∙ ap (λ (l : FileLabel). l.extents) label_is in
    record { unmastered = so.unmastered; free = here; room = so.put_so.room ∙ ap Some extents }

-- ---- a file that isn't made
abbrev pub IsUnmade : Format → Stretch → (masters : List Slot) → NewFile → List Slot → LabelFault → Type 0
IsUnmade format region masters new slots Master = list_any (bears new.name) masters ≡ true
IsUnmade format region masters new slots NoSlot = free_slot slots ≡ None
IsUnmade format region masters new slots NoSpace = placed format region slots (tracks_of new) ≡ None
IsUnmade format region masters new slots NotFound = ⊥
IsUnmade format region masters new slots DamagedLabel = ⊥
IsUnmade format region masters new slots Retained = ⊥

abbrev refused_with : LabelFault → Result (List Slot) LabelFault
refused_with fault = Err fault

err_same : (a b : LabelFault) → refused_with a ≡ refused_with b → a ≡ b
err_same a b h = cc

pub made_refused : (format : Format) (region : Stretch) (masters : List Slot) (new : NewFile) (slots : List Slot) (fault : LabelFault) → standing new.name slots ≡ Absent → made format region masters new slots ≡ Err fault
    → IsUnmade format region masters new slots fault
unfolding made
made_refused format region masters new slots fault absent h = first (list_any (bears new.name) masters) refl h
  where
    there : (at : ℕ) (extents : Option (List Stretch)) → placed format region slots (tracks_of new) ≡ extents → put_in new slots at extents ≡ Err fault → IsUnmade format region masters new slots fault
    there at None room e = subst (IsUnmade format region masters new slots) (err_same NoSpace fault e) room
    there at (Some extents) room e = absurd cc

    by : (at : Option ℕ) → free_slot slots ≡ at → put_at format region new slots at ≡ Err fault → IsUnmade format region masters new slots fault
    by None free e = subst (IsUnmade format region masters new slots) (err_same NoSlot fault e) free
    by (Some at) free e = there at (placed format region slots (tracks_of new)) refl e

    first : (b : Bool) → list_any (bears new.name) masters ≡ b → (if b then Err Master else put_over format region new slots (standing new.name slots)) ≡ Err fault → IsUnmade format region masters new slots fault
    first true is e = subst (IsUnmade format region masters new slots) (err_same Master fault e) is
    first false is e = by (free_slot slots) refl (sym (ap (put_over format region new slots) absent) ∙ e)
