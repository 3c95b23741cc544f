-- The sectors of the valid labels of an area.
use Rattle.std.proofs.Common.{◌≡◌, ℕ, List, slice_get, Option, Some, None, refl, ap, sym, ◌∙◌}
use Rattle.std.specs.List.{Contains, position_from}
use Rattle.s3_cards.specs.declared.name.Name.{Name}
use Rattle.s3_cards.proofs.NameLemmas.{same_name-equal}
use Rattle.s3_store.specs.declared.stretch.Stretch.{Stretch}
use Rattle.s3_slots.specs.Inner.Kept.{AreKept}
use Rattle.s3_slots.specs.Labels.{sectors_of}
use Rattle.s3_slots.specs.Slots.{bears, standing}
use Rattle.s3_slots.specs.Stretches.{IsIn}
use Rattle.s3_slots.specs.declared.label.FileLabel.{FileLabel}
use Rattle.s3_slots.specs.declared.slot.Slot.{Slot}
use Rattle.s3_slots.specs.declared.slot.Slot.TheVariants.{Sound}
use Rattle.s3_slots.specs.declared.slot.Standing.TheVariants.{Present}
use Rattle.s3_slots.proofs.Keeping.{formed_parts, extents_inside}
use Rattle.s3_slots.proofs.Makes.{present_at, present_is, present_somewhere}
use Rattle.s3_job_files.proofs.Lists.{found_passes}

label_inside : (region : Stretch) (slots : List Slot) (i : ℕ) (label : FileLabel) (n : ℕ) → AreKept region slots → slice_get slots i ≡ Some (Sound label)
    → Contains (sectors_of label) n → IsIn region n
unfolding sectors_of
label_inside region slots i label n kept there inside = extents_inside region label.extents n (formed_parts region label (kept.formed i label there)).room inside

-- the sectors of a valid label are in the region
pub present_inside : (region : Stretch) (slots : List Slot) (name : Name) (label : FileLabel) (n : ℕ) → AreKept region slots → standing name slots ≡ Present label
    → Contains (sectors_of label) n → IsIn region n
present_inside region slots name label n kept stands inside =
    let at = present_at name slots label stands in
    label_inside region slots at.slot label n kept at.there inside

-- two valid labels that have a sector in common are the same
pub present_apart : (region : Stretch) (slots : List Slot) (name other : Name) (first second : FileLabel) (n : ℕ) → AreKept region slots → standing name slots ≡ Present first
    → standing other slots ≡ Present second → Contains (sectors_of first) n → Contains (sectors_of second) n → first ≡ second
present_apart region slots name other first second n kept one two in_first in_second =
    let a = present_at name slots first one in
    let b = present_at other slots second two in
    let same : a.slot ≡ b.slot = kept.apart a.slot b.slot first second n a.there b.there in_first in_second in
    let both : Some (Sound first) ≡ Some (Sound second) = sym a.there ∙ ap (slice_get slots) same ∙ b.there in
    cc

-- the label that is found for a name has that name
pub present_named : (name : Name) (slots : List Slot) (label : FileLabel) → standing name slots ≡ Present label → label.name ≡ name
present_named name slots label stands = by (position_from (bears name) 0 slots) refl
  where
    by : (place : Option ℕ) → position_from (bears name) 0 slots ≡ place → label.name ≡ name
    by None e = absurd (present_somewhere name slots label stands e)
    by (Some i) e = same_name-equal label.name name (found_passes (bears name) slots i (Sound label) e (present_is name slots label i stands e))
