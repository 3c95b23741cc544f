-- The files of a pack that is ready, and their bytes.
use Rattle.std.proofs.Common.{◌≡◌, ℕ, zero, suc, ◌*◌, ◌<◌, Bool, true, false, List, [], ◌∷◌, ◌++◌, length, take, drop, slice_get, Some, None, Result, Ok, Err, if◌then◌else◌, refl, sym, ap, ◌∙◌, arith, length-append}
use Rattle.std.specs.List.{flat_map}
use Rattle.s3_cards.specs.declared.levels.LevelId.TheVariants.{One, Two}
use Rattle.s3_store.specs.Bytes.{bytes_at, part, sector_bytes}
use Rattle.s3_store.proofs.SectorParts.{length-sector_bytes}
use Rattle.s3_slots.specs.Inner.Kept.{IsOfPack}
use Rattle.s3_slots.specs.Labels.{sectors_of}
use Rattle.s3_slots.specs.declared.label.FileLabel.{FileLabel}
use Rattle.s3_slots.specs.declared.slot.Slot.TheVariants.{Sound}
use Rattle.s3_slots.proofs.Ranges.{take_all}
use Rattle.s3_labels.specs.Inner.Areas.{Areas, IsReady, slots_in}
use Rattle.s3_labels.proofs.Regions.{accepted_regions, slot_on_pack}
use Rattle.s3_keyed.specs.declared.fault.KeyedFault.{KeyedFault}
use Rattle.s3_keyed.specs.declared.fault.KeyedFault.TheVariants.{BadIndex}
use Rattle.s3_pack_check.specs.Inner.Entries.{first_fault}
use Rattle.s3_pack_check.specs.Inner.Wrongs.{index_cause, is_good}
use Rattle.s3_pack_check.specs.declared.checking.Cause.TheVariants.{Index}

-- the label of a sound slot of an area is one that the pack has
pub area_on_pack : (area : ℕ) (areas : Areas) (contents : List (List ℕ)) (i : ℕ) (label : FileLabel) → area < 3 → slice_get (slots_in area areas) i ≡ Some (Sound label) → IsReady areas contents
    → IsOfPack (length contents) label
area_on_pack zero areas contents i label few there ready = record {
  region = areas.header.masters;
  within = (accepted_regions (length contents) areas.header ready.header).masters.high;
  few = ready.few;
  formed = ready.masters.formed i label there;
}
area_on_pack (suc zero) areas contents i label few there ready = slot_on_pack One areas contents i label there ready
area_on_pack (suc (suc zero)) areas contents i label few there ready = slot_on_pack Two areas contents i label there ready
area_on_pack (suc (suc (suc n))) areas contents i label few there ready = absurd (omega (arith, few))

length_each : (contents : List (List ℕ)) (sectors : List ℕ) → length (flat_map (sector_bytes contents) sectors) ≡ 256 * length sectors
length_each contents [] = refl
length_each contents (n ∷ sectors) =
    let e = length_each contents sectors in
    let f = length-sector_bytes contents n in
    length-append (sector_bytes contents n) (flat_map (sector_bytes contents) sectors) ∙ omega (arith, e, f)

pub length_bytes : (contents : List (List ℕ)) (sectors : List ℕ) → length (bytes_at sectors contents) ≡ 256 * length sectors
unfolding bytes_at
length_bytes contents sectors = length_each contents sectors

append_none : (xs : List ℕ) → xs ++ [] ≡ xs
append_none [] = refl
append_none (x ∷ xs) = ap (λ l. x ∷ l) (append_none xs)

-- a part from the first byte to the last is all
pub whole_part : (bytes : List ℕ) (n : ℕ) → length bytes ≡ n → part bytes 0 n ≡ bytes
whole_part bytes n h = sym (ap (take n) (append_none bytes)) ∙ take_all n bytes [] h

abbrev answer : Bool → Result (Unit {0}) KeyedFault
answer good = if good then Ok tt else Err BadIndex

good_if : (good : Bool) → answer good ≡ Ok tt → good ≡ true
good_if true h = refl
good_if false h = absurd cc

pub no_cause : (label : FileLabel) (contents : List (List ℕ)) → answer (is_good label contents) ≡ Ok tt → index_cause label contents ≡ None
no_cause label contents h = ap (λ good. if good then None else Some (Index (first_fault label (bytes_at (sectors_of label) contents)))) (good_if (is_good label contents) h)

-- a Vec of as many bytes as a file has, once these were read into it
pub filled : (of sectors : List ℕ) (contents : List (List ℕ)) (items new : List ℕ) (len w : ℕ) → of ≡ sectors → new ≡ part (bytes_at of contents) 0 w → w ≡ 256 * length sectors → len ≡ w
    → take len (new ++ drop (length new) items) ≡ bytes_at sectors contents
filled of sectors contents items new len w same is wide long =
    let whole : new ≡ bytes_at sectors contents =
    is ∙ ap (λ s. part (bytes_at s contents) 0 w) same ∙ whole_part (bytes_at sectors contents) w (length_bytes contents sectors ∙ sym wide) in
    take_all len new (drop (length new) items) (ap length whole ∙ length_bytes contents sectors ∙ sym wide ∙ sym long) ∙ whole
