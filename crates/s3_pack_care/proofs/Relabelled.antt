-- What a written slot leaves of the slots and files of a pack.
use Rattle.std.proofs.Common.{◌≡◌, ◌≢◌, ℕ, zero, suc, ◌+◌, ◌*◌, ◌/◌, ◌%◌, ◌<◌, ◌≤◌, ◌⊎◌, inl, inr, true, List, length, replicate, slice_get, Some, Result, Ok, Err, if◌then◌else◌, refl, sym, ap, ap₂, ◌∙◌, arith}
use Rattle.std.specs.Prelude.{nat_lt}
use Rattle.std.specs.List.{Contains}
use Rattle.s3_store.specs.Bytes.{part}
use Rattle.s3_store.specs.Inner.Bytes.{with_piece}
use Rattle.s3_store.proofs.SectorParts.{piece_other, sector_bytes-same}
use Rattle.s3_store.specs.declared.stretch.Stretch.{Stretch}
use Rattle.s3_slots.specs.Header.{accepted, first_region, format_in, header_by, mounted}
use Rattle.s3_slots.specs.Labels.{sectors_of}
use Rattle.s3_slots.specs.Slots.{labels_at, slot_bytes, slots_of}
use Rattle.s3_slots.specs.Stretches.{IsIn}
use Rattle.s3_slots.specs.declared.header.Format.{Format}
use Rattle.s3_slots.specs.declared.header.Header.{Header}
use Rattle.s3_slots.specs.declared.header.MountFault.{MountFault}
use Rattle.s3_slots.specs.declared.header.MountFault.TheVariants.{Short}
use Rattle.s3_slots.specs.declared.label.FileLabel.{FileLabel}
use Rattle.s3_slots.specs.declared.slot.Slot.TheVariants.{Free, Sound}
use Rattle.s3_slots.proofs.Judging.{slots_kept}
use Rattle.s3_slots.proofs.Keeping.{extents_inside, formed_parts}
use Rattle.s3_labels.proofs.MigratedPacks.{file_same}
use Rattle.s3_labels.proofs.Mounts.{mounted_itself}
use Rattle.s3_labels.proofs.Parts.{others_stay, slot_changed}
use Rattle.s3_labels.proofs.Regions.{accepted_regions}
use Rattle.s3_labels.specs.Inner.Areas.{Areas, areas_on, slots_in}
use Rattle.s3_pack_care.specs.Inner.Kept.{IsMounted, IsOther, IsRelabelled, IsWithout, KeepsFile, alike, slot_on}
use Rattle.s3_pack_care.proofs.Judged.{slot_same, zeros_free}

pub eq_or : (a b : ℕ) → (a ≡ b) ⊎ (a ≢ b)
eq_or zero zero = inl refl
eq_or zero (suc b) = inr (λ e. omega (arith, e))
eq_or (suc a) zero = inr (λ e. omega (arith, e))
eq_or (suc a) (suc b) = elim (eq_or a b) [ inl e ↦ inl (ap suc e) | inr d ↦ inr (λ e. d (omega (arith, e))) ]

-- ---- mounts
pub mounted_same : (old new : List (List ℕ)) → length new ≡ length old → slice_get new 0 ≡ slice_get old 0 → mounted new ≡ mounted old
mounted_same old new count first =
    ap₂ (λ n sector. let r : Result Header MountFault = if nat_lt n first_region then Err Short else accepted n (header_by sector (format_in sector)) in r) count (sector_bytes-same old new 0 first)

-- two mounts of packs with the same header
pub same_header : (before after : Areas) (old new : List (List ℕ)) → IsMounted before old → IsMounted after new → mounted new ≡ mounted old → after.header ≡ before.header
same_header before after old new was is same =
    let one : Ok after.header ≡ mounted old = sym is.mounts ∙ same in
    let both : Ok after.header ≡ Ok before.header = one ∙ was.mounts in
    cc

-- ---- a slot that was written
module _ (area slot at : ℕ) (bytes : List ℕ) (old new : List (List ℕ)) (area_in : area < 3) (slot_in : slot < 32) (room : 25 ≤ length old) (width : length bytes ≡ 64)
    (e : at ≡ slot % 4) (set : new ≡ with_piece old (labels_at area + slot / 4) (at * 64) bytes) where
  there : labels_at area + slot / 4 < length old
  there = omega (arith, area_in, slot_in, room)

  pub own_bytes : slot_bytes area new slot ≡ bytes
  own_bytes = slot_changed area slot at old new bytes there width e {T = Unit {0}} (Ok tt) set

  pub other_sector : (n : ℕ) → n ≢ labels_at area + slot / 4 → slice_get new n ≡ slice_get old n
  other_sector n other = ap (λ contents. slice_get contents n) set ∙ piece_other old (labels_at area + slot / 4) (at * 64) n bytes other

  pub other_bytes : (a i : ℕ) → IsOther area slot a i → slot_bytes a new i ≡ slot_bytes a old i
  other_bytes a i is = elim (eq_or a area) [
    | inl same ↦ rw same (others_stay area slot at old new bytes there width e {T = Unit {0}} (Ok tt) set tt i (λ same_slot. is.other same same_slot))
    | inr differ ↦ ap (λ sector. part sector (i % 4 * 64) 64) (sector_bytes-same old new (labels_at a + i / 4)
        (other_sector (labels_at a + i / 4) (λ same. differ (omega (arith, same, is.slot_in, slot_in)))))
  ]

slot_kept : (header : Header) (old new : List (List ℕ)) (a i : ℕ) → a < 3 → i < 32 → slot_bytes a new i ≡ slot_bytes a old i → alike (slot_on header old a i) (slot_on header new a i) ≡ true
    → slot_on header new a i ≡ slot_on header old a i
slot_kept header old new zero i few small same h = slot_same header.format header.masters 0 i old new small same h
slot_kept header old new (suc zero) i few small same h = slot_same header.format header.level_one 1 i old new small same h
slot_kept header old new (suc (suc zero)) i few small same h = slot_same header.format header.level_two 2 i old new small same h
slot_kept header old new (suc (suc (suc n))) i few small same h = absurd (omega (arith, few))

alike_on : (before after : Areas) (old new : List (List ℕ)) (a i : ℕ) → IsMounted before old → IsMounted after new → after.header ≡ before.header
    → alike (slice_get (slots_in a before) i) (slice_get (slots_in a after) i) ≡ true → alike (slot_on before.header old a i) (slot_on before.header new a i) ≡ true
alike_on before after old new a i was is same h =
    let one : after ≡ areas_on before.header new = is.judged ∙ ap (λ header. areas_on header new) same in
    sym (ap₂ (λ x y. alike (slice_get (slots_in a x) i) (slice_get (slots_in a y) i)) was.judged one) ∙ h

pub relabelled_is : (area slot at : ℕ) (bytes : List ℕ) (before after : Areas) (old new : List (List ℕ)) → area < 3 → slot < 32 → 25 ≤ length old → length bytes ≡ 64 → at ≡ slot % 4
    → new ≡ with_piece old (labels_at area + slot / 4) (at * 64) bytes → length new ≡ length old → IsMounted before old → IsMounted after new
    → ((a i : ℕ) → IsOther area slot a i → alike (slice_get (slots_in a before) i) (slice_get (slots_in a after) i) ≡ true) → IsRelabelled area slot bytes before.header old new
relabelled_is area slot at bytes before after old new area_in slot_in room width e set count was is each =
    let sectors = other_sector area slot at bytes old new area_in slot_in room width e set in
    let mounts : mounted new ≡ mounted old = mounted_same old new count (sectors 0 (λ q. omega (arith, q))) in
    let header = same_header before after old new was is mounts in
    record {
      mounts = mounts ∙ was.mounts;
      own = own_bytes area slot at bytes old new area_in slot_in room width e set;
      labels = other_bytes area slot at bytes old new area_in slot_in room width e set;
      others = λ a i other.
          slot_kept before.header old new a i other.area_in other.slot_in (other_bytes area slot at bytes old new area_in slot_in room width e set a i other)
          (alike_on before after old new a i was is header (each a i other));
      sectors = sectors;
    }

-- ---- files come after the labels
pub in_region : (format : Format) (region : Stretch) (area i : ℕ) (label : FileLabel) (contents : List (List ℕ)) (n : ℕ) → slice_get (slots_of format region area contents) i ≡ Some (Sound label)
    → Contains (sectors_of label) n → IsIn region n
unfolding sectors_of
in_region format region area i label contents n there has = extents_inside region label.extents n (formed_parts region label ((slots_kept format region area contents).formed i label there)).room has

pub file_behind : (header : Header) (contents : List (List ℕ)) (a i : ℕ) (label : FileLabel) (n : ℕ) → mounted contents ≡ Ok header → a < 3 → slot_on header contents a i ≡ Some (Sound label)
    → Contains (sectors_of label) n → 168 ≤ n
file_behind header contents zero i label n mounts few there has =
    omega (arith, (accepted_regions (length contents) header (mounted_itself contents header mounts)).masters.low, (in_region header.format header.masters 0 i label contents n there has).0)
file_behind header contents (suc zero) i label n mounts few there has =
    omega (arith, (accepted_regions (length contents) header (mounted_itself contents header mounts)).level_one.low, (in_region header.format header.level_one 1 i label contents n there has).0)
file_behind header contents (suc (suc zero)) i label n mounts few there has =
    omega (arith, (accepted_regions (length contents) header (mounted_itself contents header mounts)).level_two.low, (in_region header.format header.level_two 2 i label contents n there has).0)
file_behind header contents (suc (suc (suc k))) i label n mounts few there has = absurd (omega (arith, few))

pub file_kept : (area slot : ℕ) (bytes : List ℕ) (header : Header) (old new : List (List ℕ)) → area < 3 → slot < 32 → mounted old ≡ Ok header → IsRelabelled area slot bytes header old new
    → (a i : ℕ) → IsOther area slot a i → KeepsFile header old new a i
file_kept area slot bytes header old new area_in slot_in mounts is a i other = record {
  slot = is.others a i other;
  bytes = λ label there. file_same label new old (λ n has.
      let low = file_behind header old a i label n mounts other.area_in there has in
      sector_bytes-same old new n (is.sectors n (λ e. omega (arith, e, low, area_in, slot_in))));
}

free_on : (header : Header) (contents : List (List ℕ)) (a i : ℕ) → a < 3 → i < 32 → slot_bytes a contents i ≡ replicate 64 0 → slot_on header contents a i ≡ Some Free
free_on header contents zero i few small zeros = zeros_free header.format header.masters 0 i contents small zeros
free_on header contents (suc zero) i few small zeros = zeros_free header.format header.level_one 1 i contents small zeros
free_on header contents (suc (suc zero)) i few small zeros = zeros_free header.format header.level_two 2 i contents small zeros
free_on header contents (suc (suc (suc n))) i few small zeros = absurd (omega (arith, few))

pub without : (area slot : ℕ) (header : Header) (old new : List (List ℕ)) → area < 3 → slot < 32 → mounted old ≡ Ok header → IsRelabelled area slot (replicate 64 0) header old new → IsWithout area slot header old new
without area slot header old new area_in slot_in mounts is = record {
  mounts = is.mounts;
  zeros = is.own;
  free = free_on header new area slot area_in slot_in is.own;
  others = file_kept area slot (replicate 64 0) header old new area_in slot_in mounts is;
}
