-- A new pack from an old one has the files of its level 1 as masters, byte for byte.
use Rattle.std.proofs.Common.{◌≡◌, ℕ, zero, suc, ◌+◌, ◌-◌, ◌*◌, ◌/◌, ◌%◌, ◌<◌, ◌≤◌, Bool, true, false, not, List, [], ◌∷◌, ◌++◌, length, map, take, drop, replicate, slice_get, Some, None, Ok, Err, if◌then◌else◌, refl, sym, ap, ap₂, ◌∙◌, arith, append_assoc, length-append}
use Rattle.std.specs.Prelude.{nat_lt}
use Rattle.std.specs.Simd.{first_chunks}
use Rattle.std.specs.List.{flat_map, list_all, list_any, position_from, range_with_len}
use Rattle.std.proofs.lemmas.Bool.{and_parts, cond-false, cond-true, false_from_ne_true, ltb-false}
use Rattle.std.proofs.lemmas.Grind.{flat_map-append}
use Rattle.std.proofs.lemmas.List.{drop_at, take_at}
use Rattle.s3_store.specs.Bytes.{sector_bytes, part, bytes_at}
use Rattle.s3_store.specs.Stretches.{sectors_in}
use Rattle.s3_store.specs.declared.stretch.Stretch.{Stretch}
use Rattle.s3_slots.specs.Header.{are_quotas, mounted}
use Rattle.s3_slots.specs.Labels.{file_bytes, sectors_of}
use Rattle.s3_cards.proofs.NameLemmas.{same_name-equal, same_name-self}
use Rattle.s3_slots.specs.Inner.Kept.{AreKept}
use Rattle.s3_slots.specs.Slots.{bears, is_damaged_under, is_extent, slot_at, standing, standing_with, judged, judged_behind, slot_bytes, slots_of}
use Rattle.s3_slots.specs.declared.header.Format.{Format}
use Rattle.s3_slots.specs.declared.header.Format.TheVariants.{Second}
use Rattle.s3_slots.specs.declared.header.Header.{Header}
use Rattle.s3_slots.specs.declared.label.FileLabel.{FileLabel}
use Rattle.s3_slots.specs.declared.slot.Slot.{Slot}
use Rattle.s3_slots.specs.declared.slot.Slot.TheVariants.{Damaged, Free, Sound}
use Rattle.s3_slots.specs.declared.slot.Standing.TheVariants.{Present}
use Rattle.s3_slots.proofs.Judging.{slots_kept}
use Rattle.s3_labels.specs.Inner.Areas.{Areas, areas_on}
use Rattle.s3_labels.specs.Inner.Images.{Masters, image_bytes, image_from, image_of, image_with_masters, master_bytes, master_slot, masters_from, moved, moved_label, new_areas, new_header, no_masters, regions_from, regions_of, with_free}
use Rattle.s3_labels.specs.Contents.{contents_of}
use Rattle.s3_labels.specs.declared.fault.ImageFault.TheVariants.{BadQuota, TooLarge}
use Rattle.s3_labels.proofs.Moved.{room_parts, within_parts}
use Rattle.s3_labels.proofs.NewPacks.{IsNewPack, empty_area, header_sector, masters_judged, new_bytes, new_mounted, region_here}
use Rattle.s3_labels.proofs.NewSlots.{AreJudged, labels_long, master_part, parts_few, slots_judged}
use Rattle.s3_labels.proofs.Parts.{sector_length}
use Rattle.s3_labels.proofs.Regions.{IsRegion, mounted_region}
use Rattle.s3_labels.proofs.Sectors.{drop_drop, part_length, short_take}

-- ---- the bytes of a region
joined_long : (f : ℕ → List ℕ) → ((n : ℕ) → length (f n) ≡ 256) → (start n : ℕ) → length (flat_map f (range_with_len start n)) ≡ 256 * n
joined_long f long start zero = refl
joined_long f long start (suc n) = omega (arith, length-append (f start) (flat_map f (range_with_len (start + 1) n)), long start, joined_long f long (start + 1) n)

part_of_joined : (f : ℕ → List ℕ) → ((n : ℕ) → length (f n) ≡ 256) → (start n i : ℕ) (tail : List ℕ) → i < n → part (flat_map f (range_with_len start n) ++ tail) (256 * i) 256 ≡ f (start + i)
part_of_joined f long start zero i tail h = absurd (omega (arith, h))
part_of_joined f long start (suc n) zero tail h =
    let e : start ≡ start + 0 = omega arith in
    let rest : List ℕ = flat_map f (range_with_len (start + 1) n) in
    ap (take 256) (append_assoc (f start) rest tail) ∙ take_at (f start) (rest ++ tail) 256 (long start) ∙ ap f e
part_of_joined f long start (suc n) (suc i) tail h =
    let e : 256 * suc i ≡ 256 + 256 * i = omega arith in
    let k : start + 1 + i ≡ start + suc i = omega arith in
    let rest : List ℕ = flat_map f (range_with_len (start + 1) n) in
    ap (λ m. part ((f start ++ rest) ++ tail) m 256) e
    ∙ ap (take 256) (sym (drop_drop (256 * i) 256 ((f start ++ rest) ++ tail)))
    ∙ ap (λ l. take 256 (drop (256 * i) l)) (ap (drop 256) (append_assoc (f start) rest tail) ∙ drop_at (f start) (rest ++ tail) 256 (long start))
    ∙ part_of_joined f long (start + 1) n i tail (omega (arith, h)) ∙ ap f k

shifted : (f g : ℕ → List ℕ) (a b n : ℕ) → ((i : ℕ) → i < n → f (a + i) ≡ g (b + i)) → flat_map f (range_with_len a n) ≡ flat_map g (range_with_len b n)
shifted f g a b zero each = refl
shifted f g a b (suc n) each =
    let e : a ≡ a + 0 = omega arith in
    let k : b + 0 ≡ b = omega arith in
    ap₂ (λ x y. x ++ y) (ap f e ∙ each 0 (omega arith) ∙ ap g k) (shifted f g (a + 1) (b + 1) n (λ i h. ap f (on a i) ∙ each (suc i) (omega (arith, h)) ∙ ap g (sym (on b i))))
  where
    on : (a i : ℕ) → a + 1 + i ≡ a + suc i
    on a i = omega arith

-- the sectors of extents, each as far into a copy of its region
moved_joined : (f g : ℕ → List ℕ) (region : Stretch) (extents : List Stretch) → ((i : ℕ) → i < region.sectors → f (168 + i) ≡ g (region.start + i)) → list_all (is_extent region) extents ≡ true
    → flat_map f (sectors_in (map (moved region) extents)) ≡ flat_map g (sectors_in extents)
moved_joined f g region [] each h = refl
moved_joined f g region (extent ∷ extents) each h =
    let parts = and_parts (is_extent region extent) (list_all (is_extent region) extents) h in
    let is = within_parts region extent parts.0 in
    let far : ℕ = extent.start - region.start in
    let one : flat_map f (range_with_len (extent.start - region.start + 168) extent.sectors) ≡ flat_map g (range_with_len extent.start extent.sectors) =
    shifted f g (extent.start - region.start + 168) extent.start extent.sectors (λ i within.
    let e : extent.start - region.start + 168 + i ≡ 168 + (extent.start - region.start + i) = omega arith in
    let k : region.start + (extent.start - region.start + i) ≡ extent.start + i = omega (arith, is.low) in
    ap f e ∙ each (extent.start - region.start + i) (omega (arith, is.low, is.high, within)) ∙ ap g k) in
    flat_map-append f (range_with_len (extent.start - region.start + 168) extent.sectors) (sectors_in (map (moved region) extents))
    ∙ ap₂ (λ x y. x ++ y) one (moved_joined f g region extents each parts.1)
    ∙ sym (flat_map-append g (range_with_len extent.start extent.sectors) (sectors_in extents))

-- ---- which slots an old pack has
each_long : (f : ℕ → List ℕ) (a n i : ℕ) (bytes : List ℕ) → ((k : ℕ) → length (f k) ≡ 64) → slice_get (map f (range_with_len a n)) i ≡ Some bytes → length bytes ≡ 64
each_long f a zero i bytes long h = absurd cc
each_long f a (suc n) zero bytes long h = let same : f a ≡ bytes = cc in ap length (sym same) ∙ long a
each_long f a (suc n) (suc i) bytes long h = each_long f (a + 1) n i bytes long h

slot_long : (area : ℕ) (contents : List (List ℕ)) (i : ℕ) → length (slot_bytes area contents i) ≡ 64
slot_long area contents i = let n : ℕ = 1 + 8 * area + i / 4 in let e = sector_length contents n in part_length (sector_bytes contents n) (i % 4 * 64) 64 (omega (arith, e))

all_judged : (format : Format) (region : Stretch) (area : ℕ) (contents : List (List ℕ)) → AreJudged region [] (slots_of format region area contents)
unfolding slots_of
all_judged format region area contents = slots_judged format region (map (slot_bytes area contents) (range_with_len 0 32)) (λ i bytes there. each_long (slot_bytes area contents) 0 32 i bytes (slot_long area contents) there)

judged_length : (format : Format) (region : Stretch) (earlier : List Slot) (more : List (List ℕ)) → length (judged_behind format region earlier more) ≡ length earlier + length more
judged_length format region earlier [] = omega arith
judged_length format region earlier (bytes ∷ more) =
    let slot : Slot = judged format region earlier bytes in
    omega (arith, judged_length format region (earlier ++ slot ∷ []) more, length-append earlier (slot ∷ []))

slots_32 : (format : Format) (region : Stretch) (area : ℕ) (contents : List (List ℕ)) → length (slots_of format region area contents) ≡ 32
unfolding slots_of
slots_32 format region area contents = judged_length format region [] (map (slot_bytes area contents) (range_with_len 0 32))

-- ---- the slot of a name
first_at : (p : Slot → Bool) (xs : List Slot) (k i : ℕ) (x : Slot) → slice_get xs i ≡ Some x → p x ≡ true → ((j : ℕ) (y : Slot) → slice_get xs j ≡ Some y → p y ≡ true → j ≡ i) → position_from p k xs ≡ Some (k + i)
first_at p [] k i x there passes only = absurd cc
first_at p (y ∷ xs) k zero x there passes only =
    let same : y ≡ x = cc in
    let e : k ≡ k + zero = omega arith in
    cond-true (p y) (Some k) (position_from p (k + 1) xs) (ap p same ∙ passes) ∙ ap Some e
first_at p (y ∷ xs) k (suc i) x there passes only =
    let e : k + 1 + i ≡ k + suc i = omega arith in
    cond-false (p y) (Some k) (position_from p (k + 1) xs) (false_from_ne_true (p y) (λ h. none (only 0 y refl h)))
    ∙ first_at p xs (k + 1) i x there passes (λ j z at h. less j (only (suc j) z at h)) ∙ ap Some e
  where
    none : 0 ≡ suc i → ⊥
    none h = omega (arith, h)

    less : (j : ℕ) → suc j ≡ suc i → j ≡ i
    less j h = omega (arith, h)

stands_alone : (region : Stretch) (slots : List Slot) (i : ℕ) (label : FileLabel) → AreKept region slots → slice_get slots i ≡ Some (Sound label) → standing label.name slots ≡ Present label
unfolding standing
stands_alone region slots i label kept there =
    let first = first_at (bears label.name) slots 0 i (Sound label) there (same_name-self label.name) only in
    let e : 0 + i ≡ i = omega arith in
    ap (λ place. standing_with (list_any (is_damaged_under label.name) slots) (slot_at slots place)) (first ∙ ap Some e) ∙ ap (standing_with (list_any (is_damaged_under label.name) slots)) there
  where
    only : (j : ℕ) (slot : Slot) → slice_get slots j ≡ Some slot → bears label.name slot ≡ true → j ≡ i
    only j Free at h = absurd cc
    only j (Damaged name) at h = absurd cc
    only j (Sound other) at h = kept.named j i other label at there (same_name-equal other.name label.name h)

record IsAmong (slots : List Slot) (label : FileLabel) : Type 0 where
  place : ℕ
  there : slice_get slots place ≡ Some (Sound label)

further : (slot : Slot) (slots : List Slot) (label : FileLabel) → IsAmong slots label → IsAmong (slot ∷ slots) label
further slot slots label is = record { place = suc is.place; there = is.there }

among : (region : Stretch) (slots more : List Slot) (i : ℕ) (label : FileLabel) → slice_get slots i ≡ Some (Sound label) → IsAmong (flat_map (master_slot region) slots ++ more) (moved_label region label)
among region [] more i label there = absurd cc
among region (Free ∷ slots) more zero label there = absurd cc
among region (Damaged name ∷ slots) more zero label there = absurd cc
among region (Sound other ∷ slots) more zero label there = let same : other ≡ label = cc in record { place = 0; there = ap (λ (l : FileLabel). Some (Sound (moved_label region l))) same }
among region (Free ∷ slots) more (suc i) label there = among region slots more i label there
among region (Damaged name ∷ slots) more (suc i) label there = among region slots more i label there
among region (Sound other ∷ slots) more (suc i) label there = further (Sound (moved_label region other)) (flat_map (master_slot region) slots ++ more) (moved_label region label) (among region slots more i label there)

pub stands_moved : (region within : Stretch) (slots new : List Slot) (i : ℕ) (label : FileLabel) → AreKept within new → new ≡ with_free (flat_map (master_slot region) slots) → slice_get slots i ≡ Some (Sound label)
    → standing label.name new ≡ Present (moved_label region label)
stands_moved region within slots new i label kept is there =
    let at = among region slots (replicate (32 - length (flat_map (master_slot region) slots)) Free) i label there in
    stands_alone within new at.place (moved_label region label) kept (ap (λ l. slice_get l at.place) is ∙ at.there)

-- ---- a new pack
image_made : (masters : Masters) (m one two q r : ℕ) (bytes : List ℕ) → image_with_masters masters (new_header m one two q r) ≡ Ok bytes
    → (are_quotas q r ≡ true) × (m + one + two ≤ 2723) × (bytes ≡ image_of (regions_of m one two q r) masters)
image_made masters m one two q r bytes h = by (are_quotas q r) (nat_lt 2723 (m + one + two)) refl refl h
  where
    by : (quotas large : Bool) → are_quotas q r ≡ quotas → nat_lt 2723 (m + one + two) ≡ large
        → image_with_masters masters (if not quotas then Err BadQuota else (if large then Err TooLarge else Ok (regions_of m one two q r))) ≡ Ok bytes
        → (are_quotas q r ≡ true) × (m + one + two ≤ 2723) × (bytes ≡ image_of (regions_of m one two q r) masters)
    by false large a b h = absurd cc
    by true true a b h = absurd cc
    by true false a b h = let same : image_of (regions_of m one two q r) masters ≡ bytes = cc in (a, ltb-false 2723 (m + one + two) b, sym same)

few_sectors : (bytes : List ℕ) → length (contents_of bytes) ≤ 65535
few_sectors bytes = short_take 65535 (first_chunks 256 (length bytes / 256) bytes)

-- ---- an empty one
empty_pack : (m one two q r : ℕ) → IsNewPack (image_of (regions_of m one two q r) no_masters) (header_sector (regions_of m one two q r)) [] [] 0 (168 + 24 * (m + one + two))
empty_pack m one two q r = new_bytes (regions_of m one two q r) no_masters 0 0 refl (omega arith) (omega arith) (omega arith)

pub empty_mounted : (bytes : List ℕ) (m one two q r : ℕ) → image_bytes None m one two q r ≡ Ok bytes → mounted (contents_of bytes) ≡ Ok (regions_of m one two q r)
empty_mounted bytes m one two q r h =
    let is = image_made no_masters m one two q r bytes h in
    rw is.2 (new_mounted (image_of (regions_of m one two q r) no_masters) [] [] 0 m one two q r is.1 is.0 (empty_pack m one two q r))

pub empty_areas : (bytes : List ℕ) (m one two q r : ℕ) → image_bytes None m one two q r ≡ Ok bytes → areas_on (regions_of m one two q r) (contents_of bytes) ≡ new_areas (regions_of m one two q r) []
empty_areas bytes m one two q r h =
    let is = image_made no_masters m one two q r bytes h in
    let header : Header = regions_of m one two q r in
    let pack : List ℕ = image_of (regions_of m one two q r) no_masters in
    let most : 168 + 24 * (m + one + two) ≤ 65535 = omega (arith, is.1) in
    let each : (within : Stretch) (area : ℕ) → area < 3 → slots_of Second within area (contents_of pack) ≡ replicate 32 Free =
    λ within area few. empty_area pack (header_sector header) [] [] 0 (168 + 24 * (m + one + two)) (empty_pack m one two q r) most within area few (omega arith) in
    let all : areas_on header (contents_of pack) ≡ new_areas header [] = rw (each header.masters 0 (omega arith), each header.level_one 1 (omega arith), each header.level_two 2 (omega arith)) refl in
    ap (λ l. areas_on (regions_of m one two q r) (contents_of l)) is.2 ∙ all

-- ---- one from an old pack
image_from_old : (old : List ℕ) (from : Header) (tracks one two q r : ℕ) (bytes : List ℕ) → mounted (contents_of old) ≡ Ok from → image_bytes (Some old) tracks one two q r ≡ Ok bytes
    → (are_quotas q r ≡ true) × (from.level_one.sectors / 24 + one + two ≤ 2723) × (bytes ≡ image_of (regions_from from one two q r) (masters_from from (contents_of old)))
image_from_old old from tracks one two q r bytes m h =
    image_made (masters_from from (contents_of old)) (from.level_one.sectors / 24) one two q r bytes (sym (ap (λ outcome. image_from (contents_of old) outcome one two q r) m) ∙ h)

module _ (old : List ℕ) (from : Header) (one two q r : ℕ) (m : mounted (contents_of old) ≡ Ok from) (few : from.level_one.sectors / 24 + one + two ≤ 2723) where
  abbrev header : Header
  header = regions_from from one two q r

  abbrev slots : List Slot
  slots = slots_of from.format from.level_one 1 (contents_of old)

  abbrev pack : List ℕ
  pack = image_of header (masters_from from (contents_of old))

  abbrev region : List ℕ
  region = bytes_at (range_with_len from.level_one.start from.level_one.sectors) (contents_of old)

  abbrev names : List ℕ
  names = flat_map (master_bytes from.level_one) slots

  abbrev used : ℕ
  used = length (flat_map (master_part from.level_one) slots)

  abbrev total : ℕ
  total = 168 + 24 * (from.level_one.sectors / 24 + one + two)

  most : total ≤ 65535
  most = omega (arith, few)

  region_is : IsRegion (length (contents_of old)) from.level_one
  region_is = mounted_region from (contents_of old) m

  is_new : IsNewPack pack (header_sector header) names region used total
  unfolding masters_from bytes_at
  is_new =
      new_bytes header (masters_from from (contents_of old)) used from.level_one.sectors
      (labels_long from.level_one [] slots (all_judged from.format from.level_one 1 (contents_of old)))
      (omega (arith, parts_few from.level_one slots, slots_32 from.format from.level_one 1 (contents_of old)))
      (omega (arith, joined_long (sector_bytes (contents_of old)) (sector_length (contents_of old)) from.level_one.start from.level_one.sectors))
      (omega (arith, region_is.whole.1))

  from_mounted : are_quotas q r ≡ true → mounted (contents_of pack) ≡ Ok header
  from_mounted quotas = new_mounted pack names region used (from.level_one.sectors / 24) one two q r few quotas is_new

  from_areas : areas_on header (contents_of pack) ≡ new_areas header (flat_map (master_slot from.level_one) slots)
  from_areas =
      let masters = masters_judged pack (header_sector header) region total from.level_one slots most is_new (length (contents_of old)) region_is (few_sectors old) (all_judged from.format from.level_one 1 (contents_of old)) in
      let each : (within : Stretch) (area : ℕ) → 1 ≤ area → area < 3 → slots_of Second within area (contents_of pack) ≡ replicate 32 Free =
      λ within area some small. empty_area pack (header_sector header) names region used total is_new most within area small (omega (arith, some, is_new.few)) in
      rw (masters, each header.level_one 1 (omega arith) (omega arith), each header.level_two 2 (omega arith) (omega arith)) refl

  sector_from : (n : ℕ) → n < from.level_one.sectors → sector_bytes (contents_of pack) (168 + n) ≡ sector_bytes (contents_of old) (from.level_one.start + n)
  unfolding bytes_at
  sector_from n h =
      region_here pack (header_sector header) names region used total is_new most n (omega (arith, h, region_is.whole.1))
      ∙ part_of_joined (sector_bytes (contents_of old)) (sector_length (contents_of old)) from.level_one.start from.level_one.sectors n (replicate is_new.more 0) h

  from_files : (i : ℕ) (label : FileLabel) → slice_get slots i ≡ Some (Sound label) → file_bytes (moved_label from.level_one label) (contents_of pack) ≡ file_bytes label (contents_of old)
  unfolding file_bytes sectors_of bytes_at
  from_files i label there =
      moved_joined (sector_bytes (contents_of pack)) (sector_bytes (contents_of old)) from.level_one label.extents sector_from
      (room_parts from.level_one label ((slots_kept from.format from.level_one 1 (contents_of old)).formed i label there)).1

-- ---- any new pack from an old one
pub new_header_is : (old new : List ℕ) (from : Header) (tracks one two q r : ℕ) → mounted (contents_of old) ≡ Ok from → image_bytes (Some old) tracks one two q r ≡ Ok new
    → mounted (contents_of new) ≡ Ok (regions_from from one two q r)
new_header_is old new from tracks one two q r m h =
    let is = image_from_old old from tracks one two q r new m h in
    ap (λ l. mounted (contents_of l)) is.2 ∙ from_mounted old from one two q r m is.1 is.0

pub new_areas_are : (old new : List ℕ) (from : Header) (tracks one two q r : ℕ) → mounted (contents_of old) ≡ Ok from → image_bytes (Some old) tracks one two q r ≡ Ok new
    → areas_on (regions_from from one two q r) (contents_of new)
    ≡ new_areas (regions_from from one two q r) (flat_map (master_slot from.level_one) (areas_on from (contents_of old)).level_one)
new_areas_are old new from tracks one two q r m h =
    let is = image_from_old old from tracks one two q r new m h in
    ap (λ l. areas_on (regions_from from one two q r) (contents_of l)) is.2 ∙ from_areas old from one two q r m is.1

pub new_masters_stand : (old new : List ℕ) (from : Header) (tracks one two q r i : ℕ) (label : FileLabel) → mounted (contents_of old) ≡ Ok from → image_bytes (Some old) tracks one two q r ≡ Ok new
    → slice_get (areas_on from (contents_of old)).level_one i ≡ Some (Sound label)
    → standing label.name (areas_on (regions_from from one two q r) (contents_of new)).masters ≡ Present (moved_label from.level_one label)
new_masters_stand old new from tracks one two q r i label m h there =
    let header : Header = regions_from from one two q r in
    let areas = new_areas_are old new from tracks one two q r m h in
    stands_moved from.level_one header.masters (slots_of from.format from.level_one 1 (contents_of old)) (slots_of Second header.masters 0 (contents_of new)) i label
    (slots_kept Second header.masters 0 (contents_of new)) (ap (λ (a : Areas). a.masters) areas) there

pub new_files_are : (old new : List ℕ) (from : Header) (tracks one two q r i : ℕ) (label : FileLabel) → mounted (contents_of old) ≡ Ok from → image_bytes (Some old) tracks one two q r ≡ Ok new
    → slice_get (areas_on from (contents_of old)).level_one i ≡ Some (Sound label) → file_bytes (moved_label from.level_one label) (contents_of new) ≡ file_bytes label (contents_of old)
new_files_are old new from tracks one two q r i label m h there =
    let is = image_from_old old from tracks one two q r new m h in
    ap (λ l. file_bytes (moved_label from.level_one label) (contents_of l)) is.2 ∙ from_files old from one two q r m is.1 i label there
