-- A valid label of level 1 is valid as a master's, if its region is moved to the first sectors after the spool blocks.
use Rattle.std.proofs.Common.{◌≡◌, ℕ, zero, suc, ◌+◌, ◌-◌, ◌*◌, ◌/◌, ◌%◌, ◌^◌, ◌<◌, ◌≤◌, ◌==◌, ◌&&◌, ◌||◌, true, false, nat_le, not, List, [], ◌∷◌, length, map, slice_get, Some, refl, sym, ap, ap₂, ◌∙◌, arith, inl, inr}
use Rattle.std.specs.List.{flat_map, list_all, list_any, sum_by}
use Rattle.std.proofs.lemmas.Bool.{and_parts, and_from, cases_Bool, le-leb, leb-true, eqb-true, eq-eqb, both_ways, false_from_ne_true, ne_eqb, and_right}
use Rattle.std.proofs.lemmas.List.{length-map}
use Rattle.std.proofs.lemmas.List.Sums.{sum_by-cons}
use Rattle.std.proofs.Math.Nat.{mul-le-mul}
use Rattle.s3_cards.specs.declared.name.Name.{Name}
use Rattle.s3_cards.specs.Names.{is_name}
use Rattle.s3_store.specs.Stretches.{end_of}
use Rattle.s3_store.specs.declared.stretch.Stretch.{Stretch}
use Rattle.s3_slots.specs.Inner.Labels.{extent_at, IsWritable}
use Rattle.s3_slots.specs.Labels.{is_unused}
use Rattle.s3_slots.specs.Stretches.{is_apart, is_apart_from_all, are_apart, is_inside}
use Rattle.s3_slots.specs.Slots.{bears, is_clear, is_disentangled, is_extent, is_key_of, is_count_of, is_sound, is_well_formed, record_sectors, sectors_needed}
use Rattle.s3_slots.specs.declared.label.FileLabel.{FileLabel}
use Rattle.s3_slots.specs.declared.label.Organization.{Organization}
use Rattle.s3_slots.specs.declared.label.Organization.TheVariants.{Direct, Indexed, Sequential}
use Rattle.s3_slots.specs.declared.slot.Slot.{Slot}
use Rattle.s3_slots.specs.declared.slot.Slot.TheVariants.{Damaged, Free, Sound}
use Rattle.s3_slots.proofs.Keeping.{formed_parts, formed_from}
use Rattle.s3_labels.specs.Inner.Images.{master_slot, moved, moved_label}
use Rattle.s3_labels.proofs.Regions.{IsRegion}

-- ---- an extent
pub record IsWithin (region extent : Stretch) : Type 0 where
  pub start : extent.start % 24 ≡ 0
  pub sectors : extent.sectors % 24 ≡ 0
  pub some : 24 ≤ extent.sectors
  pub low : region.start ≤ extent.start
  pub high : end_of extent ≤ end_of region

pub within_parts : (region extent : Stretch) → is_extent region extent ≡ true → IsWithin region extent
within_parts region extent h =
    let a = and_parts ((extent.start % 24 == 0) && (extent.sectors % 24 == 0) && nat_le 24 extent.sectors) (is_inside region extent) h in
    let b = and_parts ((extent.start % 24 == 0) && (extent.sectors % 24 == 0)) (nat_le 24 extent.sectors) a.0 in
    let c = and_parts (extent.start % 24 == 0) (extent.sectors % 24 == 0) b.0 in
    let d = and_parts (nat_le region.start extent.start) (nat_le (end_of extent) (end_of region)) a.1 in
    record {
      start = eqb-true (extent.start % 24) 0 c.0;
      sectors = eqb-true (extent.sectors % 24) 0 c.1;
      some = leb-true 24 extent.sectors b.1;
      low = leb-true region.start extent.start d.0;
      high = leb-true (end_of extent) (end_of region) d.1;
    }

within_from : (region extent : Stretch) → IsWithin region extent → is_extent region extent ≡ true
within_from region extent is =
    and_from ((extent.start % 24 == 0) && (extent.sectors % 24 == 0) && nat_le 24 extent.sectors) (is_inside region extent)
    (and_from ((extent.start % 24 == 0) && (extent.sectors % 24 == 0)) (nat_le 24 extent.sectors)
    (and_from (extent.start % 24 == 0) (extent.sectors % 24 == 0) (eq-eqb (extent.start % 24) 0 is.start) (eq-eqb (extent.sectors % 24) 0 is.sectors)) (le-leb 24 extent.sectors is.some))
    (and_from (nat_le region.start extent.start) (nat_le (end_of extent) (end_of region)) (le-leb region.start extent.start is.low) (le-leb (end_of extent) (end_of region) is.high))

same_le : (a b c d : ℕ) → (a ≤ b → c ≤ d) → (c ≤ d → a ≤ b) → nat_le a b ≡ nat_le c d
same_le a b c d to from = elim (cases_Bool (nat_le a b)) [
  | inl yes_so ↦ yes_so ∙ sym (le-leb c d (to (leb-true a b yes_so)))
  | inr not_so ↦ not_so ∙ sym (false_from_ne_true (nat_le c d) (λ e. both_ways (nat_le a b) not_so (le-leb a b (from (leb-true c d e)))))
]

-- ---- extents of a region that is moved
module _ (region : Stretch) where
  abbrev pub target : Stretch
  target = record { start = 168; sectors = 24 * (region.sectors / 24) }

  moved_within : (sectors : ℕ) (extent : Stretch) → IsRegion sectors region → is_extent region extent ≡ true → is_extent target (moved region extent) ≡ true
  moved_within sectors extent is h =
      let e = within_parts region extent h in
      within_from target (moved region extent) (record {
        start = omega (arith, e.start, e.low, is.whole.0);
        sectors = e.sectors;
        some = e.some;
        low = omega arith;
        high = omega (arith, e.low, e.high, is.whole.1);
      })

  moved_apart : (a b : Stretch) → region.start ≤ a.start → region.start ≤ b.start → is_apart (moved region a) (moved region b) ≡ is_apart a b
  moved_apart a b low under =
      ap₂ (λ x y. (a.sectors == 0) || (b.sectors == 0) || x || y)
      (same_le (end_of (moved region a)) (b.start - region.start + 168) (end_of a) b.start (λ e. omega (arith, e, low, under)) (λ e. omega (arith, e, low, under)))
      (same_le (end_of (moved region b)) (a.start - region.start + 168) (end_of b) a.start (λ e. omega (arith, e, low, under)) (λ e. omega (arith, e, low, under)))

  moved_apart_from_all : (a : Stretch) (others : List Stretch) → region.start ≤ a.start → list_all (is_extent region) others ≡ true
      → is_apart_from_all (moved region a) (map (moved region) others) ≡ is_apart_from_all a others
  moved_apart_from_all a [] low h = refl
  moved_apart_from_all a (b ∷ others) low h =
      let parts = and_parts (is_extent region b) (list_all (is_extent region) others) h in
      ap₂ (λ x y. x && y) (moved_apart a b low (within_parts region b parts.0).low) (moved_apart_from_all a others low parts.1)

  moved_are_apart : (extents : List Stretch) → list_all (is_extent region) extents ≡ true → are_apart (map (moved region) extents) ≡ are_apart extents
  moved_are_apart [] h = refl
  moved_are_apart (a ∷ extents) h =
      let parts = and_parts (is_extent region a) (list_all (is_extent region) extents) h in
      ap₂ (λ x y. x && y) (moved_apart_from_all a extents (within_parts region a parts.0).low parts.1) (moved_are_apart extents parts.1)

  moved_all_within : (sectors : ℕ) (extents : List Stretch) → IsRegion sectors region → list_all (is_extent region) extents ≡ true → list_all (is_extent target) (map (moved region) extents) ≡ true
  moved_all_within sectors [] is h = refl
  moved_all_within sectors (a ∷ extents) is h =
      let parts = and_parts (is_extent region a) (list_all (is_extent region) extents) h in
      and_from (is_extent target (moved region a)) (list_all (is_extent target) (map (moved region) extents)) (moved_within sectors a is parts.0) (moved_all_within sectors extents is parts.1)

  moved_sum : (extents : List Stretch) → sum_by (λ extent. extent.sectors) (map (moved region) extents) ≡ sum_by (λ extent. extent.sectors) extents
  moved_sum [] = refl
  moved_sum (a ∷ extents) =
      sum_by-cons (λ (extent : Stretch). extent.sectors) (moved region a) (map (moved region) extents)
      ∙ ap (λ n. a.sectors + n) (moved_sum extents) ∙ sym (sum_by-cons (λ (extent : Stretch). extent.sectors) a extents)

-- a label's extents are all in its region
pub room_parts : (region : Stretch) (label : FileLabel) → is_well_formed region label ≡ true → (nat_le 1 (length label.extents) ≡ true) × (list_all (is_extent region) label.extents ≡ true) × (are_apart label.extents ≡ true)
room_parts region label h =
    let room = (formed_parts region label h).room in
    let a = and_parts (nat_le 1 (length label.extents) && list_all (is_extent region) label.extents) (are_apart label.extents) room in
    let b = and_parts (nat_le 1 (length label.extents)) (list_all (is_extent region) label.extents) a.0 in
    (b.0, b.1, a.1)

pub moved_formed : (sectors : ℕ) (region : Stretch) (label : FileLabel) → IsRegion sectors region → is_well_formed region label ≡ true → is_well_formed (target region) (moved_label region label) ≡ true
moved_formed sectors region label is h =
    let parts = formed_parts region label h in
    let room = room_parts region label h in
    let some : nat_le 1 (length (map (moved region) label.extents)) ≡ true = ap (nat_le 1) (length-map label.extents (moved region)) ∙ room.0 in
    formed_from (target region) (moved_label region label) (record {
      length = parts.length;
      key = parts.key;
      room = and_from (nat_le 1 (length (map (moved region) label.extents)) && list_all (is_extent (target region)) (map (moved region) label.extents)) (are_apart (map (moved region) label.extents))
          (and_from (nat_le 1 (length (map (moved region) label.extents))) (list_all (is_extent (target region)) (map (moved region) label.extents)) some (moved_all_within region sectors label.extents is room.1))
          (moved_are_apart region label.extents room.1 ∙ room.2);
      some = parts.some;
      counted = parts.counted;
      fits = ap (nat_le (sectors_needed label.organization label.record_length label.key_length label.capacity)) (moved_sum region label.extents) ∙ parts.fits;
    })

-- ---- beside the slots before it
-- each sound slot is well formed
abbrev pub AreFormed : Stretch → List Slot → Type 0
AreFormed region slots = (i : ℕ) (label : FileLabel) → slice_get slots i ≡ Some (Sound label) → is_well_formed region label ≡ true

formed_later : (region : Stretch) (slot : Slot) (slots : List Slot) → AreFormed region (slot ∷ slots) → AreFormed region slots
formed_later region slot slots formed = λ i label there. formed (suc i) label there

moved_clear : (region extent : Stretch) (slots : List Slot) → region.start ≤ extent.start → AreFormed region slots → is_clear (flat_map (master_slot region) slots) (moved region extent) ≡ is_clear slots extent
moved_clear region extent [] low formed = refl
moved_clear region extent (Free ∷ slots) low formed = moved_clear region extent slots low (formed_later region Free slots formed)
moved_clear region extent (Damaged name ∷ slots) low formed = moved_clear region extent slots low (formed_later region (Damaged name) slots formed)
moved_clear region extent (Sound label ∷ slots) low formed =
    ap₂ (λ x y. x && y) (moved_apart_from_all region extent label.extents low (room_parts region label (formed 0 label refl)).1)
    (moved_clear region extent slots low (formed_later region (Sound label) slots formed))

moved_all_clear : (region : Stretch) (extents : List Stretch) (slots : List Slot) → list_all (is_extent region) extents ≡ true → AreFormed region slots
    → list_all (is_clear (flat_map (master_slot region) slots)) (map (moved region) extents) ≡ list_all (is_clear slots) extents
moved_all_clear region [] slots h formed = refl
moved_all_clear region (a ∷ extents) slots h formed =
    let parts = and_parts (is_extent region a) (list_all (is_extent region) extents) h in
    ap₂ (λ x y. x && y) (moved_clear region a slots (within_parts region a parts.0).low formed) (moved_all_clear region extents slots parts.1 formed)

moved_names : (region : Stretch) (name : Name) (slots : List Slot) → list_any (bears name) (flat_map (master_slot region) slots) ≡ list_any (bears name) slots
moved_names region name [] = refl
moved_names region name (Free ∷ slots) = moved_names region name slots
moved_names region name (Damaged other ∷ slots) = moved_names region name slots
moved_names region name (Sound label ∷ slots) = ap (λ b. bears name (Sound label) || b) (moved_names region name slots)

pub moved_sound : (sectors : ℕ) (region : Stretch) (earlier : List Slot) (label : FileLabel) → IsRegion sectors region → AreFormed region earlier → is_sound region earlier label ≡ true
    → is_sound (target region) (flat_map (master_slot region) earlier) (moved_label region label) ≡ true
moved_sound sectors region earlier label is formed h =
    let parts = and_parts (is_well_formed region label) (is_disentangled earlier label) h in
    let apart : is_disentangled (flat_map (master_slot region) earlier) (moved_label region label) ≡ is_disentangled earlier label =
    ap₂ (λ x y. x && not y) (moved_all_clear region label.extents earlier (room_parts region label parts.0).1 formed) (moved_names region label.name earlier) in
    and_from (is_well_formed (target region) (moved_label region label)) (is_disentangled (flat_map (master_slot region) earlier) (moved_label region label)) (moved_formed sectors region label is parts.0) (apart ∙ parts.1)

-- ---- a label that can be written
used_each : (region : Stretch) (extents : List Stretch) → list_all (is_extent region) extents ≡ true → (i : ℕ) → i < length extents → is_unused (extent_at extents i) ≡ false
used_each region [] h i within = absurd (omega (arith, within))
used_each region (a ∷ extents) h zero within =
    let is = within_parts region a (and_parts (is_extent region a) (list_all (is_extent region) extents) h).0 in
    and_right (a.start == 0) (a.sectors == 0) (ne_eqb a.sectors 0 (λ e. omega (arith, e, is.some)))
used_each region (a ∷ extents) h (suc i) within = used_each region extents (and_parts (is_extent region a) (list_all (is_extent region) extents) h).1 i (omega (arith, within))

small_each : (region : Stretch) (extents : List Stretch) → end_of region ≤ 65535 → list_all (is_extent region) extents ≡ true → (i : ℕ) → ((extent_at extents i).start < 65536) × ((extent_at extents i).sectors < 65536)
small_each region [] few h zero = (omega arith, omega arith)
small_each region [] few h (suc i) = (omega arith, omega arith)
small_each region (a ∷ extents) few h zero =
    let is = within_parts region a (and_parts (is_extent region a) (list_all (is_extent region) extents) h).0 in
    (omega (arith, is.high, few), omega (arith, is.high, few))
small_each region (a ∷ extents) few h (suc i) = small_each region extents few (and_parts (is_extent region a) (list_all (is_extent region) extents) h).1 i

few_sectors : (region : Stretch) (extents : List Stretch) → end_of region ≤ 65535 → list_all (is_extent region) extents ≡ true → sum_by (λ extent. extent.sectors) extents ≤ 65535 * length extents
few_sectors region [] few h = omega arith
few_sectors region (a ∷ extents) few h =
    let parts = and_parts (is_extent region a) (list_all (is_extent region) extents) h in
    let is = within_parts region a parts.0 in
    let e = sum_by-cons (λ (extent : Stretch). extent.sectors) a extents in
    omega (arith, e, few_sectors region extents few parts.1, is.high, few)

key_small : (o : Organization) (r k s : ℕ) → r ≤ 1024 → is_key_of o r k s ≡ true → s < 65536
key_small Sequential r k s few h = let e = and_parts (k == 0) (s == 0) h in omega (arith, eqb-true s 0 e.1)
key_small Direct r k s few h = let e = and_parts (k == 0) (s == 0) h in omega (arith, eqb-true s 0 e.1)
key_small Indexed r k s few h =
    let e = and_parts (nat_le 1 k && nat_le k 29 && nat_le 1 s) (nat_le (s + k) (r + 1)) h in
    omega (arith, leb-true (s + k) (r + 1) e.1, few)

count_small : (o : Organization) (capacity count : ℕ) → is_count_of o capacity count ≡ true → count ≤ capacity
count_small Sequential capacity count h = leb-true count capacity h
count_small Indexed capacity count h = leb-true count capacity h
count_small Direct capacity count h = let e = eqb-true count capacity h in omega (arith, e)

records_fit : (o : Organization) (r k capacity : ℕ) → record_sectors capacity r ≤ sectors_needed o r k capacity
records_fit Sequential r k capacity = omega arith
records_fit Direct r k capacity = omega arith
records_fit Indexed r k capacity = omega arith

-- what the bytes of a label give, whatever they are
pub record IsRead (label : FileLabel) : Type 0 where
  pub codes : length label.name.codes ≡ 8
  pub named : is_name label.name.codes ≡ true
  pub few : length label.extents ≤ 4
  pub date : length label.date ≡ 6

pub moved_read : (region : Stretch) (label : FileLabel) → IsRead label → IsRead (moved_label region label)
moved_read region label is = record { codes = is.codes; named = is.named; few = omega (arith, is.few, length-map label.extents (moved region)); date = is.date }

pub writable : (region : Stretch) (label : FileLabel) → end_of region ≤ 65535 → is_well_formed region label ≡ true → IsRead label → IsWritable label
writable region label few h is =
    let parts = formed_parts region label h in
    let room = room_parts region label h in
    let lengths = and_parts (nat_le 1 label.record_length) (nat_le label.record_length 1024) parts.length in
    let long = leb-true 1 label.record_length lengths.0 in
    let short = leb-true label.record_length 1024 lengths.1 in
    let fits = leb-true (sectors_needed label.organization label.record_length label.key_length label.capacity) (sum_by (λ extent. extent.sectors) label.extents) parts.fits in
    let sectors = few_sectors region label.extents few room.1 in
    let records = records_fit label.organization label.record_length label.key_length label.capacity in
    let all : label.capacity ≤ label.capacity = omega arith in
    let bytes : label.capacity * 1 ≤ label.capacity * label.record_length = mul-le-mul all long in
    let capacity : label.capacity < 2 ^ 32 = omega (arith, fits, sectors, records, bytes, is.few) in
    record {
      codes = is.codes;
      named = is.named;
      record_length = omega (arith, short);
      key_start = key_small label.organization label.record_length label.key_length label.key_start short parts.key;
      some = leb-true 1 (length label.extents) room.0;
      few = is.few;
      used = used_each region label.extents room.1;
      small = small_each region label.extents few room.1;
      capacity = capacity;
      count = omega (arith, count_small label.organization label.capacity label.count parts.counted, capacity);
      date = is.date;
    }
