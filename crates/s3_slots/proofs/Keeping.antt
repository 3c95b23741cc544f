-- Slots of which no two sound ones have a sector or a name in common, and what keeps them so.
use Rattle.std.proofs.Common.{◌≡◌, ℕ, zero, suc, ◌<◌, ◌≤◌, Bool, true, false, nat_le, ◌&&◌, ◌==◌, ◌%◌, List, [], ◌∷◌, ◌++◌, length, slice_get, slice_set, slice_index_or, Some, refl, sym, ap, ◌∙◌, arith, inl, inr, ◌⊎◌, subst}
use Rattle.std.proofs.lemmas.Bool.{and_parts, and_from, leb-true, both_ways}
use Rattle.std.specs.List.{All, list_all, list_any, sum_by, Contains}
use Rattle.s3_cards.specs.Names.{same_name}
use Rattle.s3_store.specs.Stretches.{end_of, sectors_in}
use Rattle.s3_store.specs.declared.stretch.Stretch.{Stretch}
use Rattle.s3_cards.proofs.NameLemmas.{same_name-self}
use Rattle.s3_slots.specs.Stretches.{is_apart, is_apart_from_all, are_apart, is_inside, IsIn}
use Rattle.s3_slots.specs.Labels.{sectors_of}
use Rattle.s3_slots.specs.Slots.{is_key_of, is_extent, are_extents, is_count_of, is_well_formed, sectors_needed, is_apart_from_slot, is_clear, bears}
use Rattle.s3_slots.specs.Inner.Kept.{AreKept}
use Rattle.s3_slots.specs.declared.label.FileLabel.{FileLabel}
use Rattle.s3_slots.specs.declared.slot.Slot.{Slot}
use Rattle.s3_slots.specs.declared.slot.Slot.TheVariants.{Sound}
use Rattle.s3_slots.proofs.Runs.{all_at, none_at, of_run}
use Rattle.s3_slots.proofs.Rooms.{apart_sectors}

-- ---- what changes of a list leave in it
pub set_cases : {X : Type 0} (xs : List X) (i j : ℕ) (s y : X) → slice_get (slice_set xs i s) j ≡ Some y → ((j ≡ i) × (y ≡ s)) ⊎ (slice_get xs j ≡ Some y)
set_cases [] i j s y h = absurd cc
set_cases (x ∷ xs) zero zero s y h = inl (refl, cc)
set_cases (x ∷ xs) zero (suc j) s y h = inr h
set_cases (x ∷ xs) (suc i) zero s y h = inr h
set_cases (x ∷ xs) (suc i) (suc j) s y h = elim (set_cases xs i j s y h) [ inl e ↦ inl (ap suc e.0, e.1) | inr e ↦ inr e ]

pub push_cases : {X : Type 0} (xs : List X) (j : ℕ) (s y : X) → slice_get (xs ++ s ∷ []) j ≡ Some y → ((j ≡ length xs) × (y ≡ s)) ⊎ (slice_get xs j ≡ Some y)
push_cases [] zero s y h = inl (refl, cc)
push_cases [] (suc j) s y h = absurd cc
push_cases (x ∷ xs) zero s y h = inr h
push_cases (x ∷ xs) (suc j) s y h = elim (push_cases xs j s y h) [ inl e ↦ inl (omega (arith, e.0), e.1) | inr e ↦ inr e ]

-- ---- a well formed label
pub record IsFormed (region : Stretch) (label : FileLabel) : Type 0 where
  pub length : nat_le 1 label.record_length && nat_le label.record_length 1024 ≡ true
  pub key : is_key_of label.organization label.record_length label.key_length label.key_start ≡ true
  pub room : are_extents region label.extents ≡ true
  pub some : nat_le 1 label.capacity ≡ true
  pub counted : is_count_of label.organization label.capacity label.count ≡ true
  pub fits : nat_le (sectors_needed label.organization label.record_length label.key_length label.capacity) (sum_by (λ extent. extent.sectors) label.extents) ≡ true

abbrev needed : FileLabel → Bool
needed label = nat_le (sectors_needed label.organization label.record_length label.key_length label.capacity) (sum_by (λ extent. extent.sectors) label.extents)

abbrev lengths : FileLabel → Bool
lengths label = nat_le 1 label.record_length && nat_le label.record_length 1024

abbrev keyed : FileLabel → Bool
keyed label = is_key_of label.organization label.record_length label.key_length label.key_start

pub formed_parts : (region : Stretch) (label : FileLabel) → is_well_formed region label ≡ true → IsFormed region label
formed_parts region label h =
    let f = and_parts (lengths label && keyed label && are_extents region label.extents && nat_le 1 label.capacity && is_count_of label.organization label.capacity label.count) (needed label) h in
    let e = and_parts (lengths label && keyed label && are_extents region label.extents && nat_le 1 label.capacity) (is_count_of label.organization label.capacity label.count) f.0 in
    let d = and_parts (lengths label && keyed label && are_extents region label.extents) (nat_le 1 label.capacity) e.0 in
    let c = and_parts (lengths label && keyed label) (are_extents region label.extents) d.0 in
    let b = and_parts (lengths label) (keyed label) c.0 in
    record { length = b.0; key = b.1; room = c.1; some = d.1; counted = e.1; fits = f.1 }

pub formed_from : (region : Stretch) (label : FileLabel) → IsFormed region label → is_well_formed region label ≡ true
formed_from region label is =
    and_from (lengths label && keyed label && are_extents region label.extents && nat_le 1 label.capacity && is_count_of label.organization label.capacity label.count) (needed label)
    (and_from (lengths label && keyed label && are_extents region label.extents && nat_le 1 label.capacity) (is_count_of label.organization label.capacity label.count)
    (and_from (lengths label && keyed label && are_extents region label.extents) (nat_le 1 label.capacity)
    (and_from (lengths label && keyed label) (are_extents region label.extents)
    (and_from (lengths label) (keyed label) is.length is.key) is.room) is.some) is.counted) is.fits

pub extent_inside : (region extent : Stretch) (n : ℕ) → is_extent region extent ≡ true → IsIn extent n → IsIn region n
extent_inside region extent n h is =
    let a = and_parts ((extent.start % 24 == 0) && (extent.sectors % 24 == 0) && nat_le 24 extent.sectors) (is_inside region extent) h in
    let b = and_parts (nat_le region.start extent.start) (nat_le (end_of extent) (end_of region)) a.1 in
    (omega (arith, leb-true region.start extent.start b.0, is.0), omega (arith, leb-true (end_of extent) (end_of region) b.1, is.1))

pub extents_inside : (region : Stretch) (extents : List Stretch) (n : ℕ) → are_extents region extents ≡ true → Contains (sectors_in extents) n → IsIn region n
extents_inside region extents n h has =
    let a = and_parts (nat_le 1 (length extents) && list_all (is_extent region) extents) (are_apart extents) h in
    let b = and_parts (nat_le 1 (length extents)) (list_all (is_extent region) extents) a.0 in
    let at = of_run extents n has in
    extent_inside region at.run n (all_at (is_extent region) extents at.at at.run b.1 at.is) at.inside

-- ---- a new label beside the others
pub clear_of : (slots : List Slot) (extents : List Stretch) (j : ℕ) (second : FileLabel) (n : ℕ) → list_all (is_clear slots) extents ≡ true → slice_get slots j ≡ Some (Sound second)
    → Contains (sectors_in extents) n → Contains (sectors_in second.extents) n → ⊥
clear_of slots extents j second n clear is first other =
    let a = of_run extents n first in
    let b = of_run second.extents n other in
    let c : is_clear slots a.run ≡ true = all_at (is_clear slots) extents a.at a.run clear a.is in
    let d : is_apart_from_all a.run second.extents ≡ true = all_at (is_apart_from_slot a.run) slots j (Sound second) c is in
    apart_sectors a.run b.run n (all_at (is_apart a.run) second.extents b.at b.run d b.is) a.inside.0 a.inside.1 b.inside.0 b.inside.1

-- ---- runs that are there
all_from_list : (P : Stretch → Type 0) (p : Stretch → Bool) (xs : List Stretch) → ((x : Stretch) → p x ≡ true → P x) → list_all p xs ≡ true → (k : ℕ) (d : Stretch) → k < length xs → P (slice_index_or xs k d)
all_from_list P p [] h all k d lt = absurd (omega (arith, lt))
all_from_list P p (x ∷ xs) h all zero d lt = h x (and_parts (p x) (list_all p xs) all).0
all_from_list P p (x ∷ xs) h all (suc k) d lt = all_from_list P p xs h (and_parts (p x) (list_all p xs) all).1 k d (omega (arith, lt))

extent_there : (region extent : Stretch) (sectors : ℕ) → end_of region ≤ sectors → is_extent region extent ≡ true → end_of extent ≤ sectors
extent_there region extent sectors h is =
    let a = and_parts ((extent.start % 24 == 0) && (extent.sectors % 24 == 0) && nat_le 24 extent.sectors) (is_inside region extent) is in
    let b = and_parts (nat_le region.start extent.start) (nat_le (end_of extent) (end_of region)) a.1 in
    omega (arith, leb-true (end_of extent) (end_of region) b.1, h)

pub extents_there : (region : Stretch) (extents : List Stretch) (sectors : ℕ) → are_extents region extents ≡ true → end_of region ≤ sectors → All (λ run. end_of run ≤ sectors) extents
extents_there region extents sectors h within =
    let a = and_parts (nat_le 1 (length extents) && list_all (is_extent region) extents) (are_apart extents) h in
    let b = and_parts (nat_le 1 (length extents)) (list_all (is_extent region) extents) a.0 in
    λ k d lt. all_from_list (λ run. end_of run ≤ sectors) (is_extent region) extents (λ x is. extent_there region x sectors within is) b.1 k d lt

-- ---- what keeps slots so
-- a valid slot in place of an earlier one, with the same sectors and name
pub record IsLike (region : Stretch) (old : List Slot) (j : ℕ) (label : FileLabel) : Type 0 where
  pub before : FileLabel
  pub there : slice_get old j ≡ Some (Sound before)
  pub extents : label.extents ≡ before.extents
  pub name : label.name ≡ before.name
  pub formed : is_well_formed region label ≡ true

same_sectors : (first second : FileLabel) (n : ℕ) → first.extents ≡ second.extents → Contains (sectors_of first) n → Contains (sectors_of second) n
unfolding sectors_of
same_sectors first second n e h = rw (sym e) h

pub kept_like : (region : Stretch) (old new : List Slot) → AreKept region old → ((j : ℕ) (label : FileLabel) → slice_get new j ≡ Some (Sound label) → IsLike region old j label) → AreKept region new
kept_like region old new kept each = record {
  formed = λ i label is. (each i label is).formed;
  apart = λ i j first second n one two a b.
      let x = each i first one in
      let y = each j second two in
      kept.apart i j x.before y.before n x.there y.there (same_sectors first x.before n x.extents a) (same_sectors second y.before n y.extents b);
  named = λ i j first second one two e.
      let x = each i first one in
      let y = each j second two in
      kept.named i j x.before y.before x.there y.there (sym x.name ∙ e ∙ y.name);
}

pub like_itself : (region : Stretch) (old : List Slot) (j : ℕ) (label : FileLabel) → AreKept region old → slice_get old j ≡ Some (Sound label) → IsLike region old j label
like_itself region old j label kept is = record { before = label; there = is; extents = refl; name = refl; formed = kept.formed j label is }

-- one label more, apart from all others
pub record IsOneMore (region : Stretch) (old new : List Slot) (p : ℕ) (label : FileLabel) : Type 0 where
  pub each : (j : ℕ) (other : FileLabel) → slice_get new j ≡ Some (Sound other) → ((j ≡ p) × (other ≡ label)) ⊎ (slice_get old j ≡ Some (Sound other))
  pub formed : is_well_formed region label ≡ true
  pub clear : list_all (is_clear old) label.extents ≡ true
  pub unused : list_any (bears label.name) old ≡ false

new_apart : (region : Stretch) (old new : List Slot) (p : ℕ) (label : FileLabel) → IsOneMore region old new p label → (j : ℕ) (second : FileLabel) (n : ℕ) → slice_get old j ≡ Some (Sound second)
    → Contains (sectors_of label) n → Contains (sectors_of second) n → ⊥
unfolding sectors_of
new_apart region old new p label more j second n is a b = clear_of old label.extents j second n more.clear is a b

new_named : (region : Stretch) (old new : List Slot) (p : ℕ) (label : FileLabel) → IsOneMore region old new p label → (j : ℕ) (second : FileLabel) → slice_get old j ≡ Some (Sound second)
    → label.name ≡ second.name → ⊥
new_named region old new p label more j second is e =
    both_ways (same_name second.name label.name) (none_at (bears label.name) old j (Sound second) more.unused is) (ap (λ name. same_name second.name name) e ∙ same_name-self second.name)

pub kept_more : (region : Stretch) (old new : List Slot) (p : ℕ) (label : FileLabel) → AreKept region old → IsOneMore region old new p label → AreKept region new
kept_more region old new p label kept more = record {
  formed = λ i other is. elim (more.each i other is) [
    | inl e ↦ ap (is_well_formed region) e.1 ∙ more.formed
    | inr was ↦ kept.formed i other was
  ];
  apart = λ i j first second n one two a b. elim (more.each i first one) [
    | inl e ↦ elim (more.each j second two) [
      | inl f ↦ e.0 ∙ sym f.0
      | inr was ↦ absurd (new_apart region old new p label more j second n was (subst (λ (l : FileLabel). Contains (sectors_of l) n) e.1 a) b)
    ]
    | inr was ↦ elim (more.each j second two) [
      | inl f ↦ absurd (new_apart region old new p label more i first n was (subst (λ (l : FileLabel). Contains (sectors_of l) n) f.1 b) a)
      | inr is ↦ kept.apart i j first second n was is a b
    ]
  ];
  named = λ i j first second one two h. elim (more.each i first one) [
    | inl e ↦ elim (more.each j second two) [
      | inl f ↦ e.0 ∙ sym f.0
      | inr was ↦ absurd (new_named region old new p label more j second was (sym (ap (λ (l : FileLabel). l.name) e.1) ∙ h))
    ]
    | inr was ↦ elim (more.each j second two) [
      | inl f ↦ absurd (new_named region old new p label more i first was (sym (ap (λ (l : FileLabel). l.name) f.1) ∙ sym h))
      | inr is ↦ kept.named i j first second was is h
    ]
  ];
}
