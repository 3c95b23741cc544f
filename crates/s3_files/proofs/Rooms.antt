-- A label that is well formed has room for its file.
use Rattle.std.proofs.Common.{◌≡◌, ◌≢◌, ℕ, zero, suc, ◌+◌, ◌*◌, ◌%◌, ◌⊎◌, inl, inr, ◌<◌, ◌≤◌, Bool, true, false, ◌&&◌, ◌||◌, ◌==◌, nat_eq, nat_le, List, [], ◌∷◌, ◌++◌, length, refl, sym, ap, subst, ◌∙◌, arith, length-append}
use Rattle.std.proofs.lemmas.Bool.{eqb-true, eqb-false, leb-true, cases_eq}
use Rattle.std.proofs.lemmas.List.Sums.{sum_by-cons}
use Rattle.std.proofs.lemmas.List.Elements.{All-append}
use Rattle.std.proofs.lemmas.List.FromFn.{length-range_with_len}
use Rattle.std.specs.List.{All, AllByRecursion, IsDistinct, range_with_len, list_all, sum_by}
use Rattle.s3_store.specs.declared.stretch.Stretch.{Stretch}
use Rattle.s3_store.specs.Stretches.{sectors_in, end_of}
use Rattle.s3_slots.specs.Stretches.{is_apart, is_apart_from_all, are_apart, is_inside}
use Rattle.s3_slots.specs.Slots.{is_extent, is_count_of, is_well_formed, sectors_needed, record_sectors, index_sectors}
use Rattle.s3_slots.specs.declared.label.FileLabel.{FileLabel}
use Rattle.s3_slots.specs.declared.label.Organization.{Organization}
use Rattle.s3_slots.specs.declared.label.Organization.TheVariants.{Sequential, Indexed, Direct}
use Rattle.s3_slots.specs.Inner.Kept.{IsOfPack}
use Rattle.s3_slots.specs.Labels.{is_direct, sectors_of}
use Rattle.s3_slots.proofs.Keeping.{formed_parts}
use Rattle.s3_files.specs.Inner.Files.{HasRoom, AreStored}

left : (a b : Bool) → (a && b) ≡ true → a ≡ true
left true b h = refl
left false b h = absurd cc

right : (a b : Bool) → (a && b) ≡ true → b ≡ true
right true b h = h
right false b h = absurd cc

-- ---- numbers that differ

differ : (x y : ℕ) → x ≢ y → nat_eq x y ≡ false
differ x y other = (elim (nat_eq x y) as (λ b. nat_eq x y ≡ b → b ≡ false) [
  | true ↦ λ t. absurd (other (eqb-true x y t))
  | false ↦ λ t. refl
]) refl

either : (a b : Bool) → (a || b) ≡ true → (a ≡ true) ⊎ (b ≡ true)
either true b h = inl refl
either false b h = inr h

-- a number that isn't among a run's
range_apart : (m a n : ℕ) → ((i : ℕ) → i < n → m ≡ a + i → ⊥) → AllByRecursion (λ y. nat_eq m y ≡ false) (range_with_len a n)
range_apart m a zero h = tt
range_apart m a (suc n) h = (differ m a (λ e. h zero (omega arith) (omega arith)), range_apart m (a + 1) n (λ i below e. h (suc i) (omega arith) (omega arith)))

rec_append : (P : ℕ → Type 0) (xs ys : List ℕ) → AllByRecursion P xs → AllByRecursion P ys → AllByRecursion P (xs ++ ys)
rec_append P [] ys a b = b
rec_append P (x ∷ xs) ys a b = (a.0, rec_append P xs ys a.1 b)

run_distinct : (a n : ℕ) (rest : List ℕ) → IsDistinct nat_eq rest → ((i : ℕ) → i < n → AllByRecursion (λ y. nat_eq (a + i) y ≡ false) rest) → IsDistinct nat_eq (range_with_len a n ++ rest)
unfolding IsDistinct
run_distinct a zero rest d apart = d
run_distinct a (suc n) rest d apart =
    let at : a + 0 ≡ a = omega arith in (
      rec_append (λ y. nat_eq a y ≡ false) (range_with_len (a + 1) n) rest (range_apart a (a + 1) n (λ i below e. omega arith)) (subst (λ m. AllByRecursion (λ y. nat_eq m y ≡ false) rest) at (apart zero (omega arith))),
      run_distinct (a + 1) n rest d (λ i below. let next : a + suc i ≡ a + 1 + i = omega arith in subst (λ m. AllByRecursion (λ y. nat_eq m y ≡ false) rest) next (apart (suc i) (omega arith))),
    )

-- no sector is of two extents that are apart
apart_sectors : (a b : Stretch) (m : ℕ) → is_apart a b ≡ true → a.start ≤ m → m < end_of a → b.start ≤ m → m < end_of b → ⊥
apart_sectors a b m h p q r s = elim (either ((a.sectors == 0) || (b.sectors == 0) || nat_le (end_of a) b.start) (nat_le (end_of b) a.start) h) [
  | inl first ↦ elim (either ((a.sectors == 0) || (b.sectors == 0)) (nat_le (end_of a) b.start) first) [
    | inl none ↦ elim (either (a.sectors == 0) (b.sectors == 0) none) [
      | inl x ↦ let e = eqb-true a.sectors 0 x in omega arith
      | inr y ↦ let e = eqb-true b.sectors 0 y in omega arith
    ]
    | inr before ↦ let le = leb-true (end_of a) b.start before in omega arith
  ]
  | inr after ↦ let le = leb-true (end_of b) a.start after in omega arith
]

others_apart : (m : ℕ) (e : Stretch) (es : List Stretch) → is_apart_from_all e es ≡ true → e.start ≤ m → m < end_of e → AllByRecursion (λ y. nat_eq m y ≡ false) (sectors_in es)
others_apart m e [] h p q = tt
others_apart m e (f ∷ fs) h p q =
    rec_append (λ y. nat_eq m y ≡ false) (range_with_len f.start f.sectors) (sectors_in fs)
    (range_apart m f.start f.sectors (λ i below at. apart_sectors e f m (left (is_apart e f) (is_apart_from_all e fs) h) p q (omega arith) (omega arith)))
    (others_apart m e fs (right (is_apart e f) (is_apart_from_all e fs) h) p q)

pub all_distinct : (es : List Stretch) → are_apart es ≡ true → IsDistinct nat_eq (sectors_in es)
unfolding IsDistinct
all_distinct [] h = tt
all_distinct (e ∷ es) h =
    run_distinct e.start e.sectors (sectors_in es) (all_distinct es (right (is_apart_from_all e es) (are_apart es) h))
    (λ i below. others_apart (e.start + i) e es (left (is_apart_from_all e es) (are_apart es) h) (omega arith) (omega arith))

-- ---- they are small, and so many

range_all : (P : ℕ → Type 0) (a n : ℕ) → ((i : ℕ) → i < n → P (a + i)) → All P (range_with_len a n)
range_all P a zero h k d below = absurd (omega arith)
range_all P a (suc n) h zero d below = let at : a + 0 ≡ a = omega arith in subst P at (h zero (omega arith))
range_all P a (suc n) h (suc k) d below = range_all P (a + 1) n (λ i less. let next : a + suc i ≡ a + 1 + i = omega arith in subst P next (h (suc i) (omega arith))) k d (omega arith)

inside_of : (region e : Stretch) → is_extent region e ≡ true → end_of e ≤ end_of region
inside_of region e h = leb-true (end_of e) (end_of region) (right (nat_le region.start e.start) (nat_le (end_of e) (end_of region)) (right ((e.start % 24 == 0) && (e.sectors % 24 == 0) && nat_le 24 e.sectors) (is_inside region e) h))

pub all_small : (region : Stretch) (es : List Stretch) (most : ℕ) → end_of region ≤ most → list_all (is_extent region) es ≡ true → All (λ n. n < most) (sectors_in es)
all_small region [] most few h = λ k d below. absurd (omega arith)
all_small region (e ∷ es) most few h =
    let within = inside_of region e (left (is_extent region e) (list_all (is_extent region) es) h) in
    All-append (λ n. n < most) (range_with_len e.start e.sectors) (sectors_in es) (range_all (λ n. n < most) e.start e.sectors (λ i below. omega arith))
    (all_small region es most few (right (is_extent region e) (list_all (is_extent region) es) h))

pub length_sectors : (es : List Stretch) → length (sectors_in es) ≡ sum_by (λ e. e.sectors) es
length_sectors [] = refl
length_sectors (e ∷ es) = length-append (range_with_len e.start e.sectors) (sectors_in es) ∙ ap (λ n. n + length (sectors_in es)) (length-range_with_len e.start e.sectors) ∙ ap (λ n. e.sectors + n) (length_sectors es) ∙ sym (sum_by-cons (λ x. x.sectors) e es)

-- ---- so many different numbers below n are at most n

-- a list without the greatest number that it may have
record IsLess (n : ℕ) (xs : List ℕ) : Type 0 where
  pub list : List ℕ
  pub below : AllByRecursion (λ x. x < n) list
  pub distinct : IsDistinct nat_eq list
  pub count : length xs ≤ suc (length list)
  pub apart : (x : ℕ) → AllByRecursion (λ y. nat_eq x y ≡ false) xs → AllByRecursion (λ y. nat_eq x y ≡ false) list

rest_below : (n : ℕ) (xs : List ℕ) → AllByRecursion (λ x. x < suc n) xs → AllByRecursion (λ y. nat_eq n y ≡ false) xs → AllByRecursion (λ x. x < n) xs
rest_below n [] below apart = tt
rest_below n (x ∷ xs) below apart = (omega (arith, below.0, eqb-false n x apart.0), rest_below n xs below.1 apart.1)

less : (n : ℕ) (xs : List ℕ) → AllByRecursion (λ x. x < suc n) xs → IsDistinct nat_eq xs → IsLess n xs
unfolding IsDistinct
less n [] below distinct = record { list = []; below = tt; distinct = tt; count = omega arith; apart = λ x h. tt }
less n (x ∷ xs) below distinct = elim (cases_eq x n) [
  | inl same ↦ record {
    list = xs;
    below = rest_below n xs below.1 (subst (λ m. AllByRecursion (λ y. nat_eq m y ≡ false) xs) same distinct.0);
    distinct = distinct.1;
    count = omega arith;
    apart = λ m h. h.1;
  }
  | inr other ↦
      let so = less n xs below.1 distinct.1 in
      record {
        list = x ∷ so.list;
        below = (omega (arith, below.0, other), so.below);
        distinct = (so.apart x distinct.0, so.distinct);
        count = omega (arith, so.count);
        apart = λ m h. (h.0, so.apart m h.1);
      }
]

few_distinct : (n : ℕ) (xs : List ℕ) → AllByRecursion (λ x. x < n) xs → IsDistinct nat_eq xs → length xs ≤ n
few_distinct zero [] below distinct = omega arith
few_distinct zero (x ∷ xs) below distinct = absurd (omega (arith, below.0))
few_distinct (suc n) xs below distinct =
    let so = less n xs below distinct in
    let rest = few_distinct n so.list so.below so.distinct in
    omega (arith, so.count, rest)

range_below : (n a count : ℕ) → a + count ≤ n → AllByRecursion (λ x. x < n) (range_with_len a count)
range_below n a zero h = tt
range_below n a (suc count) h = (omega (arith, h), range_below n (a + 1) count (omega (arith, h)))

sectors_below : (region : Stretch) (es : List Stretch) (n : ℕ) → end_of region ≤ n → list_all (is_extent region) es ≡ true → AllByRecursion (λ x. x < n) (sectors_in es)
sectors_below region [] n few h = tt
sectors_below region (e ∷ es) n few h =
    let within = inside_of region e (left (is_extent region e) (list_all (is_extent region) es) h) in
    rec_append (λ x. x < n) (range_with_len e.start e.sectors) (sectors_in es) (range_below n e.start e.sectors (omega (arith, within, few)))
    (sectors_below region es n few (right (is_extent region e) (list_all (is_extent region) es) h))

counted_by : (o : Organization) (capacity count : ℕ) → is_count_of o capacity count ≡ true → count ≤ capacity
counted_by Sequential capacity count h = leb-true count capacity h
counted_by Indexed capacity count h = leb-true count capacity h
counted_by Direct capacity count h = let e = eqb-true count capacity h in omega arith

fits_by : (o : Organization) (long key capacity n : ℕ) → nat_le (sectors_needed o long key capacity) n ≡ true → capacity * long ≤ 256 * n
fits_by Sequential long key capacity n h = let le = leb-true (record_sectors capacity long) n h in omega arith
fits_by Indexed long key capacity n h = let le = leb-true (record_sectors capacity long + index_sectors capacity key) n h in omega arith
fits_by Direct long key capacity n h = let le = leb-true (record_sectors capacity long) n h in omega arith

-- a label that is well formed in a region of a pack has room for its file
pub has_room : (region : Stretch) (label : FileLabel) → end_of region ≤ 65536 → is_well_formed region label ≡ true → HasRoom label
has_room region label few formed =
    let parts = formed_parts region label formed in
    let each = left (nat_le 1 (length label.extents) && list_all (is_extent region) label.extents) (are_apart label.extents) parts.room in
    let all = right (nat_le 1 (length label.extents)) (list_all (is_extent region) label.extents) each in
    let distinct = all_distinct label.extents (right (nat_le 1 (length label.extents) && list_all (is_extent region) label.extents) (are_apart label.extents) parts.room) in
    let most = few_distinct 65536 (sectors_in label.extents) (sectors_below region label.extents 65536 few all) distinct in
    let sectors = sum_by (λ extent. extent.sectors) label.extents in
    record {
      small = all_small region label.extents 65536 few all;
      distinct = distinct;
      fits = subst (λ n. label.capacity * label.record_length ≤ 256 * n) (sym (length_sectors label.extents)) (fits_by label.organization label.record_length label.key_length label.capacity sectors parts.fits);
      few = omega (arith, most);
      counted = counted_by label.organization label.capacity label.count parts.counted;
    }

-- ---- the file of a label that a pack has

pub of_pack_room : (sectors : ℕ) (label : FileLabel) → IsOfPack sectors label → HasRoom label
of_pack_room sectors label is = has_room is.region label (omega (arith, is.within, is.few)) is.formed

pub of_pack_stored : (contents : List (List ℕ)) (label : FileLabel) → IsOfPack (length contents) label → AreStored (sectors_of label) contents
unfolding sectors_of
of_pack_stored contents label is =
    let parts = formed_parts is.region label is.formed in
    let each = left (nat_le 1 (length label.extents) && list_all (is_extent is.region) label.extents) (are_apart label.extents) parts.room in
    all_small is.region label.extents (length contents) is.within (right (nat_le 1 (length label.extents)) (list_all (is_extent is.region) label.extents) each)

pub of_pack_full : (sectors : ℕ) (label : FileLabel) → IsOfPack sectors label → is_direct label.organization ≡ true → label.count ≡ label.capacity
of_pack_full sectors label is direct = full label.organization label.capacity label.count direct (formed_parts is.region label is.formed).counted
  where
    full : (o : Organization) (capacity count : ℕ) → is_direct o ≡ true → is_count_of o capacity count ≡ true → count ≡ capacity
    full Sequential capacity count direct h = absurd cc
    full Indexed capacity count direct h = absurd cc
    full Direct capacity count direct h = eqb-true count capacity h
