-- Rows that were sorted by their keys, and the records in them.
use Rattle.std.proofs.Common.{◌≡◌, ℕ, suc, ◌+◌, ◌<◌, Bool, true, false, cond, not, ◌&&◌, All, Contains, List, [], ◌∷◌, length, map, filter, get_or, IsPermutation, IsSortedByKey, refl, sym, ap, ap₂, ◌∙◌, subst, arith}
use Rattle.std.specs.List.Sorted.{IsStableByKey, ties}
use Rattle.std.specs.Cmp.Lexicographic.{slice_cmp}
use Rattle.std.specs.Ordering.{is_lt, nat_cmp}
use Rattle.std.proofs.lemmas.List.{get_or-map, length-map}
use Rattle.std.proofs.lemmas.List.Sorted.{All-permutation, IsPermutation-map}
use Rattle.s3_pack_care.specs.Inner.Sorted.{IsArranged, comes_before}

module _ {R : Type 0} (rec row_key : R → List ℕ) (key : List ℕ → List ℕ) where
  abbrev pub is_less : R → R → Bool
  is_less one other = is_lt (slice_cmp nat_cmp (row_key one) (row_key other))

  abbrev pub has_key : R → Type 0
  has_key row = row_key row ≡ key (rec row)

  tied : (one other : R) → has_key one → has_key other → ties (comes_before key) (rec one) (rec other) ≡ ties is_less one other
  tied one other own its = sym (ap₂ (λ a b. not (is_lt (slice_cmp nat_cmp a b)) && not (is_lt (slice_cmp nat_cmp b a))) own its)

  map_cond : (b : Bool) (row : R) (rows : List R) → map rec (cond b (row ∷ rows) rows) ≡ cond b (rec row ∷ map rec rows) (map rec rows)
  map_cond true row rows = refl
  map_cond false row rows = refl

  head_has : (row : R) (rows : List R) → All has_key (row ∷ rows) → has_key row
  head_has row rows all = all 0 row (omega arith)

  tail_has : (row : R) (rows : List R) → All has_key (row ∷ rows) → All has_key rows
  tail_has row rows all = λ k d within. all (suc k) d (omega (arith, within))

  filtered : (one : R) (rows : List R) → has_key one → All has_key rows → filter (ties (comes_before key) (rec one)) (map rec rows) ≡ map rec (filter (ties is_less one) rows)
  filtered one [] own all = refl
  filtered one (row ∷ rows) own all =
      ap₂ (λ b rest. cond b (rec row ∷ rest) rest) (tied one row own (head_has row rows all)) (filtered one rows own (tail_has row rows all))
      ∙ sym (map_cond (ties is_less one row) row (filter (ties is_less one) rows))

  ordered : (rows : List R) → All has_key rows → IsSortedByKey row_key (slice_cmp nat_cmp) rows → IsSortedByKey key (slice_cmp nat_cmp) (map rec rows)
  ordered [] all up = λ k d low high. absurd (omega (arith, high))
  ordered (row ∷ rows) all up = λ k d low high.
      let count : length (map rec (row ∷ rows)) ≡ length (row ∷ rows) = length-map (row ∷ rows) rec in
      let next : k + 1 < length (row ∷ rows) = omega (arith, high, count) in
      let this : k < length (row ∷ rows) = omega (arith, next) in
      ap₂ (λ a b. is_lt (slice_cmp nat_cmp a b)) (ap key (get_or-map rec (row ∷ rows) (k + 1) row d next) ∙ sym (all (k + 1) row next)) (ap key (get_or-map rec (row ∷ rows) k row d this) ∙ sym (all k row this))
      ∙ up k row low next

  stable : (rows sorted : List R) → All has_key rows → All has_key sorted → IsStableByKey row_key (slice_cmp nat_cmp) rows sorted
      → (one : List ℕ) → Contains (map rec rows) one → filter (ties (comes_before key) one) (map rec sorted) ≡ filter (ties (comes_before key) one) (map rec rows)
  stable [] sorted all all_sorted same one has = absurd (omega (arith, has.1))
  stable (row ∷ rows) sorted all all_sorted same one has =
      let count : length (map rec (row ∷ rows)) ≡ length (row ∷ rows) = length-map (row ∷ rows) rec in
      let within : has.0 < length (row ∷ rows) = omega (arith, has.1, count) in
      let mine : R = get_or (row ∷ rows) has.0 row in
      let is : rec mine ≡ one = sym (get_or-map rec (row ∷ rows) has.0 row one within) ∙ has.2 in
      let own : has_key mine = all has.0 row within in
      subst (λ it. filter (ties (comes_before key) it) (map rec sorted) ≡ filter (ties (comes_before key) it) (map rec (row ∷ rows))) is
      (filtered mine sorted own all_sorted ∙ ap (map rec) (same mine) ∙ sym (filtered mine (row ∷ rows) own all))

  pub arranged : (rows sorted : List R) → All has_key rows → IsPermutation rows sorted → IsSortedByKey row_key (slice_cmp nat_cmp) sorted → IsStableByKey row_key (slice_cmp nat_cmp) rows sorted
      → IsArranged key (map rec rows) (map rec sorted)
  arranged rows sorted all moved up same =
      let all_sorted : All has_key sorted = All-permutation has_key rows sorted moved all in
      record { same = IsPermutation-map rec rows sorted moved; ordered = ordered sorted all_sorted up; stable = stable rows sorted all all_sorted same }
