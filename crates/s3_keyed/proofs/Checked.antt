-- An index that is looked through, entry by entry.
use Rattle.std.proofs.Common.{◌≡◌, ℕ, zero, suc, ◌+◌, ◌-◌, ◌^◌, ◌<◌, ◌≤◌, ◌⊎◌, inl, inr, true, ◌==◌, List, [], ◌∷◌, length, map, slice_get, Some, refl, sym, ap, subst, ◌∙◌, arith}
use Rattle.std.proofs.Math.Nat.{one-le-pow}
use Rattle.std.proofs.lemmas.Bool.{eqb-true}
use Rattle.std.proofs.lemmas.Bool.Decides.{nat_tests}
use Rattle.std.specs.List.{range_with_len}
use Rattle.std.specs.Ordering.{nat_cmp}
use Rattle.std.specs.declared.cmp.Ordering.{Ordering}
use Rattle.std.specs.declared.cmp.Ordering.TheVariants.{Less, Equal}
use Rattle.s3_keyed.specs.KeyOrder.{Entry}
use Rattle.s3_keyed.specs.Inner.KeyOrder.{IsAscending}
use Rattle.s3_keyed.proofs.Order.{IsGoodIndex}

-- the first j entries are good
pub record AreChecked (entry : ℕ → Entry) (keys : List ℕ) (j : ℕ) : Type 0 where
  pub ascending : (i k : ℕ) → i < k → k < j → (entry i).key < (entry k).key
  pub in_range : (i : ℕ) → i < j → (1 ≤ (entry i).number) × ((entry i).number ≤ length keys)
  pub keyed : (i : ℕ) → i < j → slice_get keys ((entry i).number - 1) ≡ Some (entry i).key

pub checked-none : (entry : ℕ → Entry) (keys : List ℕ) → AreChecked entry keys 0
checked-none entry keys = record {
  ascending = λ i k lt below. absurd (omega arith);
  in_range = λ i below. absurd (omega arith);
  keyed = λ i below. absurd (omega arith);
}

pub below_or_at : (i n : ℕ) → i < n + 1 → (i < n) ⊎ (i ≡ n)
below_or_at zero zero h = inr refl
below_or_at zero (suc n) h = inl (omega arith)
below_or_at (suc i) zero h = absurd (omega arith)
below_or_at (suc i) (suc n) h = elim (below_or_at i n (omega arith)) [ inl l ↦ inl (omega arith) | inr e ↦ inr (ap suc e) ]

pub checked-more : (entry : ℕ → Entry) (keys : List ℕ) (j : ℕ) → AreChecked entry keys j → (0 < j → (entry (j - 1)).key < (entry j).key) → 1 ≤ (entry j).number → (entry j).number ≤ length keys → slice_get keys ((entry j).number - 1) ≡ Some (entry j).key → AreChecked entry keys (j + 1)
checked-more entry keys j so_far above low high keyed = record {
  ascending = λ i k lt below. elim (below_or_at k j below) [
    | inl before ↦ so_far.ascending i k lt before
    | inr here ↦ subst (λ m. (entry i).key < (entry m).key) (sym here) (highest i (omega arith))
  ];
  in_range = λ i below. elim (below_or_at i j below) [
    | inl before ↦ so_far.in_range i before
    | inr here ↦ subst (λ m. (1 ≤ (entry m).number) × ((entry m).number ≤ length keys)) (sym here) (low, high)
  ];
  keyed = λ i below. elim (below_or_at i j below) [
    | inl before ↦ so_far.keyed i before
    | inr here ↦ subst (λ m. slice_get keys ((entry m).number - 1) ≡ Some (entry m).key) (sym here) keyed
  ];
}
  where
    highest : (i : ℕ) → i < j → (entry i).key < (entry j).key
    highest i below = let last = above (omega arith) in elim (below_or_at i (j - 1) (omega arith)) [
      | inl before ↦ let step = so_far.ascending i (j - 1) before (omega arith) in omega arith
      | inr here ↦ subst (λ m. (entry m).key < (entry j).key) (sym here) last
    ]

slice_get-mapped : {X : Type 0} (f : ℕ → X) (a n i : ℕ) → i < n → slice_get (map f (range_with_len a n)) i ≡ Some (f (a + i))
slice_get-mapped f a zero i h = absurd (omega arith)
slice_get-mapped f a (suc n) zero h = let at : a ≡ a + 0 = omega arith in ap (λ k. Some (f k)) at
slice_get-mapped f a (suc n) (suc i) h = let at : a + 1 + i ≡ a + suc i = omega arith in slice_get-mapped f (a + 1) n i (omega arith) ∙ ap (λ k. Some (f k)) at

pub get-listed : (entry : ℕ → Entry) (n i : ℕ) → i < n → slice_get (map entry (range_with_len 0 n)) i ≡ Some (entry i)
get-listed entry n i h = let at : 0 + i ≡ i = omega arith in slice_get-mapped entry 0 n i h ∙ ap (λ k. Some (entry k)) at

pub length-listed : (entry : ℕ → Entry) (a n : ℕ) → length (map entry (range_with_len a n)) ≡ n
length-listed entry a zero = refl
length-listed entry a (suc n) = ap suc (length-listed entry (a + 1) n)

got : (es : List Entry) (i : ℕ) (e : Entry) → slice_get es i ≡ Some e → i < length es
got [] i e h = absurd cc
got (f ∷ es) zero e h = omega arith
got (f ∷ es) (suc i) e h = let later = got es i e h in omega arith

-- an entry of the list is the function's
pub listed : (entry : ℕ → Entry) (n i : ℕ) (e : Entry) → slice_get (map entry (range_with_len 0 n)) i ≡ Some e → (i < n) × (e ≡ entry i)
listed entry n i e h =
    let inside = got (map entry (range_with_len 0 n)) i e h in
    let long = length-listed entry 0 n in
    let below : i < n = omega arith in
    let there = get-listed entry n i below in
    let some : Some e ≡ Some (entry i) = sym h ∙ there in
    (below, cc)

pub checked-good : (entry : ℕ → Entry) (keys : List ℕ) (n : ℕ) → length keys ≡ n → AreChecked entry keys n → IsGoodIndex (map entry (range_with_len 0 n)) keys
checked-good entry keys n long c = record {
  count = length-listed entry 0 n ∙ sym long;
  ascending = λ i j d e lt at_i at_j. let a = listed entry n i d at_i in let b = listed entry n j e at_j in rw (a.1, b.1) (c.ascending i j lt b.0);
  in_range = λ i e at. let a = listed entry n i e at in rw a.1 (c.in_range i a.0);
  keyed = λ i e at. let a = listed entry n i e at in rw a.1 (c.keyed i a.0);
}

-- what a good index has
pub good-ascends : (entry : ℕ → Entry) (keys : List ℕ) (n i j : ℕ) → IsGoodIndex (map entry (range_with_len 0 n)) keys → i < j → j < n → (entry i).key < (entry j).key
good-ascends entry keys n i j good lt below = good.ascending i j (entry i) (entry j) lt (get-listed entry n i (omega arith)) (get-listed entry n j below)

pub good-range : (entry : ℕ → Entry) (keys : List ℕ) (n i : ℕ) → IsGoodIndex (map entry (range_with_len 0 n)) keys → i < n → (1 ≤ (entry i).number) × ((entry i).number ≤ length keys)
good-range entry keys n i good below = good.in_range i (entry i) (get-listed entry n i below)

pub good-keyed : (entry : ℕ → Entry) (keys : List ℕ) (n i : ℕ) → IsGoodIndex (map entry (range_with_len 0 n)) keys → i < n → slice_get keys ((entry i).number - 1) ≡ Some (entry i).key
good-keyed entry keys n i good below = good.keyed i (entry i) (get-listed entry n i below)

-- no key at all is a short one
pub none_short : (n k : ℕ) → n < 256 ^ 0 → n < 256 ^ k
none_short n k none = let some = one-le-pow k 256 (omega arith) in omega (arith, some, none)

-- why an index is refused
pub not_after : (entry : ℕ → Entry) (keys : List ℕ) (n j last key : ℕ) → j < n → 0 < j → last ≡ (entry (j - 1)).key → key ≡ (entry j).key → key ≤ last → IsGoodIndex (map entry (range_with_len 0 n)) keys → ⊥
not_after entry keys n j last key below later is_last is_key le good = let up = good-ascends entry keys n (j - 1) j good (omega arith) below in omega arith

pub its_key : (entry : ℕ → Entry) (keys : List ℕ) (j number key k : ℕ) → number ≡ (entry j).number → key ≡ (entry j).key → slice_get keys (number - 1) ≡ Some k → (k == key) ≡ true → slice_get keys ((entry j).number - 1) ≡ Some (entry j).key
its_key entry keys j number key k is is_key read same = ap (λ m. slice_get keys (m - 1)) (sym is) ∙ read ∙ ap Some (eqb-true k key same ∙ is_key)

-- ---- entries that ascend

pub ascends_one : (entry : ℕ → Entry) → IsAscending entry 1
ascends_one entry i j lt below = absurd (omega (arith, lt, below))

pub ascends_more : (entry : ℕ → Entry) (n : ℕ) → 0 < n → IsAscending entry n → (entry (n - 1)).key < (entry n).key → IsAscending entry (n + 1)
ascends_more entry n some up last i j lt below = elim (below_or_at j n below) [
  | inl before ↦ up i j lt before
  | inr here ↦ subst (λ m. (entry i).key < (entry m).key) (sym here) (to_last (omega (arith, lt, here)))
]
  where
    to_last : i < n → (entry i).key < (entry n).key
    to_last less = elim (below_or_at i (n - 1) (omega (arith, less))) [
      | inl before ↦ let step = up i (n - 1) before (omega (arith, some)) in omega (arith, step, last)
      | inr at ↦ subst (λ m. (entry m).key < (entry n).key) (sym at) last
    ]

pub not_ascending : (entry : ℕ → Entry) (n j : ℕ) → 0 < j → j < n → (entry j).key ≤ (entry (j - 1)).key → IsAscending entry n → ⊥
not_ascending entry n j some below le up = let step = up (j - 1) j (omega (arith, some)) below in omega (arith, step, le)

-- ---- a search by halves

pub lower_half : (entry : ℕ → Entry) (n middle k : ℕ) → IsAscending entry n → middle < n → (entry middle).key < k → (i : ℕ) → i < middle + 1 → (entry i).key < k
lower_half entry n middle k up within less i below = elim (below_or_at i middle below) [
  | inl before ↦ let step = up i middle before within in omega arith
  | inr here ↦ subst (λ m. (entry m).key < k) (sym here) less
]

pub upper_half : (entry : ℕ → Entry) (n middle k : ℕ) → IsAscending entry n → k < (entry middle).key → (i : ℕ) → middle ≤ i → i < n → k < (entry i).key
upper_half entry n middle k up more i from below = elim (below_or_at middle i (omega arith)) [
  | inl before ↦ let step = up middle i before below in omega arith
  | inr here ↦ subst (λ m. k < (entry m).key) here more
]

pub not_found : (entry : ℕ → Entry) (n low high k : ℕ) → high ≤ low → ((i : ℕ) → i < low → (entry i).key < k) → ((i : ℕ) → high ≤ i → i < n → k < (entry i).key) → (i : ℕ) → i < n → (entry i).key ≡ k → ⊥
not_found entry n low high k met below above i within same =
    elim (below_or_at_least i low) [
      | inl before ↦ let less = below i before in omega arith
      | inr after ↦ let more = above i (omega arith) within in omega arith
    ]
  where
    below_or_at_least : (i low : ℕ) → (i < low) ⊎ (low ≤ i)
    below_or_at_least i zero = inr (omega arith)
    below_or_at_least zero (suc low) = inl (omega arith)
    below_or_at_least (suc i) (suc low) = elim (below_or_at_least i low) [ inl l ↦ inl (omega arith) | inr r ↦ inr (omega arith) ]

-- what a comparison says
pub is_less : (a k : ℕ) (o : Ordering) → o ≡ nat_cmp a k → o ≡ Less → a < k
is_less a k o is less = let h = sym is ∙ less in grind (arith, nat_tests)

pub is_equal : (a k : ℕ) (o : Ordering) → o ≡ nat_cmp a k → o ≡ Equal → a ≡ k
is_equal a k o is equal = let h = sym is ∙ equal in grind (arith, nat_tests)

-- the entry with the key is found
pub is_found : (at : Entry) (k number : ℕ) → at.key ≡ k → at.number ≡ number → at ≡ record { key = k; number = number }
is_found at k number same is = ap (λ x. entry_with x at.number) same ∙ ap (entry_with k) is
  where
    entry_with : ℕ → ℕ → Entry
    entry_with key number = record { key = key; number = number }
