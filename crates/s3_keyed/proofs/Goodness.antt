-- Good indexes: the test, the same pointwise, and the key order.
use Rattle.std.proofs.Common.{◌≡◌, ℕ, zero, suc, ◌+◌, ◌-◌, ◌<◌, ◌≤◌, ◌⊎◌, inl, inr, Bool, true, false, ◌&&◌, ◌||◌, ◌==◌, List, [], ◌∷◌, length, slice_get, Option, Some, None, refl, sym, ap, subst, ◌∙◌, arith}
use Rattle.std.proofs.lemmas.Bool.{ltb-true, eqb-true, eq-eqb}
use Rattle.std.specs.List.{range_with_len, list_all, list_any}
use Rattle.s3_keyed.specs.KeyOrder.{Entry, key_order, is_before, ascends, keys_in, is_that_key, is_good_index}
use Rattle.s3_keyed.proofs.Order.{IsGoodIndex, Above, Above-In, Ascends, Ascends-from_get, In, In-from_get, get_from_In, In-key_order, In-key_order_back, length-key_order, good_is_order, below}

both_left : (a b : Bool) → (a && b) ≡ true → a ≡ true
both_left true b h = refl
both_left false b h = absurd cc

both_right : (a b : Bool) → (a && b) ≡ true → b ≡ true
both_right true b h = h
both_right false b h = absurd cc

pub both : (a b : Bool) → a ≡ true → b ≡ true → (a && b) ≡ true
both true b h k = k
both false b h k = absurd cc

either_first : (a b : Bool) → a ≡ true → (a || b) ≡ true
either_first true b h = refl
either_first false b h = absurd cc

either_later : (a b : Bool) → b ≡ true → (a || b) ≡ true
either_later true b h = refl
either_later false b h = h

module _ {X : Type 0} where
  all_got : (p : X → Bool) (xs : List X) (i : ℕ) (x : X) → list_all p xs ≡ true → slice_get xs i ≡ Some x → p x ≡ true
  all_got p [] i x all h = absurd cc
  all_got p (y ∷ ys) zero x all h = let same : y ≡ x = cc in subst (λ z. p z ≡ true) same (both_left (p y) (list_all p ys) all)
  all_got p (y ∷ ys) (suc i) x all h = all_got p ys i x (both_right (p y) (list_all p ys) all) h

  all_from_get : (p : X → Bool) (xs : List X) → ((i : ℕ) (x : X) → slice_get xs i ≡ Some x → p x ≡ true) → list_all p xs ≡ true
  all_from_get p [] h = refl
  all_from_get p (y ∷ ys) h = both (p y) (list_all p ys) (h zero y refl) (all_from_get p ys (λ i x at. h (suc i) x at))

  got_within : (xs : List X) (i : ℕ) (x : X) → slice_get xs i ≡ Some x → i < length xs
  got_within [] i x h = absurd cc
  got_within (y ∷ ys) zero x h = omega arith
  got_within (y ∷ ys) (suc i) x h = let later = got_within ys i x h in omega arith

  pub there : (xs : List X) (i : ℕ) → i < length xs → (x : X) × (slice_get xs i ≡ Some x)
  there [] i h = absurd (omega arith)
  there (y ∷ ys) zero h = (y, refl)
  there (y ∷ ys) (suc i) h = there ys i (omega arith)

all_range : (p : ℕ → Bool) (a n : ℕ) → ((k : ℕ) → a ≤ k → k < a + n → p k ≡ true) → list_all p (range_with_len a n) ≡ true
all_range p a zero h = refl
all_range p a (suc n) h = both (p a) (list_all p (range_with_len (a + 1) n)) (h a (omega arith) (omega arith)) (all_range p (a + 1) n (λ k low high. h k (omega arith) (omega arith)))

here_or_later : (a k : ℕ) → a ≤ k → (a ≡ k) ⊎ (a < k)
here_or_later zero zero h = inl refl
here_or_later zero (suc k) h = inr (omega arith)
here_or_later (suc a) zero h = absurd (omega arith)
here_or_later (suc a) (suc k) h = elim (here_or_later a k (omega arith)) [ inl e ↦ inl (ap suc e) | inr l ↦ inr (omega arith) ]

range_all : (p : ℕ → Bool) (a n k : ℕ) → list_all p (range_with_len a n) ≡ true → a ≤ k → k < a + n → p k ≡ true
range_all p a zero k all low high = absurd (omega arith)
range_all p a (suc n) k all low high = elim (here_or_later a k low) [
  | inl same ↦ subst (λ m. p m ≡ true) same (both_left (p a) (list_all p (range_with_len (a + 1) n)) all)
  | inr later ↦ range_all p (a + 1) n k (both_right (p a) (list_all p (range_with_len (a + 1) n)) all) (omega arith) (omega arith)
]

any_in : (p : Entry → Bool) (es : List Entry) (e : Entry) → In e es → p e ≡ true → list_any p es ≡ true
unfolding In
any_in p [] e on h = absurd on
any_in p (f ∷ fs) e on h = elim on [
  | inl same ↦ either_first (p f) (list_any p fs) (subst (λ x. p x ≡ true) same h)
  | inr later ↦ either_later (p f) (list_any p fs) (any_in p fs e later h)
]

in_any : (p : Entry → Bool) (es : List Entry) → list_any p es ≡ true → (e : Entry) × In e es × (p e ≡ true)
unfolding In
in_any p [] h = absurd cc
in_any p (f ∷ fs) h = (elim (p f) as (λ b. p f ≡ b → (e : Entry) × In e (f ∷ fs) × (p e ≡ true)) [
  | true ↦ λ t. (f, inl refl, t)
  | false ↦ λ t. let rest = in_any p fs (rw t at h) in (rest.0, inr rest.1, rest.2)
]) refl

-- ---- ascending keys

above_weaker : (k m : ℕ) (es : List Entry) → k < m → Above m es → Above k es
unfolding Above
above_weaker k m [] less h = tt
above_weaker k m (e ∷ es) less h = (omega (arith, h.0), above_weaker k m es less h.1)

ascends_above : (k : ℕ) (es : List Entry) → is_before k (keys_in es) ≡ true → Ascends es → Above k es
unfolding Above Ascends
ascends_above k [] h up = tt
ascends_above k (e ∷ es) h up = let less = ltb-true k e.key h in (less, above_weaker k e.key es less up.0)

pub to_ascends : (es : List Entry) → ascends (keys_in es) ≡ true → Ascends es
unfolding Ascends
to_ascends [] h = tt
to_ascends (e ∷ es) h =
    let rest = to_ascends es (both_right (is_before e.key (keys_in es)) (ascends (keys_in es)) h) in
    (ascends_above e.key es (both_left (is_before e.key (keys_in es)) (ascends (keys_in es)) h) rest, rest)

above_before : (k : ℕ) (es : List Entry) → Above k es → is_before k (keys_in es) ≡ true
unfolding Above
above_before k [] h = refl
above_before k (e ∷ es) h = below k e.key h.0

pub from_ascends : (es : List Entry) → Ascends es → ascends (keys_in es) ≡ true
unfolding Ascends
from_ascends [] h = refl
from_ascends (e ∷ es) h = both (is_before e.key (keys_in es)) (ascends (keys_in es)) (above_before e.key es h.0) (from_ascends es h.1)

-- two entries with one key are one
pub one_entry : (es : List Entry) (d e : Entry) → Ascends es → In d es → In e es → d.key ≡ e.key → d ≡ e
unfolding Ascends In
one_entry [] d e up on also same = absurd on
one_entry (f ∷ fs) d e up on also same = elim on [
  | inl d_is ↦ elim also [
    | inl e_is ↦ d_is ∙ sym e_is
    | inr later ↦ let high = Above-In f.key fs e up.0 later in let k : d.key ≡ f.key = ap (λ x. x.key) d_is in absurd (omega arith)
  ]
  | inr d_later ↦ elim also [
    | inl e_is ↦ let high = Above-In f.key fs d up.0 d_later in let k : e.key ≡ f.key = ap (λ x. x.key) e_is in absurd (omega arith)
    | inr later ↦ one_entry fs d e up.1 d_later later same
  ]
]

pub ascends_get : (es : List Entry) → Ascends es → (i j : ℕ) (d e : Entry) → i < j → slice_get es i ≡ Some d → slice_get es j ≡ Some e → d.key < e.key
unfolding Ascends
ascends_get [] up i j d e less a b = absurd cc
ascends_get (f ∷ fs) up zero zero d e less a b = absurd (omega arith)
ascends_get (f ∷ fs) up zero (suc j) d e less a b = let same : f ≡ d = cc in subst (λ x. x.key < e.key) same (Above-In f.key fs e up.0 (In-from_get fs j e b))
ascends_get (f ∷ fs) up (suc i) zero d e less a b = absurd (omega arith)
ascends_get (f ∷ fs) up (suc i) (suc j) d e less a b = ascends_get fs up.1 i j d e (omega arith) a b

-- ---- the test and its meaning

key_is : (key : ℕ) (o : Option ℕ) → is_that_key key o ≡ true → o ≡ Some key
key_is key None h = absurd cc
key_is key (Some other) h = ap Some (sym (eqb-true key other h))

is_key : (key : ℕ) (o : Option ℕ) → o ≡ Some key → is_that_key key o ≡ true
is_key key o h = rw h (eq-eqb key key refl)

pub from_good : (entries : List Entry) (keys : List ℕ) → is_good_index entries keys ≡ true → IsGoodIndex entries keys
unfolding is_good_index
from_good entries keys good =
    let all_numbers = list_all (λ number. list_any (λ entry. entry.number == number) entries) (range_with_len 1 (length keys)) in
    let all_keys = list_all (λ entry. is_that_key entry.key (slice_get keys (entry.number - 1))) entries in
    let counted = length entries == length keys in
    let up = ascends (keys_in entries) in
    let front = both_left ((counted && up) && all_numbers) all_keys good in
    let keyed = both_right ((counted && up) && all_numbers) all_keys good in
    let numbered = both_right (counted && up) all_numbers front in
    let pair = both_left (counted && up) all_numbers front in
    let rises = to_ascends entries (both_right counted up pair) in
    let its_key = λ (i : ℕ) (e : Entry) (at : slice_get entries i ≡ Some e). key_is e.key (slice_get keys (e.number - 1)) (all_got (λ entry. is_that_key entry.key (slice_get keys (entry.number - 1))) entries i e keyed at) in
    record {
      count = eqb-true (length entries) (length keys) (both_left counted up pair);
      ascending = ascends_get entries rises;
      in_range = λ i e at. in_range entries keys rises numbered i e at its_key;
      keyed = its_key;
    }
  where
    in_range : (entries : List Entry) (keys : List ℕ) → Ascends entries → list_all (λ number. list_any (λ entry. entry.number == number) entries) (range_with_len 1 (length keys)) ≡ true → (i : ℕ) (e : Entry) → slice_get entries i ≡ Some e
        → ((i : ℕ) (e : Entry) → slice_get entries i ≡ Some e → slice_get keys (e.number - 1) ≡ Some e.key) → (1 ≤ e.number) × (e.number ≤ length keys)
    in_range entries keys rises numbered i e at its_key =
        let within = got_within keys (e.number - 1) e.key (its_key i e at) in
        let one = in_any (λ entry. entry.number == 1) entries (range_all (λ number. list_any (λ entry. entry.number == number) entries) 1 (length keys) 1 numbered (omega arith) (omega arith)) in
        let number : one.0.number ≡ 1 = eqb-true one.0.number 1 one.2 in
        let place = get_from_In entries one.0 one.1 in
        let first : slice_get keys 0 ≡ Some one.0.key = ap (λ n. slice_get keys (n - 1)) (sym number) ∙ its_key place.0 one.0 place.1 in (
          not_none e.number (λ none.
              let head : slice_get keys 0 ≡ Some e.key = ap (λ n. slice_get keys (n - 1)) (sym none) ∙ its_key i e at in
              let some : Some e.key ≡ Some one.0.key = sym head ∙ first in
              let key : e.key ≡ one.0.key = cc in
              let same = one_entry entries e one.0 rises (In-from_get entries i e at) one.1 key in
              let equal : e.number ≡ one.0.number = ap (λ x. x.number) same in
              omega arith),
          omega arith,
        )
      where
        not_none : (n : ℕ) → (n ≡ 0 → ⊥) → 1 ≤ n
        not_none zero h = absurd (h refl)
        not_none (suc n) h = omega arith

pub to_good : (entries : List Entry) (keys : List ℕ) → IsGoodIndex entries keys → is_good_index entries keys ≡ true
unfolding is_good_index
to_good entries keys good =
    let all_numbers = list_all (λ number. list_any (λ entry. entry.number == number) entries) (range_with_len 1 (length keys)) in
    let all_keys = list_all (λ entry. is_that_key entry.key (slice_get keys (entry.number - 1))) entries in
    let counted = length entries == length keys in
    let up = ascends (keys_in entries) in
    both ((counted && up) && all_numbers) all_keys
    (both (counted && up) all_numbers
    (both counted up (eq-eqb (length entries) (length keys) good.count) (from_ascends entries (Ascends-from_get entries good.ascending)))
    (all_range (λ number. list_any (λ entry. entry.number == number) entries) 1 (length keys) (λ k low high. numbered k low high)))
    (all_from_get (λ entry. is_that_key entry.key (slice_get keys (entry.number - 1))) entries (λ i e at. is_key e.key (slice_get keys (e.number - 1)) (good.keyed i e at)))
  where
    numbered : (k : ℕ) → 1 ≤ k → k < 1 + length keys → list_any (λ entry. entry.number == k) entries ≡ true
    numbered k low high =
        let key = there keys (k - 1) (omega arith) in
        let back : k - 1 + 1 ≡ k = omega arith in
        let on = subst (In (record { key = key.0; number = k - 1 + 1 })) (sym (good_is_order entries keys good)) (In-key_order keys (k - 1) key.0 key.1) in
        any_in (λ entry. entry.number == k) entries (record { key = key.0; number = k - 1 + 1 }) on (eq-eqb (k - 1 + 1) k back)

pub not_good : (entries : List Entry) (keys : List ℕ) → (IsGoodIndex entries keys → ⊥) → is_good_index entries keys ≡ false
not_good entries keys bad = (elim (is_good_index entries keys) as (λ b. is_good_index entries keys ≡ b → b ≡ false) [
  | true ↦ λ t. absurd (bad (from_good entries keys t))
  | false ↦ λ t. refl
]) refl

-- the key order of keys that are distinct is a good index
pub order_is_good : (keys : List ℕ) → Ascends (key_order keys) → is_good_index (key_order keys) keys ≡ true
order_is_good keys up = to_good (key_order keys) keys (record {
  count = length-key_order keys;
  ascending = ascends_get (key_order keys) up;
  in_range = λ i e at. let back = In-key_order_back keys e (In-from_get (key_order keys) i e at) in let low = back.0 in let within = got_within keys (e.number - 1) e.key back.1 in (low, omega arith);
  keyed = λ i e at. (In-key_order_back keys e (In-from_get (key_order keys) i e at)).1;
})

-- and no other index is good
pub good_ascends : (entries : List Entry) (keys : List ℕ) → is_good_index entries keys ≡ true → Ascends (key_order keys)
good_ascends entries keys good = let g = from_good entries keys good in subst Ascends (good_is_order entries keys g) (Ascends-from_get entries g.ascending)

pub good_order : (entries : List Entry) (keys : List ℕ) → is_good_index entries keys ≡ true → entries ≡ key_order keys
good_order entries keys good = good_is_order entries keys (from_good entries keys good)
