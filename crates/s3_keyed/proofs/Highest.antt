-- Whether a key is above all others.
use Rattle.std.proofs.Common.{◌≡◌, ℕ, zero, suc, ◌+◌, ◌-◌, ◌<◌, ◌≤◌, ◌⊎◌, inl, inr, Bool, true, false, ◌&&◌, nat_lt, List, [], ◌∷◌, length, map, slice_get, Some, Result, Ok, Err, IfOk, refl, sym, ap, subst, ◌∙◌, arith}
use Rattle.std.proofs.lemmas.Bool.{ltb-true}
use Rattle.std.proofs.lemmas.Option.{slice_get_within}
use Rattle.std.specs.List.{list_all, range_with_len}
use Rattle.s3_store.specs.declared.sector_fault.SectorFault.{SectorFault}
use Rattle.s3_keyed.specs.KeyOrder.{Entry, key_order, insert_entries, ascends, keys_in}
use Rattle.s3_keyed.specs.Index.{Layout, entry_at, index_in}
use Rattle.s3_keyed.proofs.Order.{by_lt, below, In, In-from_get, get_from_In, In-key_order, In-key_order_back, In-inserts_left, In-inserts_right, In-inserts_cases}
use Rattle.s3_keyed.proofs.Goodness.{to_ascends, ascends_get, both}
use Rattle.s3_keyed.proofs.Checked.{length-listed}

left : (a b : Bool) → (a && b) ≡ true → a ≡ true
left true b h = refl
left false b h = absurd cc

right : (a b : Bool) → (a && b) ≡ true → b ≡ true
right true b h = h
right false b h = absurd cc

module _ (k : ℕ) where
  -- all of them are below the key
  abbrev all_below : List ℕ → Bool
  all_below keys = list_all (λ other. nat_lt other k) keys

  all_from : (keys : List ℕ) → ((i m : ℕ) → slice_get keys i ≡ Some m → m < k) → all_below keys ≡ true
  all_from [] h = refl
  all_from (x ∷ keys) h = both (nat_lt x k) (all_below keys) (below x k (h zero x refl)) (all_from keys (λ i m got. h (suc i) m got))

  all_at : (keys : List ℕ) (i m : ℕ) → all_below keys ≡ true → slice_get keys i ≡ Some m → m < k
  all_at [] i m all got = absurd cc
  all_at (x ∷ keys) zero m all got = let same : x ≡ m = cc in subst (λ y. y < k) same (ltb-true x k (left (nat_lt x k) (all_below keys) all))
  all_at (x ∷ keys) (suc i) m all got = all_at keys i m (right (nat_lt x k) (all_below keys) all) got

  entries_from_in : (es : List Entry) → ((e : Entry) → In e es → e.key < k) → all_below (keys_in es) ≡ true
  unfolding In
  entries_from_in [] h = refl
  entries_from_in (e ∷ es) h = both (nat_lt e.key k) (all_below (keys_in es)) (below e.key k (h e (inl refl))) (entries_from_in es (λ f on. h f (inr on)))

  entries_in : (es : List Entry) (e : Entry) → all_below (keys_in es) ≡ true → In e es → e.key < k
  unfolding In
  entries_in [] e all on = absurd on
  entries_in (f ∷ es) e all on = elim on [
    | inl same ↦ subst (λ g. g.key < k) (sym same) (ltb-true f.key k (left (nat_lt f.key k) (all_below (keys_in es)) all))
    | inr later ↦ entries_in es e (right (nat_lt f.key k) (all_below (keys_in es)) all) later
  ]

  not_all : (es : List Entry) (e : Entry) → In e es → k ≤ e.key → all_below (keys_in es) ≡ false
  not_all es e on high = (elim (all_below (keys_in es)) as (λ b. all_below (keys_in es) ≡ b → b ≡ false) [
    | true ↦ λ t. let less = entries_in es e t on in absurd (omega arith)
    | false ↦ λ t. refl
  ]) refl

  -- the last of them says it
  pub highest_says : (es : List Entry) (n : ℕ) (top : Entry) → ascends (keys_in es) ≡ true → length es ≡ n + 1 → slice_get es n ≡ Some top → all_below (keys_in es) ≡ nat_lt top.key k
  highest_says es n top up long got = by_lt top.key k (λ b. all_below (keys_in es) ≡ b)
      (λ lt. entries_from_in es (λ e on.
      let place = get_from_In es e on in
      let within = got_within es place.0 e place.1 in
      elim (at_or_before place.0 n (omega arith)) [
        | inl here ↦ let some : Some e ≡ Some top = sym place.1 ∙ ap (slice_get es) here ∙ got in let same : e ≡ top = cc in let key : e.key ≡ top.key = ap (λ x. x.key) same in omega arith
        | inr before ↦ let step = ascends_get es (to_ascends es up) place.0 n e top before place.1 got in omega arith
      ]))
      (λ le. not_all es top (In-from_get es n top got) le)
    where
      got_within : (es : List Entry) (i : ℕ) (e : Entry) → slice_get es i ≡ Some e → i < length es
      got_within [] i e got = absurd cc
      got_within (f ∷ es) zero e got = omega arith
      got_within (f ∷ es) (suc i) e got = let later = got_within es i e got in omega arith

      at_or_before : (i n : ℕ) → i < n + 1 → (i ≡ n) ⊎ (i < n)
      at_or_before zero zero h = inl refl
      at_or_before zero (suc n) h = inr (omega arith)
      at_or_before (suc i) zero h = absurd (omega arith)
      at_or_before (suc i) (suc n) h = elim (at_or_before i n (omega arith)) [ inl e ↦ inl (ap suc e) | inr l ↦ inr (omega arith) ]

  pub last_says : (es : List Entry) (top : Entry) → ascends (keys_in es) ≡ true → slice_get es (length es - 1) ≡ Some top → all_below (keys_in es) ≡ nat_lt top.key k
  last_says es top up got = let within = slice_get_within es (length es - 1) top got in highest_says es (length es - 1) top up (omega arith) got

  -- the keys of all records are those on the pack and those in memory
  pub order_above : (index added : List Entry) (keys : List ℕ) (b : Bool) → insert_entries index added ≡ key_order keys → all_below (keys_in added) ≡ true → all_below (keys_in index) ≡ b → all_below keys ≡ b
  order_above index added keys true order on_added on_index = all_from keys (λ i m got.
      let e : Entry = record { key = m; number = i + 1 } in
      elim (In-inserts_cases e index added (subst (In e) (sym order) (In-key_order keys i m got))) [
        | inl early ↦ entries_in index e on_index early
        | inr later ↦ entries_in added e on_added later
      ])
  order_above index added keys false order on_added on_index = (elim (all_below keys) as (λ b. all_below keys ≡ b → b ≡ false) [
    | true ↦ λ t. let bad = entries_from_in index (λ e on. all_at keys (e.number - 1) e.key t (In-key_order_back keys e (subst (In e) order (In-inserts_left e index added on))).1) in absurd cc
    | false ↦ λ t. refl
  ]) refl

  pub order_not_above : (index added : List Entry) (keys : List ℕ) → insert_entries index added ≡ key_order keys → all_below (keys_in added) ≡ false → all_below keys ≡ false
  order_not_above index added keys order on_added = (elim (all_below keys) as (λ b. all_below keys ≡ b → b ≡ false) [
    | true ↦ λ t. let bad = entries_from_in added (λ e on. all_at keys (e.number - 1) e.key t (In-key_order_back keys e (subst (In e) order (In-inserts_right e index added on))).1) in absurd cc
    | false ↦ λ t. refl
  ]) refl

pub length_index : (layout : Layout) (n : ℕ) (bytes : List ℕ) → length (index_in layout n bytes) ≡ n
unfolding index_in
length_index layout n bytes = length-listed (entry_at layout bytes) 0 n

pub none_indexed : (layout : Layout) (n k : ℕ) (bytes : List ℕ) → n ≡ 0 → list_all (λ other. nat_lt other k) (keys_in (index_in layout n bytes)) ≡ true
unfolding index_in
none_indexed layout n k bytes none = ap (λ m. list_all (λ other. nat_lt other k) (keys_in (map (entry_at layout bytes) (range_with_len 0 m)))) none

-- an answer said of one list is said of another
pub above_answer : (a b : Bool) (r : Result Bool SectorFault) → ((x : Bool) → a ≡ x → b ≡ x) → IfOk r (λ x. a ≡ x) → IfOk r (λ x. b ≡ x)
above_answer a b (Ok x) turn h = turn x h
above_answer a b (Err fault) turn h = tt
