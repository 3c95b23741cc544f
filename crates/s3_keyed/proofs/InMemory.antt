-- Entries in memory, by the halves of their keys' numbers.
use Rattle.std.proofs.Common.{◌≡◌, ℕ, zero, suc, ◌^◌, ◌<◌, ◌⊎◌, inl, inr, Bool, true, false, nat_lt, cond, List, [], ◌∷◌, map, slice_get, Some, None, refl, sym, ap, ◌∙◌, arith}
use Rattle.std.proofs.lemmas.Bool.{ltb-true}
use Rattle.std.specs.Ordering.{is_eq, nat_cmp, ordering_then}
use Rattle.std.specs.declared.cmp.Ordering.{Ordering}
use Rattle.std.specs.BTreeMap.{insert_entry as put_entry}
use Rattle.std.specs.Map.{lookup}
use Rattle.s3_keyed.specs.declared.keys.KeyNumber.{KeyNumber}
use Rattle.s3_keyed.specs.KeyOrder.{Entry, insert_entry}
use Rattle.s3_keyed.specs.Inner.Added.{whole_number, entry_under}
use Rattle.s3_keyed.proofs.KeyNumbers.{cmp-less, cmp-greater, cmp-equal, split, digit_cmp}
use Rattle.s3_keyed.proofs.Order.{below, at_most}

pub less_is : (a k : ℕ) (r : Bool) → r ≡ nat_lt a k → r ≡ true → a < k
less_is a k r is t = ltb-true a k (sym is ∙ t)

-- ---- they are found and put in by their keys' numbers

-- numbers compare by their high halves, and then by their low ones
pub by_halves : (a b : KeyNumber) → ordering_then (nat_cmp a.high b.high) (nat_cmp a.low b.low) ≡ nat_cmp (whole_number a) (whole_number b)
by_halves a b = digit_cmp a.high b.high (256 ^ 16) a.low b.low a.in_range b.in_range

abbrev with_number : ℕ → ℕ → Entry
with_number n key = record { key = key; number = n }

module _ (cmp : KeyNumber → KeyNumber → Ordering) (by_number : (a b : KeyNumber) → cmp a b ≡ nat_cmp (whole_number a) (whole_number b)) where
  at_same : (a b : KeyNumber) → whole_number a ≡ whole_number b → is_eq (cmp a b) ≡ true
  at_same a b same = ap is_eq (by_number a b ∙ cmp-equal (whole_number a) (whole_number b) same)

  not_at : (a b : KeyNumber) → (whole_number a ≡ whole_number b → ⊥) → is_eq (cmp a b) ≡ false
  not_at a b apart = elim (split (whole_number a) (whole_number b)) [
    | inl lower ↦ ap is_eq (by_number a b ∙ cmp-less (whole_number a) (whole_number b) lower)
    | inr rest ↦ elim rest [
      | inl same ↦ absurd (apart same)
      | inr higher ↦ ap is_eq (by_number a b ∙ cmp-greater (whole_number a) (whole_number b) higher)
    ]
  ]

  decide : (a b : ℕ) → (a ≡ b) ⊎ (a ≡ b → ⊥)
  decide a b = elim (split a b) [
    | inl lower ↦ inr (λ same. absurd (omega arith))
    | inr rest ↦ elim rest [ inl same ↦ inl same | inr higher ↦ inr (λ same. absurd (omega arith)) ]
  ]

  none_left : (k : KeyNumber) (p : KeyNumber × ℕ) (es : List (KeyNumber × ℕ)) → lookup (λ q. is_eq (cmp k q)) (p ∷ es) ≡ None → (whole_number k ≡ whole_number p.0 → ⊥) × (lookup (λ q. is_eq (cmp k q)) es ≡ None)
  none_left k p es none =
      let others = lookup (λ q. is_eq (cmp k q)) es in
      let apart : whole_number k ≡ whole_number p.0 → ⊥ = λ here. (let hit : Some p.1 ≡ None = sym (ap (λ b. cond b (Some p.1) others) (at_same k p.0 here)) ∙ none in cc) in
      (apart, sym (ap (λ b. cond b (Some p.1) others) (not_at k p.0 apart)) ∙ none)

  looked_none : (k : KeyNumber) (es : List (KeyNumber × ℕ)) → lookup (λ q. is_eq (cmp k q)) es ≡ None → (i : ℕ) (e : Entry) → slice_get (map entry_under es) i ≡ Some e → e.key ≡ whole_number k → ⊥
  looked_none k [] none i e got same = absurd cc
  looked_none k (p ∷ es) none zero e got same = let is : entry_under p ≡ e = cc in (none_left k p es none).0 (sym same ∙ ap (λ x. x.key) (sym is))
  looked_none k (p ∷ es) none (suc i) e got same = looked_none k es (none_left k p es none).1 i e got same

  looked_some : (k : KeyNumber) (es : List (KeyNumber × ℕ)) (n : ℕ) → lookup (λ q. is_eq (cmp k q)) es ≡ Some n → (i : ℕ) × (slice_get (map entry_under es) i ≡ Some (record { key = whole_number k; number = n }))
  looked_some k [] n found = absurd cc
  looked_some k (p ∷ es) n found =
      let others = lookup (λ q. is_eq (cmp k q)) es in
      elim (decide (whole_number k) (whole_number p.0)) [
        | inl here ↦
            let is : Some p.1 ≡ Some n = sym (ap (λ b. cond b (Some p.1) others) (at_same k p.0 here)) ∙ found in
            let number : p.1 ≡ n = cc in
            (zero, ap (λ m. Some (with_number p.1 m)) (sym here) ∙ ap (λ m. Some (with_number m (whole_number k))) number)
        | inr apart ↦
            let rest = looked_some k es n (sym (ap (λ b. cond b (Some p.1) others) (not_at k p.0 apart)) ∙ found) in
            (suc rest.0, rest.1)
      ]

  put : (k : KeyNumber) (n : ℕ) (es : List (KeyNumber × ℕ)) → ((i : ℕ) (e : Entry) → slice_get (map entry_under es) i ≡ Some e → e.key ≡ whole_number k → ⊥) → map entry_under (put_entry cmp es k n) ≡ insert_entry (entry_under (k, n)) (map entry_under es)
  put k n [] new = refl
  put k n (p ∷ es) new = elim (split (whole_number k) (whole_number p.0)) [
    | inl lower ↦
        let a = by_number k p.0 ∙ cmp-less (whole_number k) (whole_number p.0) lower in
        let t = below (whole_number k) (whole_number p.0) lower in
        rw (a, t) refl
    | inr rest ↦ elim rest [
      | inl same ↦ absurd (new zero (entry_under p) refl (sym same))
      | inr higher ↦
          let a = by_number k p.0 ∙ cmp-greater (whole_number k) (whole_number p.0) higher in
          let t = at_most (whole_number k) (whole_number p.0) (omega arith) in
          rw (a, t) (ap (λ l. entry_under p ∷ l) (put k n es (λ i e got. new (suc i) e got)))
    ]
  ]

  -- the same statement, in the form of the calls
  pub not_under : (k : KeyNumber) (key : ℕ) (es : List (KeyNumber × ℕ)) → whole_number k ≡ key → None ≡ lookup (λ q. is_eq (cmp k q)) es → (i : ℕ) (e : Entry) → slice_get (map entry_under es) i ≡ Some e → e.key ≡ key → ⊥
  not_under k key es is none i e got same = looked_none k es (sym none) i e got (same ∙ sym is)

  pub found_under : (k : KeyNumber) (key n : ℕ) (es : List (KeyNumber × ℕ)) → whole_number k ≡ key → Some n ≡ lookup (λ q. is_eq (cmp k q)) es → (i : ℕ) × (slice_get (map entry_under es) i ≡ Some (record { key = key; number = n }))
  found_under k key n es is found = let at = looked_some k es n (sym found) in (at.0, at.1 ∙ ap (λ m. Some (with_number n m)) is)

  pub put_under : (k : KeyNumber) (key n : ℕ) (es es' : List (KeyNumber × ℕ)) → whole_number k ≡ key → es' ≡ put_entry cmp es k n → ((i : ℕ) (e : Entry) → slice_get (map entry_under es) i ≡ Some e → e.key ≡ key → ⊥) → map entry_under es' ≡ insert_entry (record { key = key; number = n }) (map entry_under es)
  put_under k key n es es' is made new = ap (map entry_under) made ∙ put k n es (λ i e got same. new i e got (same ∙ is)) ∙ ap (λ m. insert_entry (with_number n m) (map entry_under es)) is
