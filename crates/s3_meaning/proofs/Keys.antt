-- The order of keys, and the least of them.
use Rattle.std.proofs.Common.{◌≡◌, ℕ, ◌<◌, ◌≤◌, ◌==◌, nat_lt, Bool, true, false, ◌&&◌, ◌||◌, if◌then◌else◌, List, [], ◌∷◌, get_or, Option, Some, None, All, IsSome, refl, ◌∙◌, sym, subst, arith}
use Rattle.std.proofs.lemmas.Bool.{true≢false, or_parts, or_from, and_parts, and_left, and_right, ltb-true, ltb-false, le-ltb, eqb-true, eq-eqb, ne_eqb}
use Rattle.std.proofs.lemmas.List.Elements.{All-nil, All-cons, All-head, All-tail}
use Rattle.s3_meaning.specs.Selection.{Selected, key_of, is_below, is_less, lesser, least}

by_test : {A : Type 0} (b : Bool) → (b ≡ true → A) → (b ≡ false → A) → A
by_test true at_true at_false = at_true refl
by_test false at_true at_false = at_false refl

not_both : {A : Type 0} (b : Bool) → b ≡ true → b ≡ false → A
not_both b t f = absurd (true≢false (sym t ∙ f))

-- no key is less than itself
below-self : (a : List ℕ) → is_below a a ≡ false
below-self [] = refl
below-self (a ∷ as') = or_from (nat_lt a a) (a == a && is_below as' as') (le-ltb a a (omega arith)) (and_right (a == a) (is_below as' as') (below-self as'))

-- of two keys at most one is less than the other
below-once : (a b : List ℕ) → is_below a b ≡ true → is_below b a ≡ false
below-once [] [] h = refl
below-once [] (b ∷ bs) h = refl
below-once (a ∷ as') [] h = not_both false (sym (sym h)) refl
below-once (a ∷ as') (b ∷ bs) h = by_test (nat_lt a b)
    (λ lower. or_from (nat_lt b a) (b == a && is_below bs as') (le-ltb b a (at_most (ltb-true a b lower))) (and_left (b == a) (is_below bs as') (ne_eqb b a (λ e. apart (ltb-true a b lower) e))))
    (λ same. let equal : ((a == b) ≡ true) × (is_below as' bs ≡ true) = and_parts (a == b) (is_below as' bs) (second (nat_lt a b) _ h same) in
    or_from (nat_lt b a) (b == a && is_below bs as') (le-ltb b a (of_equal (eqb-true a b equal.0))) (and_right (b == a) (is_below bs as') (below-once as' bs equal.1)))
  where
    at_most : a < b → a ≤ b
    at_most l = omega arith

    of_equal : a ≡ b → a ≤ b
    of_equal e = omega arith

    apart : a < b → b ≡ a → ⊥
    apart l e = omega arith

    second : (x y : Bool) → (x || y) ≡ true → x ≡ false → y ≡ true
    second true y h f = not_both true refl f
    second false y h f = h

-- not being less is transitive
below-along : (a b c : List ℕ) → is_below a b ≡ false → is_below b c ≡ false → is_below a c ≡ false
below-along [] [] c h g = g
below-along [] (b ∷ bs) c h g = not_both true refl h
below-along (a ∷ as') b [] h g = refl
below-along (a ∷ as') [] (c ∷ cs) h g = not_both true refl g
below-along (a ∷ as') (b ∷ bs) (c ∷ cs) h g =
    let first : (nat_lt a b ≡ false) × ((a == b && is_below as' bs) ≡ false) = or_parts (nat_lt a b) _ h in
    let next : (nat_lt b c ≡ false) × ((b == c && is_below bs cs) ≡ false) = or_parts (nat_lt b c) _ g in
    or_from (nat_lt a c) (a == c && is_below as' cs) (le-ltb a c (through (ltb-false a b first.0) (ltb-false b c next.0)))
    (by_test (a == c)
    (λ same. let equal : (a ≡ b) × (b ≡ c) = between (ltb-false a b first.0) (ltb-false b c next.0) (eqb-true a c same) in
    and_right (a == c) (is_below as' cs) (below-along as' bs cs (rest (a == b) _ first.1 (eq-eqb a b equal.0)) (rest (b == c) _ next.1 (eq-eqb b c equal.1))))
    (λ other. and_left (a == c) (is_below as' cs) other))
  where
    through : b ≤ a → c ≤ b → c ≤ a
    through l m = omega arith

    between : b ≤ a → c ≤ b → a ≡ c → (a ≡ b) × (b ≡ c)
    between l m e = (omega arith, omega arith)

    rest : (x y : Bool) → (x && y) ≡ false → x ≡ true → y ≡ false
    rest true y h t = h
    rest false y h t = not_both false t refl

less-along : (a b c : Option (List ℕ)) → IsSome b → is_less a b ≡ false → is_less b c ≡ false → is_less a c ≡ false
less-along None b c some h g = refl
less-along (Some a) None c some h g = absurd (true≢false (sym some))
less-along (Some a) (Some b) None some h g = refl
less-along (Some a) (Some b) (Some c) some h g = below-along a b c h g

less-once : (a b : Option (List ℕ)) → is_less a b ≡ true → is_less b a ≡ false
less-once None b h = not_both false h refl
less-once (Some a) None h = refl
less-once (Some a) (Some b) h = below-once a b h

less-self : (a : Option (List ℕ)) → is_less a a ≡ false
less-self None = refl
less-self (Some a) = below-self a

abbrev NotBelow : Selected → Selected → Type 0
NotBelow selected head = is_less (key_of head) (key_of selected) ≡ false

-- no head has a lower key than this one
abbrev IsLeast : List Selected → Selected → Type 0
IsLeast heads selected = All (NotBelow selected) heads

same_some : {A : Type 0} (x y : A) → Some x ≡ Some y → x ≡ y
same_some x y e = cc

not_none : {A B : Type 0} (x : A) → Some x ≡ None → B
not_none x e = absurd (apart e)
  where
    apart : Some x ≡ None → ⊥
    apart e = cc

-- if no head is the least, there is no head
none-left : (heads : List Selected) (selected : Selected) → least heads ≡ None → IsLeast heads selected
none-left [] selected e = All-nil (NotBelow selected)
none-left (head ∷ heads) selected e = not_none (lesser head (least heads)) e

record Found (heads : List Selected) (selected : Selected) : Type 0 where
  lowest : IsLeast heads selected
  has_key : IsSome (key_of selected)

least-found : (heads : List Selected) (selected : Selected) → All (λ head. IsSome (key_of head)) heads → least heads ≡ Some selected → Found heads selected
least-found [] selected keys e = not_none selected (sym e)
least-found (head ∷ heads) selected keys e = subst (Found (head ∷ heads)) (same_some _ _ e) (by_rest (λ other found. least-found heads other (All-tail (λ head. IsSome (key_of head)) head heads keys) found) (least heads) refl)
  where
    has_key : IsSome (key_of head)
    has_key = All-head (λ head. IsSome (key_of head)) head heads keys

    with_head : (other : Selected) → Found heads other → (b : Bool) → is_less (key_of other) (key_of head) ≡ b → Found (head ∷ heads) (if b then other else head)
    with_head other found true e = record { lowest = All-cons (NotBelow other) head heads (less-once (key_of other) (key_of head) e) found.lowest; has_key = found.has_key }
    with_head other found false e = record {
      lowest = All-cons (NotBelow head) head heads (less-self (key_of head)) (λ k d within. less-along (key_of (get_or heads k d)) (key_of other) (key_of head) found.has_key (found.lowest k d within) e);
      has_key = has_key;
    }

    by_rest : ((other : Selected) → least heads ≡ Some other → Found heads other) → (rest : Option Selected) → least heads ≡ rest → Found (head ∷ heads) (lesser head rest)
    by_rest found None e = record { lowest = All-cons (NotBelow head) head heads (less-self (key_of head)) (none-left heads head e); has_key = has_key }
    by_rest found (Some other) e = with_head other (found other e) (is_less (key_of other) (key_of head)) refl

pub least-key : (heads : List Selected) (selected : Selected) → All (λ head. IsSome (key_of head)) heads → least heads ≡ Some selected → All (λ head. is_less (key_of head) (key_of selected) ≡ false) heads
least-key heads selected keys e = (least-found heads selected keys e).lowest
