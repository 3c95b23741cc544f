-- Lemmas about first errors.
use Rattle.std.proofs.Common.{◌≡◌, ℕ, ◌+◌, ◌*◌, ◌<◌, List, [], ◌∷◌, ◌++◌, Bool, true, false, cond, not, refl, sym, ◌∙◌, ap, inl, inr, suc, arith, length, take, drop, get_or, lit<, ltb-true, lt-ltb}
use Rattle.std.proofs.lemmas.List.{take_more, flat_map_more}
use Rattle.std.specs.Prelude.{Option, Some, None, ◌==◌, ◌||◌, find, nat_lt}
use Rattle.std.specs.List.{after_first, flat_map, position_or_len}
use Rattle.std.proofs.lemmas.Bool.{cases_Bool, eqb-true, true≢false}
use Rattle.std.proofs.lemmas.Bool.Decides.{nat_tests}
use Rattle.s3_ocl.specs.declared.faults.JobFault.{JobFault}
use Rattle.s3_ocl.specs.declared.faults.JobFault.TheVariants.{NotOcl, Keyword, Value, NoRun, Twice}
use Rattle.s3_ocl.specs.declared.faults.Mark.{Mark}
use Rattle.s3_ocl.specs.declared.parameters.Parameter.{Parameter}
use Rattle.s3_ocl.specs.declared.statements.Piece.{Piece}
use Rattle.s3_ocl.specs.Contents.{gives, is_given, is_parameter, rank, stands_at}
use Rattle.s3_ocl.specs.Faults.{again_faults, earlier, fault_number, file_parameters, first_fault, is_before, twice_on}
use Rattle.s3_ocl.specs.Inner.Steps.{gives_twice, is_given_in}

pub earlier-none : (a : Option Mark) → earlier a None ≡ a
earlier-none None = refl
earlier-none (Some a) = refl

small_number : (fault : JobFault) → fault_number fault < 8
small_number NotOcl = lit< tt
small_number Keyword = lit< tt
small_number Value = lit< tt
small_number NoRun = lit< tt
small_number Twice = lit< tt

-- the card and number of an error as one number
weight : Mark → ℕ
weight mark = 8 * mark.card + fault_number mark.fault

is_before-less : (a b : Mark) → is_before a b ≡ nat_lt (weight a) (weight b)
unfolding weight
is_before-less a b =
    let p = small_number a.fault in
    let q = small_number b.fault in
    less a.card b.card (fault_number a.fault) (fault_number b.fault) p q
  where
    less : (c d m n : ℕ) → m < 8 → n < 8 → cond (c == d) (nat_lt m n) (nat_lt c d) ≡ nat_lt (8 * c + m) (8 * d + n)
    less c d m n p q = grind (arith, nat_tests)

before_both : (a b c : ℕ) → nat_lt b a ≡ true → nat_lt c b ≡ true → nat_lt c a ≡ true
before_both a b c p q = lt-ltb c a (omega (arith, ltb-true b a p, ltb-true c b q))

behind_both : (a b c : ℕ) → nat_lt b a ≡ false → nat_lt c b ≡ false → nat_lt c a ≡ false
behind_both a b c p q = grind (arith, nat_tests)

before_trans : (a b c : Mark) → is_before b a ≡ true → is_before c b ≡ true → is_before c a ≡ true
before_trans a b c p q =
    is_before-less c a ∙ before_both (weight a) (weight b) (weight c) (sym (is_before-less b a) ∙ p) (sym (is_before-less c b) ∙ q)

behind_trans : (a b c : Mark) → is_before b a ≡ false → is_before c b ≡ false → is_before c a ≡ false
behind_trans a b c p q =
    is_before-less c a ∙ behind_both (weight a) (weight b) (weight c) (sym (is_before-less b a) ∙ p) (sym (is_before-less c b) ∙ q)

min_assoc : (a b c : Mark) → earlier (earlier (Some a) (Some b)) (Some c) ≡ earlier (Some a) (earlier (Some b) (Some c))
min_assoc a b c = elim (cases_Bool (is_before b a)) [
  | inl ba ↦ (elim (cases_Bool (is_before c b)) [
    | inl cb ↦ rw (ba, cb, before_trans a b c ba cb) refl
    | inr cb ↦ rw (ba, cb) (rw ba refl)
  ])
  | inr ba ↦ (elim (cases_Bool (is_before c b)) [
    | inl cb ↦ rw (ba, cb) refl
    | inr cb ↦ rw (ba, cb, behind_trans a b c ba cb) (rw ba refl)
  ])
]

pub earlier_assoc : (a b c : Option Mark) → earlier (earlier a b) c ≡ earlier a (earlier b c)
earlier_assoc None b c = refl
earlier_assoc (Some a) None c = refl
earlier_assoc (Some a) (Some b) None = earlier-none (earlier (Some a) (Some b))
earlier_assoc (Some a) (Some b) (Some c) = min_assoc a b c

pub first_fault-append : (xs ys : List Mark) → first_fault (xs ++ ys) ≡ earlier (first_fault xs) (first_fault ys)
unfolding first_fault
first_fault-append [] ys = refl
first_fault-append (x ∷ xs) ys = ap (earlier (Some x)) (first_fault-append xs ys) ∙ sym (earlier_assoc (Some x) (first_fault xs) (first_fault ys))

flat_map-take : {X : Type 0} (f : X → List Mark) (xs : List X) (i : ℕ) (d : X) → i < length xs
    → flat_map f (take (i + 1) xs) ≡ flat_map f (take i xs) ++ f (get_or xs i d)
flat_map-take f xs i d in' = ap (flat_map f) (take_more xs i d in') ∙ sym (flat_map_more f [] (take i xs) (get_or xs i d))

pub no_fault_yet : {X : Type 0} (f : X → List Mark) (xs : List X) → None ≡ first_fault (flat_map f (take 0 xs))
unfolding first_fault
no_fault_yet f xs = refl

-- the first error after one more element
pub fault_more : {X : Type 0} (f : X → List Mark) (xs : List X) (i : ℕ) (d : X) (fault next new : Option Mark) → i < length xs
    → fault ≡ first_fault (flat_map f (take i xs)) → next ≡ first_fault (f (get_or xs i d)) → new ≡ earlier fault next
    → new ≡ first_fault (flat_map f (take (i + 1) xs))
fault_more f xs i d fault next new in' so_far is both =
    both ∙ (ap (λ m. earlier m next) so_far ∙ (ap (earlier (first_fault (flat_map f (take i xs)))) is
    ∙ (sym (first_fault-append (flat_map f (take i xs)) (f (get_or xs i d))) ∙ sym (ap first_fault (flat_map-take f xs i d in')))))

pub all_faults : (a b c d e : List Mark)
    → earlier (earlier (earlier (earlier (first_fault a) (first_fault b)) (first_fault c)) (first_fault d)) (first_fault e)
    ≡ first_fault ((((a ++ b) ++ c) ++ d) ++ e)
all_faults a b c d e =
    sym (first_fault-append (((a ++ b) ++ c) ++ d) e
    ∙ ap (λ m. earlier m (first_fault e)) (first_fault-append ((a ++ b) ++ c) d
    ∙ ap (λ m. earlier m (first_fault d)) (first_fault-append (a ++ b) c
    ∙ ap (λ m. earlier m (first_fault c)) (first_fault-append a b))))

same_parameter : (given other : Parameter) → rank other ≡ rank given → (at : Option Parameter) → is_parameter given at ≡ is_parameter other at
same_parameter given other e None = refl
same_parameter given other e (Some parameter) = ap (λ n. rank parameter == n) (sym e)

neither : (a b : Bool) → (a || b) ≡ false → (a ≡ false) × (b ≡ false)
neither true b h = absurd (true≢false h)
neither false b h = (refl, h)

-- no piece gives a parameter of the rank of one that none gives
none_found : (pieces : List Piece) (given other : Parameter) → rank other ≡ rank given → is_given other pieces ≡ false → find (gives given) pieces ≡ None
none_found [] given other e h = refl
none_found (piece ∷ pieces) given other e h =
    let parts = neither (gives other piece) (is_given other pieces) h in
    rw (same_parameter given other e (stands_at piece.entry) ∙ parts.0) (none_found pieces given other e parts.1)

once_among : (pieces : List Piece) (given : Parameter) (at : Option Parameter) → is_given_in pieces at ≡ false → is_parameter given at ≡ true
    → find (gives given) pieces ≡ None
once_among pieces given None h is = absurd (true≢false (sym is))
once_among pieces given (Some other) h is = none_found pieces given other (eqb-true (rank other) (rank given) is) h

-- no piece gives a parameter after the first one that does
found_once : (pieces : List Piece) (given : Parameter) → gives_twice pieces ≡ false → find (gives given) (after_first (gives given) pieces) ≡ None
found_once [] given h = refl
found_once (piece ∷ pieces) given h =
    let parts = neither (is_given_in pieces (stands_at piece.entry)) (gives_twice pieces) h in
    by (gives given piece) refl parts.0 (found_once pieces given parts.1)
  where
    by : (b : Bool) → gives given piece ≡ b → is_given_in pieces (stands_at piece.entry) ≡ false
        → find (gives given) (after_first (gives given) pieces) ≡ None
        → find (gives given) (drop (cond (not b) (1 + position_or_len (gives given) pieces) 0 + 1) (piece ∷ pieces)) ≡ None
    by true is here later = once_among pieces given (stands_at piece.entry) here is
    by false is here later =
        let e : 1 + position_or_len (gives given) pieces + 1 ≡ suc (position_or_len (gives given) pieces + 1) = omega arith in
        rw e later

none_more : {X Y : Type 0} (f : X → List Y) (xs : List X) → ((x : X) → f x ≡ []) → flat_map f xs ≡ []
none_more f [] h = refl
none_more f (x ∷ xs) h = ap (λ ys. ys ++ flat_map f xs) (h x) ∙ none_more f xs h

-- there is no fault if no parameter is given twice
pub none_twice : (pieces : List Piece) → gives_twice pieces ≡ false → None ≡ first_fault (flat_map (again_faults pieces) file_parameters)
unfolding first_fault
none_twice pieces h = sym (ap first_fault (none_more (again_faults pieces) file_parameters (λ given. ap twice_on (found_once pieces given h))))
