-- Lists of which an element is set or looked for.
use Rattle.std.proofs.Common.{◌≡◌, ◌≢◌, ◌<◌, ◌≤◌, ◌+◌, ◌-◌, ◌⊎◌, inl, inr, ℕ, zero, suc, Bool, true, false, ◌||◌, List, [], ◌∷◌, map, length, slice_index_or, arith, refl, ap, sym, ◌∙◌}
use Rattle.std.specs.Prelude.{slice_get, slice_set, Some, option_map, cond}
use Rattle.std.specs.List.{All, Contains, list_any, position_from}
use Rattle.std.proofs.lemmas.Option.{slice_get-map, slice_get_within}

pub get_mapped : {X Y : Type 0} (f : X → Y) (xs : List X) (i : ℕ) (x : X) → slice_get xs i ≡ Some x → slice_get (map f xs) i ≡ Some (f x)
get_mapped f xs i x h = slice_get-map f xs i ∙ ap (option_map f) h

pub map_set : {X Y : Type 0} (f : X → Y) (xs : List X) (i : ℕ) (x : X) → map f (slice_set xs i x) ≡ slice_set (map f xs) i (f x)
map_set f [] i x = refl
map_set f (y ∷ xs) zero x = refl
map_set f (y ∷ xs) (suc i) x = ap (λ zs. f y ∷ zs) (map_set f xs i x)

-- where an element is set to one that gives the same
pub map_stays : {X Y : Type 0} (f : X → Y) (xs : List X) (p : ℕ) (x y : X) → slice_get xs p ≡ Some x → f y ≡ f x → map f (slice_set xs p y) ≡ map f xs
map_stays f [] p x y there same = refl
map_stays f (z ∷ xs) zero x y there same = ap (λ w. w ∷ map f xs) (same ∙ ap f (let e : x ≡ z = cc in e))
map_stays f (z ∷ xs) (suc p) x y there same = ap (λ ws. f z ∷ ws) (map_stays f xs p x y there same)

pub any_set : {X : Type 0} (t : X → Bool) (xs : List X) (i : ℕ) (x y : X) → slice_get xs i ≡ Some x → t y ≡ t x → list_any t (slice_set xs i y) ≡ list_any t xs
any_set t [] i x y h same = refl
any_set t (z ∷ xs) zero x y h same = ap (λ b. b || list_any t xs) (same ∙ ap t (let e : x ≡ z = cc in e))
any_set t (z ∷ xs) (suc i) x y h same = ap (λ b. t z || b) (any_set t xs i x y h same)

pub get_set : {X : Type 0} (xs : List X) (p i : ℕ) (y z : X) → slice_get (slice_set xs p y) i ≡ Some z → ((i ≡ p) × (y ≡ z)) ⊎ ((i ≢ p) × (slice_get xs i ≡ Some z))
get_set [] p i y z h = absurd cc
get_set (x ∷ xs) zero zero y z h = inl (refl, cc)
get_set (x ∷ xs) zero (suc i) y z h = inr (λ same. omega (arith, same), h)
get_set (x ∷ xs) (suc p) zero y z h = inr (λ same. omega (arith, same), h)
get_set (x ∷ xs) (suc p) (suc i) y z h = elim (get_set xs p i y z h) [
  | inl here ↦ inl (ap suc here.0, here.1)
  | inr there ↦ inr (λ same. there.0 (omega (arith, same)), there.1)
]

pub position_map : {X Y : Type 0} (f : X → Y) (t : Y → Bool) (i : ℕ) (xs : List X) → position_from t i (map f xs) ≡ position_from (λ x. t (f x)) i xs
position_map f t i [] = refl
position_map f t i (x ∷ xs) = ap (cond (t (f x)) (Some i)) (position_map f t (i + 1) xs)

later : {X : Type 0} (t : X → Bool) (i : ℕ) (xs : List X) (p : ℕ) → position_from t i xs ≡ Some p → i ≤ p
later t i [] p h = absurd cc
later {X} t i (y ∷ xs) p h = by (t y) h (later t (i + 1) xs p)
  where
    by : (b : Bool) → cond b (Some i) (position_from t (i + 1) xs) ≡ Some p → (position_from t (i + 1) xs ≡ Some p → i + 1 ≤ p) → i ≤ p
    by true e go = let same : i ≡ p = cc in omega (arith, same)
    by false e go = omega (arith, go e)

found_from : {X : Type 0} (t : X → Bool) (i : ℕ) (xs : List X) (p : ℕ) (x : X) → position_from t i xs ≡ Some p → slice_get xs (p - i) ≡ Some x → t x ≡ true
found_from t i [] p x h there = absurd cc
found_from {X} t i (y ∷ xs) p x h there = by (t y) refl h (found_from t (i + 1) xs p x)
  where
    by : (b : Bool) → t y ≡ b → cond b (Some i) (position_from t (i + 1) xs) ≡ Some p → (position_from t (i + 1) xs ≡ Some p → slice_get xs (p - (i + 1)) ≡ Some x → t x ≡ true) → t x ≡ true
    by true e h go =
        let same : i ≡ p = cc in
        let at : p - i ≡ zero = omega (arith, same) in
        let first : Some y ≡ Some x = sym (ap (slice_get (y ∷ xs)) at) ∙ there in
        let is : y ≡ x = cc in
        sym (ap t is) ∙ e
    by false e h go =
        let past : i + 1 ≤ p = later t (i + 1) xs p h in
        let at : p - i ≡ suc (p - (i + 1)) = omega (arith, past) in
        go h (sym (ap (slice_get (y ∷ xs)) at) ∙ there)

-- an element that passes a test as the old one did
pub position_set : {X : Type 0} (t : X → Bool) (i : ℕ) (xs : List X) (p : ℕ) (x y : X) → slice_get xs p ≡ Some x → t y ≡ t x → position_from t i (slice_set xs p y) ≡ position_from t i xs
position_set t i [] p x y there same = refl
position_set t i (z ∷ xs) zero x y there same = ap (λ b. cond b (Some i) (position_from t (i + 1) xs)) (same ∙ ap t (let e : x ≡ z = cc in e))
position_set t i (z ∷ xs) (suc p) x y there same = ap (cond (t z) (Some i)) (position_set t (i + 1) xs p x y there same)

pub within_get : {X : Type 0} (xs : List X) (p : ℕ) (x : X) → slice_get xs p ≡ Some x → p < length xs
within_get xs p x there = slice_get_within xs p x there

-- the first element that passes a test passes it
pub found_passes : {X : Type 0} (t : X → Bool) (xs : List X) (p : ℕ) (x : X) → position_from t 0 xs ≡ Some p → slice_get xs p ≡ Some x → t x ≡ true
found_passes t xs p x h there = let at : p - 0 ≡ p = omega arith in found_from t 0 xs p x h (ap (slice_get xs) at ∙ there)

pub all_contained : (P : ℕ → Type 0) (xs : List ℕ) → ((n : ℕ) → Contains xs n → P n) → All P xs
all_contained P xs each = λ k d lt. each (slice_index_or xs k d) (k, lt, any_default xs k (slice_index_or xs k d) d lt)
  where
    any_default : (xs : List ℕ) (k d e : ℕ) → k < length xs → slice_index_or xs k d ≡ slice_index_or xs k e
    any_default [] k d e lt = absurd (omega arith)
    any_default (x ∷ xs) zero d e lt = refl
    any_default (x ∷ xs) (suc k) d e lt = any_default xs k d e (omega arith)
