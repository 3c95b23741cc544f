-- Lemmas about a search in a view of a list.
use Rattle.std.proofs.Common.{◌≡◌, ℕ, ◌<◌, List, [], ◌∷◌, Bool, true, false, refl, sym, ◌∙◌, ap, arith, subst, inl, inr, length, take, get_or}
use Rattle.std.specs.Prelude.{◌||◌, map}
use Rattle.std.specs.List.{list_all, list_any}
use Rattle.std.proofs.lemmas.Bool.{cases_Bool}
use Rattle.std.proofs.lemmas.List.{take_all}
use Rattle.std.proofs.lemmas.List.Folds.{list_all-map, list_all_at, list_any_at}

list_any-map : {X Y : Type 0} (q : Y → Bool) (v : X → Y) (xs : List X) → list_any q (map v xs) ≡ list_any (λ x. q (v x)) xs
list_any-map q v [] = refl
list_any-map q v (x ∷ xs) = ap (λ b. q (v x) || b) (list_any-map q v xs)

-- if all elements pass, the one at a place does
pub passes_at : {X Y : Type 0} (p : Y → Bool) (v : X → Y) (xs : List X) (i : ℕ) (d : X) → list_all p (map v xs) ≡ true → i < length xs → p (v (get_or xs i d)) ≡ true
passes_at p v xs i d all in' = elim (cases_Bool (p (v (get_or xs i d)))) [
  | inl good ↦ good
  | inr bad ↦ absurd (let e : list_all (λ x. p (v x)) xs ≡ false = list_all_at (λ x. p (v x)) xs i d in' bad in let f = sym (list_all-map p v xs) ∙ all in cc)
]

pub found_at : {X Y : Type 0} (q : Y → Bool) (v : X → Y) (xs : List X) (i : ℕ) (d : X) → i < length xs → q (v (get_or xs i d)) ≡ true → list_any q (map v xs) ≡ true
found_at q v xs i d in' good = list_any-map q v xs ∙ list_any_at (λ x. q (v x)) xs i d in' good

pub none_found : {X Y : Type 0} (q : Y → Bool) (v : X → Y) (xs : List X) → list_any (λ x. q (v x)) (take (length xs) xs) ≡ false → list_any q (map v xs) ≡ false
none_found q v xs none = list_any-map q v xs ∙ subst (λ (ys : _). list_any (λ x. q (v x)) ys ≡ false) (take_all (length xs) xs (omega arith)) none
