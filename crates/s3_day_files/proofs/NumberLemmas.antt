-- Steps of the loops over the names of kept packs.
use Rattle.std.proofs.Common.{◌≡◌, ℕ, ◌+◌, ◌-◌, ◌<◌, ◌≤◌, true, false, List, [], ◌∷◌, ◌++◌, length, take, drop, get_or, refl, sym, ◌∙◌, ap, arith, add-zero, append-nil, append_assoc, suc, take_all, length-take-le, length-drop}
use Rattle.std.proofs.lemmas.List.{take_more, drop_more, drop_all}
use Rattle.s3_day_files.specs.declared.numbering.AtName.{AtName}
use Rattle.s3_day_files.specs.declared.numbering.AtName.TheVariants.{Nothing, Pack, Other}
use Rattle.s3_day_files.specs.Inner.Numbering.{before_gap, begins_with_gap, packs_from}

next_first : (first n : ℕ) → first + 1 + n ≡ first + suc n
next_first first n = omega arith

pub packs_append : (first : ℕ) (xs ys : List AtName) → packs_from first (xs ++ ys) ≡ packs_from first xs ++ packs_from (first + length xs) ys
packs_append first [] ys = ap (λ n. packs_from n ys) (sym (add-zero first))
packs_append first (Nothing ∷ xs) ys = packs_append (first + 1) xs ys ∙ ap (λ n. packs_from (first + 1) xs ++ packs_from n ys) (next_first first (length xs))
packs_append first (Pack ∷ xs) ys =
    ap (λ l. first ∷ l) (packs_append (first + 1) xs ys ∙ ap (λ n. packs_from (first + 1) xs ++ packs_from n ys) (next_first first (length xs)))
packs_append first (Other ∷ xs) ys = packs_append (first + 1) xs ys ∙ ap (λ n. packs_from (first + 1) xs ++ packs_from n ys) (next_first first (length xs))

place_of : (xs : List AtName) (i : ℕ) → i < length xs → 1 + length (take i xs) ≡ i + 1
place_of xs i small =
    let within : i ≤ length xs = omega arith in
    ap (λ n. 1 + n) (length-take-le i xs within) ∙ turn i
  where
    turn : (n : ℕ) → 1 + n ≡ n + 1
    turn n = omega arith

pub packs_step : (xs : List AtName) (i : ℕ) (d : AtName) → i < length xs → packs_from 1 (take (i + 1) xs) ≡ packs_from 1 (take i xs) ++ packs_from (i + 1) (get_or xs i d ∷ [])
packs_step xs i d small =
    ap (packs_from 1) (take_more xs i d small)
    ∙ packs_append 1 (take i xs) (get_or xs i d ∷ [])
    ∙ ap (λ n. packs_from 1 (take i xs) ++ packs_from n (get_or xs i d ∷ [])) (place_of xs i small)

gap_empties : (ys : List AtName) → begins_with_gap ys ≡ true → before_gap ys ≡ []
gap_empties [] found = refl
gap_empties (y ∷ ys) found = rw found refl

passes : (y : AtName) (ys : List AtName) → begins_with_gap (y ∷ ys) ≡ false → before_gap (y ∷ ys) ≡ y ∷ before_gap ys
passes y ys none = rw none refl

pub gap_step : (xs : List AtName) (i : ℕ) → i < length xs → begins_with_gap (drop i xs) ≡ false → before_gap xs ≡ take i xs ++ before_gap (drop i xs) → before_gap xs ≡ take (i + 1) xs ++ before_gap (drop (i + 1) xs)
gap_step xs i small none so_far =
    let x : AtName = get_or xs i Nothing in
    let rest : List AtName = drop (i + 1) xs in
    let split : drop i xs ≡ x ∷ rest = drop_more xs i Nothing small in
    so_far
    ∙ ap (λ l. take i xs ++ l) (ap before_gap split ∙ passes x rest (sym (ap begins_with_gap split) ∙ none))
    ∙ sym (append_assoc (take i xs) (x ∷ []) (before_gap rest))
    ∙ ap (λ l. l ++ before_gap rest) (sym (take_more xs i Nothing small))

pub gap_found : (xs : List AtName) (i : ℕ) → begins_with_gap (drop i xs) ≡ true → before_gap xs ≡ take i xs ++ before_gap (drop i xs) → take i xs ≡ before_gap xs
gap_found xs i found so_far = sym (so_far ∙ ap (λ l. take i xs ++ l) (gap_empties (drop i xs) found) ∙ append-nil (take i xs))

pub gap_none : (xs : List AtName) (i : ℕ) → length xs ≤ i → before_gap xs ≡ take i xs ++ before_gap (drop i xs) → xs ≡ before_gap xs
gap_none xs i all so_far =
    sym (so_far ∙ ap (λ l. l ++ before_gap (drop i xs)) (take_all i xs all) ∙ ap (λ l. xs ++ before_gap l) (drop_all i xs all) ∙ append-nil xs)

-- the rest of a slice is read to its end
pub rest_is : (xs : List AtName) (i : ℕ) → take (length xs - i) (drop i xs) ≡ drop i xs
rest_is xs i =
    let within : length (drop i xs) ≤ length xs - i = rw (length-drop i xs) (omega arith) in
    take_all (length xs - i) (drop i xs) within
