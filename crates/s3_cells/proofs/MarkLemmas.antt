-- Marks between thousands, in their places.
use Rattle.std.proofs.Common.{◌≡◌, ℕ, ◌+◌, ◌-◌, ◌<◌, ◌≤◌, ◌%◌, arith, sym, ◌∙◌, ap, true, false, ◌&&◌, suc, List, [], ◌∷◌, length, drop, get_or, drop-cons, eq-eqb, cond, Bool, map, take, ◌++◌}
use Rattle.std.specs.Bool.{◌==◌}
use Rattle.std.proofs.lemmas.List.{drop_all, length-drop, map-append, take_more}
use Rattle.s3_cells.specs.Inner.Marks.{are_in_place, is_due, is_formula_start, is_risky}

in_place_at : (mark : ℕ) (whole : List ℕ) (i : ℕ) → i < length whole → are_in_place mark (drop i whole) ≡ (is_due ((length whole - i) % 4 == 0) (get_or whole i 0 == mark) && are_in_place mark (drop (i + 1) whole))
unfolding are_in_place
in_place_at mark whole i h =
    let further : suc i ≡ i + 1 = omega arith in
    let left : length (drop (i + 1) whole) + 1 ≡ length whole - i = omega (arith, length-drop (i + 1) whole) in
    ap (are_in_place mark) (drop-cons whole i 0 h ∙ ap (λ n. get_or whole i 0 ∷ drop n whole) further)
    ∙ ap (λ n. is_due (n % 4 == 0) (get_or whole i 0 == mark) && are_in_place mark (drop (i + 1) whole)) left

pub one_more_in_place : (mark : ℕ) (whole : List ℕ) (i : ℕ) → i < length whole → is_due ((length whole - i) % 4 == 0) (get_or whole i 0 == mark) ≡ true → are_in_place mark whole ≡ are_in_place mark (drop i whole) → are_in_place mark whole ≡ are_in_place mark (drop (i + 1) whole)
one_more_in_place mark whole i h due same = same ∙ in_place_at mark whole i h ∙ ap (λ b. b && are_in_place mark (drop (i + 1) whole)) due

pub one_out_of_place : (mark : ℕ) (whole : List ℕ) (i : ℕ) → i < length whole → is_due ((length whole - i) % 4 == 0) (get_or whole i 0 == mark) ≡ false → are_in_place mark whole ≡ are_in_place mark (drop i whole) → are_in_place mark whole ≡ false
one_out_of_place mark whole i h due same = same ∙ in_place_at mark whole i h ∙ ap (λ b. b && are_in_place mark (drop (i + 1) whole)) due

pub none_left : (mark : ℕ) (whole : List ℕ) (i : ℕ) → length whole ≤ i → are_in_place mark whole ≡ are_in_place mark (drop i whole) → are_in_place mark whole ≡ true
unfolding are_in_place
none_left mark whole i past same = same ∙ ap (are_in_place mark) (drop_all i whole past)

-- ---- apostrophes
risky_at : (text : List ℕ) (i : ℕ) → i < length text → is_risky (drop i text) ≡ cond (get_or text i 0 == 39) (is_risky (drop (i + 1) text)) (is_formula_start (get_or text i 0))
unfolding is_risky
risky_at text i h =
    let further : suc i ≡ i + 1 = omega arith in
    ap is_risky (drop-cons text i 0 h ∙ ap (λ n. get_or text i 0 ∷ drop n text) further)

pub one_more_apostrophe : (text : List ℕ) (i : ℕ) → i < length text → get_or text i 0 ≡ 39 → is_risky text ≡ is_risky (drop i text) → is_risky text ≡ is_risky (drop (i + 1) text)
one_more_apostrophe text i h is same = same ∙ risky_at text i h ∙ ap (λ b. cond b (is_risky (drop (i + 1) text)) (is_formula_start (get_or text i 0))) (eq-eqb (get_or text i 0) 39 is)

pub first_other : (text : List ℕ) (i : ℕ) (other : Bool) → i < length text → (get_or text i 0 == 39) ≡ false → is_risky text ≡ is_risky (drop i text) → other ≡ is_formula_start (get_or text i 0) → other ≡ is_risky text
first_other text i other h is same o = o ∙ sym (same ∙ risky_at text i h ∙ ap (λ b. cond b (is_risky (drop (i + 1) text)) (is_formula_start (get_or text i 0))) is)

pub apostrophes_alone : (text : List ℕ) (i : ℕ) → length text ≤ i → is_risky text ≡ is_risky (drop i text) → false ≡ is_risky text
unfolding is_risky
apostrophes_alone text i past same = sym (same ∙ ap is_risky (drop_all i text past))

-- ---- loops
pub one_more_mapped : (f : ℕ → ℕ) (xs before after : List ℕ) (i : ℕ) → i < length xs → before ≡ map f (take i xs) → after ≡ before ++ f (get_or xs i 0) ∷ [] → after ≡ map f (take (i + 1) xs)
one_more_mapped f xs before after i h is more = more ∙ ap (λ b. b ++ f (get_or xs i 0) ∷ []) is ∙ sym (ap (map f) (take_more xs i 0 h) ∙ map-append f (take i xs) (get_or xs i 0 ∷ []))
