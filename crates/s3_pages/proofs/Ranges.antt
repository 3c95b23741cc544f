-- Texts of the numbers from 0 on.
use Rattle.std.proofs.Common.{◌≡◌, ℕ, ◌+◌, zero, suc, List, [], ◌∷◌, ◌++◌, sym, ap, ◌∙◌, arith}
use Rattle.std.proofs.lemmas.List.{flat_map_more}
use Rattle.std.specs.List.{flat_map, range_with_len}

numbers_snoc : (n count : ℕ) → range_with_len n (suc count) ≡ range_with_len n count ++ (n + count) ∷ []
numbers_snoc n zero = ap (λ m. m ∷ []) (omega arith)
numbers_snoc n (suc count) = ap (λ more. n ∷ more) (numbers_snoc (n + 1) count ∙ ap (λ last. range_with_len (n + 1) count ++ last ∷ []) (omega arith))

-- the text of one number more
pub numbers_step : (piece : ℕ → List ℕ) (before text after : List ℕ) (n : ℕ) → text ≡ before ++ flat_map piece (range_with_len 0 n) → after ≡ text ++ piece n
    → after ≡ before ++ flat_map piece (range_with_len 0 (n + 1))
numbers_step piece before text after n so_far next =
    let rows : List ℕ = range_with_len 0 n in
    let one_more : n + 1 ≡ suc n = omega arith in
    let last : 0 + n ≡ n = omega arith in
    let all : range_with_len 0 (n + 1) ≡ rows ++ n ∷ [] = ap (range_with_len 0) one_more ∙ numbers_snoc 0 n ∙ ap (λ m. rows ++ m ∷ []) last in
    next ∙ ap (λ t. t ++ piece n) so_far ∙ flat_map_more piece before rows n ∙ ap (λ numbers. before ++ flat_map piece numbers) (sym all)
