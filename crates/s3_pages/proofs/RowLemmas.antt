-- The lines of a page, one after another.
use Rattle.std.proofs.Common.{◌≡◌, ℕ, ◌+◌, zero, suc, Bool, false, List, [], ◌∷◌, ◌++◌, sym, ap, ◌∙◌, arith, append_assoc, append-nil}
use Rattle.std.proofs.lemmas.List.{flat_map_more}
use Rattle.std.specs.List.{flat_map, range_with_len}
use Rattle.s3_cards.specs.Printed.{Printed}
use Rattle.s3_pages.specs.Inner.PageTexts.{at_row, overprinted_behind, row_text}
use Rattle.s3_pages.proofs.Overprinting.{overprinted_is}

numbers_snoc : (n count : ℕ) → range_with_len n (suc count) ≡ range_with_len n count ++ (n + count) ∷ []
numbers_snoc n zero = ap (λ m. m ∷ []) (omega arith)
numbers_snoc n (suc count) = ap (λ more. n ∷ more) (numbers_snoc (n + 1) count ∙ ap (λ last. range_with_len (n + 1) count ++ last ∷ []) (omega arith))

-- one line more
rows_more : (text : List ℕ) (lines : List Printed) (n : ℕ)
    → (text ++ flat_map (λ n. row_text n lines) (range_with_len 0 n)) ++ row_text n lines ≡ text ++ flat_map (λ n. row_text n lines) (range_with_len 0 (n + 1))
rows_more text lines n =
    let rows : List ℕ = range_with_len 0 n in
    let one_more : n + 1 ≡ suc n = omega arith in
    let last : 0 + n ≡ n = omega arith in
    let next : range_with_len 0 (n + 1) ≡ rows ++ n ∷ [] = ap (range_with_len 0) one_more ∙ numbers_snoc 0 n ∙ ap (λ m. rows ++ m ∷ []) last in
    flat_map_more (λ n. row_text n lines) text rows n ∙ ap (λ all. text ++ flat_map (λ n. row_text n lines) all) (sym next)

pub rows_step : (before text after : List ℕ) (lines : List Printed) (n : ℕ) → text ≡ before ++ flat_map (λ n. row_text n lines) (range_with_len 0 n)
    → after ≡ text ++ row_text n lines → after ≡ before ++ flat_map (λ n. row_text n lines) (range_with_len 0 (n + 1))
rows_step before text after lines n so_far next = next ∙ ap (λ t. t ++ row_text n lines) so_far ∙ rows_more before lines n

-- the end of a line
pub row_ends : (before text after : List ℕ) (lines left : List Printed) (row : ℕ) (is_printed : Bool) → left ≡ []
    → text ++ overprinted_behind is_printed (at_row row left) ≡ before ++ overprinted_behind false (at_row row lines)
    → after ≡ text ++ 10 ∷ [] → after ≡ before ++ row_text row lines
unfolding row_text
row_ends before text after lines left row is_printed none so_far ends =
    let printed : text ≡ before ++ overprinted_behind false (at_row row lines) =
    sym (append-nil text) ∙ ap (λ xs. text ++ overprinted_behind is_printed (at_row row xs)) (sym none) ∙ so_far in
    ends ∙ ap (λ t. t ++ 10 ∷ []) printed ∙ append_assoc before (overprinted_behind false (at_row row lines)) (10 ∷ [])
    ∙ ap (λ t. before ++ (t ++ 10 ∷ [])) (overprinted_is (at_row row lines))
