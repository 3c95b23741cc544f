-- The lines that are on one page.
use Rattle.std.proofs.Common.{◌≡◌, ℕ, ◌+◌, ◌-◌, ◌<◌, ◌≤◌, suc, true, false, ◌⊎◌, inl, inr, List, [], ◌∷◌, ◌++◌, refl, ap, ◌∙◌, arith, eqb, leb, take, drop, replicate}
use Rattle.std.specs.Prelude.{◌==◌}
use Rattle.std.specs.List.{prefix_len}
use Rattle.std.proofs.lemmas.Bool.{cases_Bool, eqb-false, eqb-true, le-leb, leb-true}
use Rattle.s3_cards.specs.Printed.{Printed}
use Rattle.s3_pages.specs.Inner.Pages.{pages_on, on_first, pages_from, pages_behind}

-- the number of a page is no page on
pages_on-same : (number : ℕ) → pages_on number number ≡ 0
pages_on-same number = rw (le-leb number number (omega arith)) (omega arith)

-- another number is some pages on
pub pages_on_other : (from to : ℕ) → eqb to from ≡ false → 0 < pages_on from to
pages_on_other from to other = by_order (cases_Bool (leb from to))
  where
    by_order : (leb from to ≡ true) ⊎ (leb from to ≡ false) → 0 < pages_on from to
    by_order (inl low) = rw low (let least : from ≤ to = leb-true from to low in let apart : to ≡ from → ⊥ = eqb-false to from other in omega arith)
    by_order (inr high) = rw high (omega arith)

-- a line that is on the page
on_page : (number : ℕ) (line : Printed) (lines : List Printed) → line.page ≡ number
    → pages_from number (line ∷ lines) ≡ on_first line (pages_from number lines)
unfolding pages_from
on_page number line lines same =
    let none : pages_on number line.page ≡ 0 = rw same (pages_on-same number) in
    rw (none, same) refl

-- a line that is on another one
off_page : (number : ℕ) (line : Printed) (lines : List Printed) → eqb line.page number ≡ false
    → pages_from number (line ∷ lines) ≡ [] ∷ pages_behind number (line ∷ lines)
unfolding pages_from
off_page number line lines other =
    let some : 0 < pages_on number line.page = pages_on_other number line.page other in
    let one_more : pages_on number line.page ≡ suc (pages_on number line.page - 1) = omega arith in
    let here : pages_on line.page line.page ≡ 0 = pages_on-same line.page in
    ap (λ n. replicate n [] ++ on_first line (pages_from line.page lines)) one_more ∙ rw here refl

-- a page has the lines in front that are on it, and the pages after it have the others
pub page_of_run : (number : ℕ) (lines : List Printed)
    → pages_from number lines ≡ take (prefix_len (λ line. line.page == number) lines) lines ∷ pages_behind number (drop (prefix_len (λ line. line.page == number) lines) lines)
unfolding pages_from
page_of_run number [] = refl
page_of_run number (line ∷ lines) = by_page (page_of_run number lines) (cases_Bool (eqb line.page number))
  where
    by_page : pages_from number lines ≡ take (prefix_len (λ line. line.page == number) lines) lines ∷ pages_behind number (drop (prefix_len (λ line. line.page == number) lines) lines)
        → (eqb line.page number ≡ true) ⊎ (eqb line.page number ≡ false)
        → pages_from number (line ∷ lines) ≡ take (prefix_len (λ line. line.page == number) (line ∷ lines)) (line ∷ lines) ∷ pages_behind number (drop (prefix_len (λ line. line.page == number) (line ∷ lines)) (line ∷ lines))
    by_page behind (inl same) = on_page number line lines (eqb-true line.page number same) ∙ ap (on_first line) behind
        ∙ (let one_more : 1 + prefix_len (λ line. line.page == number) lines ≡ suc (prefix_len (λ line. line.page == number) lines) = omega arith in rw (same, one_more) refl)
    by_page behind (inr other) = off_page number line lines other ∙ rw other refl
