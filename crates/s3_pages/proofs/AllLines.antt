-- All lines of all pages.
use Rattle.std.proofs.Common.{◌≡◌, ℕ, zero, suc, List, [], ◌∷◌, ◌++◌, refl, ap, ◌∙◌, replicate}
use Rattle.std.specs.List.{flat_map}
use Rattle.s3_cards.specs.Printed.{Printed}
use Rattle.s3_pages.specs.Inner.Pages.{on_first, pages_from, pages_on}

abbrev all_lines : List (List Printed) → List Printed
all_lines pages = flat_map (λ page. page) pages

all_lines-replicate : (n : ℕ) (pages : List (List Printed)) → all_lines (replicate n [] ++ pages) ≡ all_lines pages
all_lines-replicate zero pages = refl
all_lines-replicate (suc n) pages = all_lines-replicate n pages

all_lines-on_first : (line : Printed) (pages : List (List Printed)) → all_lines (on_first line pages) ≡ line ∷ all_lines pages
all_lines-on_first line [] = refl
all_lines-on_first line (page ∷ pages) = refl

pub lines_on_pages : (number : ℕ) (lines : List Printed) → flat_map (λ page. page) (pages_from number lines) ≡ lines
unfolding pages_from
lines_on_pages number [] = refl
lines_on_pages number (line ∷ lines) =
    all_lines-replicate (pages_on number line.page) (on_first line (pages_from line.page lines))
    ∙ all_lines-on_first line (pages_from line.page lines) ∙ ap (λ rest. line ∷ rest) (lines_on_pages line.page lines)
