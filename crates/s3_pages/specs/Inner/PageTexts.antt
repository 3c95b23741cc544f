-- Pages as a text.
use Rattle.std.specs.Prelude.{ℕ, ◌+◌, ◌-◌, ◌==◌, Bool, true, List, [], ◌∷◌, ◌++◌, filter, map, max, if◌then◌else◌}
use Rattle.std.specs.List.{flat_map, range_with_len}
use Rattle.s3_cards.specs.Printed.{Printed}
use Rattle.s3_pages.specs.Inner.Pages.{pages_of}
use Rattle.s3_pages.specs.Inner.Shown.{shown}

-- the place of a line on its page, from 0
abbrev pub row : Printed → ℕ
row line = line.line - 1

-- how many lines a page has, down to the last one that is printed
abbrev pub height : List Printed → ℕ
height [] = 0
height (line ∷ lines) = max (row line + 1) (height lines)

-- what was printed at a place, in order
abbrev pub at_row : ℕ → List Printed → List (List ℕ)
at_row n lines = map shown (filter (λ line. row line == n) lines)

-- texts over each other: a carriage return between two
abbrev pub overprinted : List (List ℕ) → List ℕ
overprinted [] = []
overprinted (text ∷ texts) = text ++ flat_map (λ over. 13 ∷ over) texts

-- a line of a page, with a line feed at its end
unfoldable pub row_text : ℕ → List Printed → List ℕ
row_text n lines = overprinted (at_row n lines) ++ 10 ∷ []

-- the lines of a page
unfoldable pub page_text : List Printed → List ℕ
page_text lines = flat_map (λ n. row_text n lines) (range_with_len 0 (height lines))

-- a page after another one: a form feed in front of it
abbrev pub next_page_text : List Printed → List ℕ
next_page_text page = 12 ∷ page_text page

-- a form feed between two pages
abbrev pub text_of_pages : List (List Printed) → List ℕ
text_of_pages [] = []
text_of_pages (page ∷ pages) = page_text page ++ flat_map next_page_text pages

-- the text of a job's printed lines
abbrev pub pages_text : List Printed → List ℕ
pages_text lines = text_of_pages (pages_of lines)

-- a text over what is printed at its place, if anything is
abbrev pub over : Bool → List ℕ → List ℕ
over is_printed text = if is_printed then 13 ∷ text else text

-- texts over what is printed at their place, if anything is
abbrev pub overprinted_behind : Bool → List (List ℕ) → List ℕ
overprinted_behind is_printed [] = []
overprinted_behind is_printed (text ∷ texts) = over is_printed text ++ overprinted_behind true texts
