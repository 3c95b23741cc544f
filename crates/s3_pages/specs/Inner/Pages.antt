-- The pages of a job: on which one each printed line is.
use Rattle.std.specs.Prelude.{ℕ, ◌+◌, ◌-◌, List, [], ◌∷◌, ◌++◌, nat_le, replicate, if◌then◌else◌}
use Rattle.s3_cards.specs.Printed.{Printed}

-- how many pages on the page of a number is: page 0 comes after page 9,999
abbrev pub pages_on : (from to : ℕ) → ℕ
pages_on from to = if nat_le from to then to - from else 9999 - from + (to + 1)

-- a line in front of the lines of the first page
abbrev pub on_first : Printed → List (List Printed) → List (List Printed)
on_first line [] = (line ∷ []) ∷ []
on_first line (page ∷ pages) = (line ∷ page) ∷ pages

-- the page of a number and those after it, given all lines that are printed from there on: a line is on the page of its own
-- number, in front of the lines that come after it, and the pages on the way there are empty
unfoldable pub pages_from : ℕ → List Printed → List (List Printed)
pages_from number [] = [] ∷ []
pages_from number (line ∷ lines) = replicate (pages_on number line.page) [] ++ on_first line (pages_from line.page lines)

-- the pages after the one with this number, given the lines that are printed after it
abbrev pub pages_behind : ℕ → List Printed → List (List Printed)
pages_behind number [] = []
pages_behind number (line ∷ lines) = replicate (pages_on number line.page - 1) [] ++ pages_from line.page (line ∷ lines)

-- the pages of a job: its carriage begins at page 1
abbrev pub pages_of : List Printed → List (List Printed)
pages_of lines = pages_from 1 lines
