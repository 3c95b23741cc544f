-- A page as it is drawn.
use Rattle.std.specs.Prelude.{ℕ, ◌-◌, ◌*◌, ◌==◌, Bool, ◌||◌, List, [], ◌∷◌, ◌++◌, codes, length, if◌then◌else◌}
use Rattle.std.specs.Fmt.{decimal}
use Rattle.std.specs.List.{flat_map}
use Rattle.s3_cards.specs.Printed.{Printed}
use Rattle.s3_pages.specs.Inner.PageTexts.{row}
use Rattle.s3_pages.specs.Inner.Shown.{shown}
use Rattle.s3_pages.specs.Inner.Sizes.{page_head}
use Rattle.s3_pages.specs.declared.size.PaperSize.{PaperSize}

-- a parenthesis ends a text, and a backslash has a meaning of its own, except for one after a backslash
abbrev pub is_special : ℕ → Bool
is_special byte = byte == 40 || byte == 41 || byte == 92

abbrev pub escaped : ℕ → List ℕ
escaped byte = if is_special byte then 92 ∷ byte ∷ [] else byte ∷ []

-- a text between parentheses
abbrev pub text_in : List ℕ → List ℕ
text_in bytes = 40 ∷ [] ++ flat_map escaped bytes ++ 41 ∷ []

-- where a line is written, in points from the bottom of the form: twelve points a line
abbrev pub baseline : Printed → ℕ
baseline line = 783 - 12 * row line

-- a line, at its place
unfoldable pub drawn : Printed → List ℕ
drawn line = codes "1 0 0 1 60.3 " ++ decimal (baseline line) ++ codes " Tm " ++ text_in (shown line) ++ codes " Tj\n"

-- a page: the form, and its lines over each other
unfoldable pub drawn_page : PaperSize → List Printed → List ℕ
drawn_page size page = page_head size ++ flat_map drawn page ++ codes "ET"

-- a stream: what is said of it, its length, and its bytes
unfoldable pub stream_body : (said content : List ℕ) → List ℕ
stream_body said content = codes "<< " ++ said ++ codes "/Length " ++ decimal (length content) ++ codes " >>\nstream\n" ++ content ++ codes "\nendstream"
