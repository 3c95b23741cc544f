-- The objects of a document of forms.
use Rattle.std.specs.Prelude.{ℕ, ◌+◌, ◌*◌, ◌/◌, List, [], ◌∷◌, ◌++◌, codes}
use Rattle.std.specs.Fmt.{decimal}
use Rattle.std.specs.List.{flat_map, range_with_len}
use Rattle.s3_cards.specs.Printed.{Printed}
use Rattle.s3_pages.specs.Inner.Drawing.{drawn_page, stream_body, text_in}
use Rattle.s3_pages.specs.Inner.Sizes.{tree_head}
use Rattle.s3_pages.specs.declared.size.PaperSize.{PaperSize}

-- object 1: ten columns to the inch
unfoldable pub font_body : List ℕ
font_body = codes "<< /Type /Font /Subtype /Type1 /BaseFont /Courier /Encoding /WinAnsiEncoding >>"

-- object 3: what all pages are drawn with
unfoldable pub resources_body : List ℕ
resources_body = codes "<< /Font << /F 1 0 R >> /XObject << /B 2 0 R >> >>"

-- a page, whose contents are the next object
unfoldable pub page_body : (tree contents : ℕ) → List ℕ
page_body tree contents = codes "<< /Type /Page /Parent " ++ decimal tree ++ codes " 0 R /Contents " ++ decimal contents ++ codes " 0 R >>"

-- the pages of a job, two objects each, from a number on
abbrev pub page_bodies : (size : PaperSize) (tree number : ℕ) → List (List Printed) → List (List ℕ)
page_bodies size tree number [] = []
page_bodies size tree number (page ∷ pages) =
    page_body tree (number + 1) ∷ stream_body [] (drawn_page size page) ∷ page_bodies size tree (number + 2) pages

-- a page among all pages, by its place
unfoldable pub kid : ℕ → List ℕ
kid place = decimal (4 + 2 * place) ++ codes " 0 R "

-- all pages
unfoldable pub tree_body : PaperSize → ℕ → List ℕ
tree_body size count =
    tree_head size ++ decimal count ++ codes " /Kids [" ++ flat_map kid (range_with_len 0 count)
    ++ codes "] >>"

-- page 0 comes after each 9,999 pages from page 1 on, and then page 1
unfoldable pub label_turn : ℕ → List ℕ
label_turn turn = codes " " ++ decimal (10000 * turn + 9999) ++ codes " << /P (0) >> " ++ decimal (10000 * turn + 10000) ++ codes " << /S /D >>"

-- the root: the pages, and their numbers as they were printed
unfoldable pub root_body : (tree count : ℕ) → List ℕ
root_body tree count =
    codes "<< /Type /Catalog /Pages " ++ decimal tree ++ codes " 0 R /ViewerPreferences << /DisplayDocTitle true >> /PageLabels << /Nums [0 << /S /D >>"
    ++ flat_map label_turn (range_with_len 0 (count / 10000)) ++ codes "] >> >>"

-- what is reported of the document
unfoldable pub info_body : List ℕ → List ℕ
info_body title = codes "<< /Title " ++ text_in title ++ codes " /Producer (bureau) >>"
