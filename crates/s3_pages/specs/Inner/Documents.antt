-- A job's printed lines as a document.
use Rattle.std.specs.Prelude.{ℕ, ◌+◌, ◌*◌, List, [], ◌∷◌, ◌++◌, length}
use Rattle.s3_cards.specs.Printed.{Printed}
use Rattle.s3_pages.specs.Inner.Pages.{pages_of}
use Rattle.s3_pages.specs.Inner.Bodies.{font_body, resources_body, page_bodies, tree_body, root_body, info_body}
use Rattle.s3_pages.specs.Inner.Forms.{form_body}
use Rattle.s3_pages.specs.Inner.Objects.{file_of}
use Rattle.s3_pages.specs.declared.form.FormLook.{FormLook}
use Rattle.s3_pages.specs.declared.size.PaperSize.{PaperSize}

-- the number of the object that has all pages
abbrev pub tree_number : ℕ → ℕ
tree_number count = 4 + 2 * count

-- what all pages share
abbrev pub front_bodies : FormLook → List (List ℕ)
front_bodies look = font_body ∷ form_body look ∷ resources_body ∷ []

-- what is reported of all pages
abbrev pub back_bodies : PaperSize → List ℕ → ℕ → List (List ℕ)
back_bodies size title count = tree_body size count ∷ root_body (tree_number count) count ∷ info_body title ∷ []

-- the objects of a document with these pages
unfoldable pub bodies_of : PaperSize → List ℕ → FormLook → List (List Printed) → List (List ℕ)
bodies_of size title look pages =
    let count : ℕ = length pages in
    front_bodies look ++ page_bodies size (tree_number count) 4 pages ++ back_bodies size title count

-- the bytes of a job's document
unfoldable pub document_of : PaperSize → List ℕ → FormLook → List Printed → List ℕ
document_of size title look lines = file_of (bodies_of size title look (pages_of lines))
