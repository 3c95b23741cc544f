-- The pages that are still to come.
use Rattle.std.specs.Prelude.{List, [], ◌++◌, replicate, if◌then◌else◌}
use Rattle.s3_cards.specs.Printed.{Printed}
use Rattle.s3_pages.specs.Inner.Pages.{pages_from}
use Rattle.s3_pages.specs.declared.page_by_page.Pages.{Pages}

-- the empty pages in front of the next one that has lines, that one, and those after it
abbrev pub pages_left : Pages → List (List Printed)
pages_left pages = if pages.is_over then [] else replicate pages.empty [] ++ pages_from pages.number pages.rest.now
