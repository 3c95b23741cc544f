-- The pages so far, and those that are left.
use Rattle.std.proofs.Common.{◌≡◌, ◌+◌, ◌≤◌, length}
use Rattle.s3_pages.specs.Inner.Pages.{pages_of}
use Rattle.s3_pages.specs.Inner.PagesLeft.{pages_left}
use Rattle.s3_pages.proofs.document.page_count.Given as goal

abbrev pub invariant-loop-page : goal.invariant-loop-page
invariant-loop-page l = (l.count + length (pages_left l._page-iterator) ≡ length (pages_of l.lines)) × (l.count ≤ 4000000)
