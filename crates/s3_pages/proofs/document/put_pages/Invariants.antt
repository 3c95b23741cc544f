-- The pages that are written, and those that are left.
use Rattle.s3_pages.specs.Inner.PagesLeft.{pages_left}
use Rattle.s3_pages.proofs.PageBodies.{PutsPages}
use Rattle.s3_pages.proofs.document.put_pages.Given as goal

abbrev pub invariant-loop-page : goal.invariant-loop-page
invariant-loop-page g l = PutsPages l.size l.tree (pages_left l.initial.page-iterator) (pages_left l.page-iterator) l.initial.table l.table (g.W.Write.contents l.initial.writer) (g.W.Write.contents l.writer)
