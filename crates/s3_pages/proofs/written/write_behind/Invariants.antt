-- What is written so far, and the pages that are left.
use Rattle.std.specs.List.{flat_map}
use Rattle.s3_pages.specs.Inner.PageTexts.{next_page_text}
use Rattle.s3_pages.specs.Inner.PagesLeft.{pages_left}
use Rattle.s3_pages.proofs.WriteLemmas.{Wrote}
use Rattle.s3_pages.proofs.written.write_behind.Given as goal

abbrev pub invariant-loop-page : goal.invariant-loop-page
invariant-loop-page g l = Wrote next_page_text (pages_left l.page-iterator) (flat_map next_page_text (pages_left l.initial.page-iterator)) (g.W.Write.contents l.initial.writer) (g.W.Write.contents l.writer)
