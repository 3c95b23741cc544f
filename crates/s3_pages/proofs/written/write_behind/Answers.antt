use Rattle.std.proofs.Common.{◌∙◌}
use Rattle.s3_pages.specs.Inner.PageTexts.{next_page_text}
use Rattle.s3_pages.proofs.WriteLemmas.{wrote_more}
use Rattle.s3_pages.proofs.written.write_behind.Goals as goal

pub loop-page-preserved : goal.loop-page-preserved
loop-page-preserved g c = wrote_more next_page_text _ _ _ _ _ _ _ _ c.loop-page.invariant c.in-Some.ensures.steps (c.as_slice.ensures.value ∙ c.in_ok-put_next_page.ensures) c.in_ok-write.ensures
