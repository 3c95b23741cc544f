use Rattle.s3_pages.proofs.RowLemmas.{rows_step}
use Rattle.s3_pages.proofs.page_text.push_page.Goals as goal

pub loop-row-preserved : goal.loop-row-preserved
loop-row-preserved c = rows_step _ _ _ c.args.lines.now c.loop-row.row c.loop-row.invariant c.in_ok-push_row.ensures
