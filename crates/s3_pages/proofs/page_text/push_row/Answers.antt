use Rattle.std.proofs.lemmas.List.{drop_all}
use Rattle.std.proofs.Common.{arith}
use Rattle.s3_pages.proofs.RowLemmas.{row_ends}
use Rattle.s3_pages.proofs.page_text.push_row.Goals as goal

pub returns : goal.returns
returns c = row_ends _ _ _ c.args.lines.now _ c.args.row _ (drop_all c.loop-line.line-index c.args.lines.now (omega arith)) c.loop-line.invariant c.in_ok-push.ensures.items
