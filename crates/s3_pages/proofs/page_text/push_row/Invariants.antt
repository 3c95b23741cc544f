-- The text so far, and what is left to be printed at the place.
use Rattle.std.proofs.Common.{◌≡◌, ◌++◌, false, drop, vec_items}
use Rattle.s3_pages.specs.Inner.PageTexts.{at_row, overprinted_behind}
use Rattle.s3_pages.proofs.page_text.push_row.Given as goal

abbrev pub invariant-loop-line : goal.invariant-loop-line
invariant-loop-line l = vec_items l.text ++ overprinted_behind l.is_printed (at_row l.row (drop l.line-index l.lines)) ≡ vec_items l.initial.text ++ overprinted_behind false (at_row l.row l.lines)
