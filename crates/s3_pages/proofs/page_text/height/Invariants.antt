-- The height of the lines so far and of those that are left is that of all.
use Rattle.std.proofs.Common.{◌≡◌, max, drop}
use Rattle.s3_pages.specs.Inner.PageTexts.{height}
use Rattle.s3_pages.proofs.page_text.height.Given as goal

abbrev pub invariant-loop-line : goal.invariant-loop-line
invariant-loop-line l = max l.most (height (drop l.line-index l.lines)) ≡ height l.lines
