-- The lines of the page so far.
use Rattle.std.proofs.Common.{◌≡◌, ◌++◌, vec_items}
use Rattle.std.specs.List.{flat_map, range_with_len}
use Rattle.s3_pages.specs.Inner.PageTexts.{row_text}
use Rattle.s3_pages.proofs.page_text.push_page.Given as goal

abbrev pub invariant-loop-row : goal.invariant-loop-row
invariant-loop-row l = vec_items l.text ≡ vec_items l.initial.text ++ flat_map (λ n. row_text n l.lines) (range_with_len 0 l.row)
