-- The lines so far.
use Rattle.std.proofs.Common.{◌≡◌, ◌++◌, take, vec_items}
use Rattle.std.specs.List.{flat_map}
use Rattle.s3_pages.specs.Inner.Drawing.{drawn}
use Rattle.s3_pages.proofs.drawing.push_lines.Given as goal

abbrev pub invariant-loop-line : goal.invariant-loop-line
invariant-loop-line l = vec_items l.text ≡ vec_items l.initial.text ++ flat_map drawn (take l.line-index l.page)
