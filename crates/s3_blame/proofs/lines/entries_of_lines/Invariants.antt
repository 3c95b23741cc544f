use Rattle.std.proofs.Common.{◌≡◌, ℕ, true}
use Rattle.std.specs.List.{list_all}
use Rattle.s3_lines.specs.Inner.Ascending.{cards_ascend}
use Rattle.s3_diagnose.specs.Inner.Order.{AreInOrder}
use Rattle.s3_blame.specs.Inner.Names.{names_known}
use Rattle.s3_blame.specs.Inner.OwnMarks.{is_mark_among}
use Rattle.s3_blame.proofs.OwnLemmas.{HasPassed}
use Rattle.s3_blame.proofs.lines.entries_of_lines.Given as goal

abbrev pub invariant-loop-place : goal.invariant-loop-place
invariant-loop-place l = record {
  only : list_all (is_mark_among (names_known l.fn.known) l.fn.lines) l.found.items ≡ true;
  passed : AreInOrder l.fn.told → (from : ℕ) → cards_ascend from l.fn.lines ≡ true → HasPassed (names_known l.fn.known) l.fn.lines l.fn.told l.place l.rest l.found.items;
}
