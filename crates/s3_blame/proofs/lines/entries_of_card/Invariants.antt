use Rattle.std.proofs.Common.{◌≡◌, true}
use Rattle.s3_blame.specs.Inner.Names.{names_known}
use Rattle.s3_blame.specs.Inner.OwnMarks.{are_marks_on}
use Rattle.s3_blame.proofs.OwnLemmas.{MarksSoFar}
use Rattle.s3_blame.proofs.lines.entries_of_card.Given as goal

abbrev pub invariant-loop-diagnostic : goal.invariant-loop-diagnostic
invariant-loop-diagnostic l = record {
  only : are_marks_on (names_known l.fn.known) l.fn.line l.found.items ≡ true;
  so_far : MarksSoFar (names_known l.fn.known) l.fn.line l.fn.told l.diagnostic-index l.found.items;
}
