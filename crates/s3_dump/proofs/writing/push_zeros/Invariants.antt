use Rattle.std.proofs.Common.{◌≡◌, ◌≤◌}
use Rattle.s3_dump.proofs.WriterLemmas.{ZerosTo}
use Rattle.s3_dump.proofs.writing.push_zeros.Given as goal

abbrev pub invariant-loop-left : goal.invariant-loop-left
invariant-loop-left l = record {
  lines : ZerosTo l.initial.text.items l.text.items l.zeros l.left;
  within : l.left ≤ l.zeros;
  none : l.zeros ≡ 0 → l.text.items ≡ l.initial.text.items;
}

abbrev pub decreases-loop-left : goal.decreases-loop-left
decreases-loop-left l = l.left
