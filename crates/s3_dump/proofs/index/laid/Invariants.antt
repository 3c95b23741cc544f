use Rattle.std.proofs.Common.{length}
use Rattle.s3_dump.proofs.IndexLemmas.{LaidTo}
use Rattle.s3_dump.proofs.index.laid.Given as goal

abbrev pub invariant-loop-key : goal.invariant-loop-key
invariant-loop-key l = LaidTo l.bytes.items l.entries l.initial.entries

abbrev pub decreases-loop-key : goal.decreases-loop-key
decreases-loop-key l = length l.entries.entries
