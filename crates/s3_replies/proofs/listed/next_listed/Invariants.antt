-- The bytes of the line so far.
use Rattle.s3_replies.proofs.ListLemmas.{LineSoFar}
use Rattle.s3_replies.proofs.listed.next_listed.Given as goal

abbrev pub invariant-loop-byte : goal.invariant-loop-byte
invariant-loop-byte g l = LineSoFar (g.R.Read.remaining l.initial.reader) (g.R.Read.remaining l.reader) l.line.items l.is_begun l._byte
