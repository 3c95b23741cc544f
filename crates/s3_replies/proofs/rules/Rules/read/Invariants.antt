-- The rules and faults of the lines so far, and the lines that are left, which get fewer.
use Rattle.std.proofs.Common.{length}
use Rattle.s3_replies.proofs.ReadingLemmas.{ReadSoFar}
use Rattle.s3_replies.proofs.rules.Rules.read.Given as goal

abbrev pub invariant-loop-line : goal.invariant-loop-line
invariant-loop-line l = ReadSoFar l.text l.rest l.rules.items l.ill_formed.items l.number

abbrev pub decreases-loop-line : goal.decreases-loop-line
decreases-loop-line l = length l.rest
