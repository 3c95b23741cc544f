-- The bytes that are left are those after the ones that were written.
use Rattle.s3_reports.specs.Inner.Written.{LeavesBytes}
use Rattle.s3_reports.proofs.written.fails_to_write.Given as goal

abbrev pub invariant-loop-try : goal.invariant-loop-try
invariant-loop-try g l = LeavesBytes (g.W.Write.contents l.initial.writer) (g.W.Write.contents l.writer) l.bytes l.rest
