use Rattle.s3_reports.proofs.Writing.{leaves_then}
use Rattle.s3_reports.proofs.written.fails_to_write.Goals as goal

pub loop-try-preserved : goal.loop-try-preserved
loop-try-preserved g c =
    leaves_then (g.W.Write.contents c.args.writer.now) (g.W.Write.contents c.loop-try.writer) (g.W.Write.contents c.write_some.new.writer) c.args.bytes.now c.loop-try.rest.now c.in-Some.left.now c.loop-try.invariant c.in-Some.ensures.some
