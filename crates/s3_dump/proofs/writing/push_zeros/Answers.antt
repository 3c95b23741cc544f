use Rattle.std.proofs.Common.{◌≤◌, arith}
use Rattle.s3_dump.proofs.WriterLemmas.{one_more_run}
use Rattle.s3_dump.proofs.writing.push_zeros.Goals as goal

pub loop-left-preserved : goal.loop-left-preserved
loop-left-preserved c =
    let some : c.min-count.result ≤ c.loop-left.left = omega arith in
    record {
      lines = one_more_run c.args.text.now.items c.loop-left.text.items c.push_run.new.text.items c.args.zeros c.loop-left.left c.min-count.result c.loop-left.invariant.within some c.loop-left.invariant.lines c.in_ok-push_run.ensures;
      within = omega (arith, c.loop-left.invariant.within);
      none = λ none. absurd (omega (arith, none, c.loop-left.invariant.within));
    }
