use Rattle.s3_compile.proofs.CallWalks.{calls_next, next_line_within}
use Rattle.s3_compile.proofs.known.calls_of.Goals as goal

pub loop-line-preserved : goal.loop-line-preserved
loop-line-preserved c = record {
  found = calls_next c.loop-line.calls.items c.add_call.new.calls.items c.loop-line.at c.behind_calculation-at.result c.args.lines.now c.loop-line.line-index _ _
      c.loop-line-test.true c.behind_calculation-at.ensures c.in_ok-add_call.ensures c.loop-line.invariant.found;
  within = next_line_within c.loop-line.at c.behind_calculation-at.result c.args.lines.now c.loop-line.line-index _ c.behind_calculation-at.ensures c.loop-line.invariant.within;
}
