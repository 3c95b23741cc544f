use Rattle.s3_compile.proofs.CircleLemmas.{known_more}
use Rattle.s3_compile.proofs.forbidden.distinct.Goals as goal

pub loop-call-preserved : goal.loop-call-preserved
loop-call-preserved c =
    known_more c.loop-call.distinct c.insert.new.self c.args.calls.now c.loop-call.call-index _ c.loop-call-test.true (record { at = c.in_ok-insert.ensures.updates.0 }) c.loop-call.invariant
