use Rattle.s3_compile.specs.Inner.Reaching.{callers_in}
use Rattle.s3_compile.proofs.ReachLemmas.{adds_nothing, adds_flat}
use Rattle.s3_compile.proofs.reaching.add_callers.Goals as goal

pub loop-callee-init : goal.loop-callee-init
loop-callee-init c = adds_nothing c.args.reaching.now c.args.next.now.items

pub loop-callee-preserved : goal.loop-callee-preserved
loop-callee-preserved c =
    adds_flat (callers_in c.args.callers.now) c.args.reaching.now c.loop-callee.reaching c.add_all.new.reaching c.args.next.now.items c.loop-callee.next.items c.add_all.new.next.items c.args.level.now c.callers_of.result.now
    c.loop-callee.callee-index c.loop-callee-test.true c.callers_of.ensures c.loop-callee.invariant c.in_ok-add_all.ensures
