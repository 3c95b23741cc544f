use Rattle.s3_compile.proofs.ReachLemmas.{adds_nothing, adds_more}
use Rattle.s3_compile.proofs.reaching.add_all.Goals as goal

pub loop-subroutine-init : goal.loop-subroutine-init
loop-subroutine-init c = adds_nothing c.args.reaching.now c.args.next.now.items

pub loop-subroutine-preserved : goal.loop-subroutine-preserved
loop-subroutine-preserved c =
    adds_more c.args.reaching.now c.loop-subroutine.reaching c.add.new.reaching c.args.next.now.items c.loop-subroutine.next.items c.add.new.next.items c.args.subroutines.now c.loop-subroutine.subroutine-index
    c.loop-subroutine-test.true c.loop-subroutine.invariant c.in_ok-add.ensures
