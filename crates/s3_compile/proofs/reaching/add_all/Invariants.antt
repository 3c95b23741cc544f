use Rattle.std.proofs.Common.{take}
use Rattle.s3_compile.specs.Inner.Reaching.{Adds}
use Rattle.s3_compile.proofs.reaching.add_all.Given as goal

abbrev pub invariant-loop-subroutine : goal.invariant-loop-subroutine
invariant-loop-subroutine l = Adds l.initial.reaching l.reaching l.initial.next.items l.next.items (take l.subroutine-index l.subroutines)
