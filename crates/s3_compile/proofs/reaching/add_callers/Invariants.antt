use Rattle.std.proofs.Common.{take}
use Rattle.std.specs.List.{flat_map}
use Rattle.s3_compile.specs.Inner.Reaching.{callers_in, Adds}
use Rattle.s3_compile.proofs.reaching.add_callers.Given as goal

abbrev pub invariant-loop-callee : goal.invariant-loop-callee
invariant-loop-callee l = Adds l.initial.reaching l.reaching l.initial.next.items l.next.items (flat_map (callers_in l.callers) (take l.callee-index l.level))
