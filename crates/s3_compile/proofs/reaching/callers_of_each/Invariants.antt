use Rattle.std.proofs.Common.{take}
use Rattle.s3_compile.specs.Inner.Reaching.{HasCallers}
use Rattle.s3_compile.proofs.reaching.callers_of_each.Given as goal

abbrev pub invariant-loop-call : goal.invariant-loop-call
invariant-loop-call l = HasCallers l.callers (take l.call-index l.calls)
