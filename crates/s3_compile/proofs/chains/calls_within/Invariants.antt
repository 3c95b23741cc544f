use Rattle.std.proofs.Common.{◌≡◌, nat_eq, take, filter}
use Rattle.indexmap.specs.IndexSet.{contains}
use Rattle.s3_compile.specs.Inner.Chains.{is_among}
use Rattle.s3_compile.proofs.chains.calls_within.Given as goal

abbrev pub invariant-loop-call : goal.invariant-loop-call
invariant-loop-call l = l.within.items ≡ filter (λ call. is_among (contains nat_eq l.subroutines) call.caller) (take l.call-index l.calls)
