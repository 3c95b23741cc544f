use Rattle.std.proofs.Common.{◌≡◌, ℕ, nat_eq, take}
use Rattle.indexmap.specs.IndexSet.{contains}
use Rattle.s3_compile.specs.Inner.Chains.{is_called}
use Rattle.s3_compile.proofs.chains.callees.Given as goal

abbrev pub invariant-loop-call : goal.invariant-loop-call
invariant-loop-call l = (subroutine : ℕ) → contains nat_eq l.callees subroutine ≡ is_called (take l.call-index l.calls) subroutine
