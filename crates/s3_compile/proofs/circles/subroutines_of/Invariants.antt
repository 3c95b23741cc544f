use Rattle.std.proofs.Common.{◌≡◌, ℕ, nat_eq, take}
use Rattle.std.specs.List.{list_any}
use Rattle.indexmap.specs.IndexSet.{contains}
use Rattle.s3_program.specs.Jumps.{is_place}
use Rattle.s3_compile.proofs.circles.subroutines_of.Given as goal

abbrev pub invariant-loop-call : goal.invariant-loop-call
invariant-loop-call l = (subroutine : ℕ) → contains nat_eq l.subroutines subroutine ≡ list_any (λ call. is_place call.caller subroutine) (take l.call-index l.calls)
