use Rattle.std.proofs.Common.{◌≡◌, take, ◌&&◌}
use Rattle.std.specs.List.{list_any}
use Rattle.indexmap.specs.IndexSet.{contains}
use Rattle.s3_program.specs.declared.call.Call.{Call}
use Rattle.s3_program.specs.Jumps.{is_place, same_call, is_in_circle}
use Rattle.s3_compile.proofs.circles.circles_through.Given as goal

abbrev pub invariant-loop-subroutine : goal.invariant-loop-subroutine
invariant-loop-subroutine l = (call : Call) → contains same_call l.circling call
    ≡ (list_any (is_place call.caller) (take l.subroutine-index l.subroutines) && (list_any (same_call call) l.calls && is_in_circle l.calls call))
