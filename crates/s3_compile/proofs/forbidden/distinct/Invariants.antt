use Rattle.std.proofs.Common.{◌≡◌, take}
use Rattle.std.specs.List.{list_any}
use Rattle.indexmap.specs.IndexSet.{contains}
use Rattle.s3_program.specs.declared.call.Call.{Call}
use Rattle.s3_program.specs.Jumps.{same_call}
use Rattle.s3_compile.proofs.forbidden.distinct.Given as goal

abbrev pub invariant-loop-call : goal.invariant-loop-call
invariant-loop-call l = (call : Call) → contains same_call l.distinct call ≡ list_any (same_call call) (take l.call-index l.calls)
