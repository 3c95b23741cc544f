use Rattle.std.proofs.Common.{nat_eq, take, ◌&&◌}
use Rattle.indexmap.specs.IndexSet.{contains}
use Rattle.s3_program.specs.Jumps.{is_place}
use Rattle.s3_compile.proofs.CircleLemmas.{AddsPassing}
use Rattle.s3_compile.proofs.circles.note_leading_back.Given as goal

abbrev pub invariant-loop-call : goal.invariant-loop-call
invariant-loop-call l = AddsPassing (λ other. is_place other.caller l.caller && contains nat_eq l.reaching other.callee) l.initial.circling l.circling (take l.call-index l.calls)
