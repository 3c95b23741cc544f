use Rattle.std.proofs.Common.{nat_eq, sym, ◌∙◌}
use Rattle.indexmap.specs.IndexSet.{contains}
use Rattle.s3_program.specs.declared.call.Call.{Call}
use Rattle.s3_compile.specs.Inner.Chains.{is_among}
use Rattle.s3_compile.proofs.ChainLemmas.{passes_one, passes_none}
use Rattle.s3_compile.proofs.chains.calls_within.Goals.{then-is_within+in_ok-push, else-is_within}
use Rattle.s3_compile.proofs.chains.calls_within.Goals as goal

pub loop-call-preserved : goal.loop-call-preserved
loop-call-preserved c = elim c.if-is_within.branch [
  | then-is_within+in_ok-push w ↦
      rw w.within-is
      (passes_one (λ (call : Call). is_among (contains nat_eq c.args.subroutines.now) call.caller) c.args.calls.now c.loop-call.within.items w.push.new.self.items c.loop-call.call-index _
      c.loop-call-test.true c.loop-call.invariant (sym c.is_within.ensures ∙ w.if-is_within.true) w.in_ok-push.ensures.items)
  | else-is_within w ↦
      rw w.within-is
      (passes_none (λ (call : Call). is_among (contains nat_eq c.args.subroutines.now) call.caller) c.args.calls.now c.loop-call.within.items c.loop-call.call-index _
      c.loop-call-test.true c.loop-call.invariant (sym c.is_within.ensures ∙ w.if-is_within.false))
]
