use Rattle.std.proofs.Common.{nat_eq, sym, ◌∙◌, ◌&&◌}
use Rattle.indexmap.specs.IndexSet.{contains}
use Rattle.s3_program.specs.declared.call.Call.{Call}
use Rattle.s3_program.specs.Jumps.{is_place}
use Rattle.s3_compile.proofs.CircleLemmas.{adds_one, adds_none}
use Rattle.s3_compile.proofs.circles.note_leading_back.Goals.{then-leads_back+in_ok-insert, else-leads_back}
use Rattle.s3_compile.proofs.circles.note_leading_back.Goals as goal

pub loop-call-preserved : goal.loop-call-preserved
loop-call-preserved c = elim c.if-leads_back.branch [
  | then-leads_back+in_ok-insert w ↦
      rw w.circling-is
      (adds_one (λ (other : Call). is_place other.caller c.args.caller && contains nat_eq c.args.reaching.now other.callee) c.args.circling.now c.loop-call.circling w.insert.new.self c.args.calls.now c.loop-call.call-index _
      c.loop-call-test.true (sym c.leads_back.ensures ∙ w.if-leads_back.true) (record { at = w.in_ok-insert.ensures.updates.0 }) c.loop-call.invariant)
  | else-leads_back w ↦
      rw w.circling-is
      (adds_none (λ (other : Call). is_place other.caller c.args.caller && contains nat_eq c.args.reaching.now other.callee) c.args.circling.now c.loop-call.circling c.args.calls.now c.loop-call.call-index _
      c.loop-call-test.true (sym c.leads_back.ensures ∙ w.if-leads_back.false) c.loop-call.invariant)
]
