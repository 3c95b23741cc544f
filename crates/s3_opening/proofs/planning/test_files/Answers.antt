use Rattle.std.proofs.Common.{map, refl, sym, ◌∙◌}
use Rattle.std.specs.Prelude.{Ok, Err}
use Rattle.s3_opening.proofs.Plans.{ready_kept, right_kept}
use Rattle.s3_opening.proofs.Started.{are_starts, can_start, comes_of, reads_planned}
use Rattle.s3_opening.specs.Inner.Starts.{settings_of, step_in}
use Rattle.s3_opening.proofs.planning.test_files.Goals as goal

pub plan_makes-planned-requires-clause-ready : goal.plan_makes-planned-requires-clause-ready
plan_makes-planned-requires-clause-ready g c = ready_kept c.test_lines-tested.ensures.reads c.requires.ready

pub plan_makes-planned-requires-clause-right : goal.plan_makes-planned-requires-clause-right
plan_makes-planned-requires-clause-right g c = right_kept c.args.level _ _ c.test_lines-tested.ensures.reads c.deref.ensures.value c.test_lines-tested.ensures.right

pub returns-in-Ok-clause-comes : goal.returns-in-Ok-clause-comes
returns-in-Ok-clause-comes g c =
    comes_of c.args.level c.args.pack.now.areas c.test_lines-tested.new.pack.areas _ (settings_of c.args.settings.now) c.args.lines.now c.in_ok-starts.starts.items c.test_lines-tested.new.starts.items c.deref.result.now _ c.test_lines-tested.new.starts (λ starts. map step_in starts.items) c.test_lines-tested.result c.plan_makes-planned.result (Ok c.in-Ok.field-0) refl
    c.in_ok-starts.ensures.items c.test_lines-tested.ensures.reads.areas c.deref.ensures.value c.test_lines-tested.ensures.tested c.plan_makes-planned.ensures (sym c.in-Ok.is ∙ c.first_refusal.ensures)

pub returns-in-Ok-clause-can : goal.returns-in-Ok-clause-can
returns-in-Ok-clause-can g c =
    can_start c.args.level c.args.pack.now.areas c.test_lines-tested.new.pack.areas _ (settings_of c.args.settings.now) c.args.lines.now c.in_ok-starts.starts.items c.test_lines-tested.new.starts.items c.deref.result.now c.test_lines-tested.result c.plan_makes-planned.result c.in-Ok.field-0
    c.in_ok-starts.ensures.items c.test_lines-tested.ensures.reads.areas c.deref.ensures.value c.test_lines-tested.ensures.right c.test_lines-tested.ensures.tested c.plan_makes-planned.ensures (sym c.in-Ok.is ∙ c.first_refusal.ensures) c.requires.ready

pub returns-in-Ok-clause-of_lines : goal.returns-in-Ok-clause-of_lines
returns-in-Ok-clause-of_lines g c =
    are_starts c.args.level c.args.pack.now.areas c.test_lines-tested.new.pack.areas _ (settings_of c.args.settings.now) c.args.lines.now c.in_ok-starts.starts.items c.test_lines-tested.new.starts.items c.deref.result.now c.test_lines-tested.result c.plan_makes-planned.result c.in-Ok.field-0
    c.in_ok-starts.ensures.items c.test_lines-tested.ensures.reads.areas c.deref.ensures.value c.test_lines-tested.ensures.right c.test_lines-tested.ensures.tested c.plan_makes-planned.ensures (sym c.in-Ok.is ∙ c.first_refusal.ensures)

pub returns-in-Ok-clause-reads : goal.returns-in-Ok-clause-reads
returns-in-Ok-clause-reads g c = reads_planned c.test_lines-tested.new.starts _ c.test_lines-tested.result c.plan_makes-planned.result (Ok c.in-Ok.field-0) c.plan_makes-planned.ensures (sym c.in-Ok.is ∙ c.first_refusal.ensures) c.test_lines-tested.ensures.reads

pub returns-in-Err-clause-comes : goal.returns-in-Err-clause-comes
returns-in-Err-clause-comes g c =
    comes_of c.args.level c.args.pack.now.areas c.test_lines-tested.new.pack.areas _ (settings_of c.args.settings.now) c.args.lines.now c.in_ok-starts.starts.items c.test_lines-tested.new.starts.items c.deref.result.now _ c.test_lines-tested.new.starts (λ starts. map step_in starts.items) c.test_lines-tested.result c.plan_makes-planned.result (Err c.in-Err.fault) refl
    c.in_ok-starts.ensures.items c.test_lines-tested.ensures.reads.areas c.deref.ensures.value c.test_lines-tested.ensures.tested c.plan_makes-planned.ensures (sym c.in-Err.is ∙ c.first_refusal.ensures)

pub returns-in-Err-clause-reads : goal.returns-in-Err-clause-reads
returns-in-Err-clause-reads g c = reads_planned c.test_lines-tested.new.starts _ c.test_lines-tested.result c.plan_makes-planned.result (Err c.in-Err.fault) c.plan_makes-planned.ensures (sym c.in-Err.is ∙ c.first_refusal.ensures) c.test_lines-tested.ensures.reads
