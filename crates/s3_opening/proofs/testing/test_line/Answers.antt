use Rattle.std.proofs.Common.{sym, ◌∙◌}
use Rattle.s3_opening.specs.Inner.Starts.{step_in, settings_of}
use Rattle.s3_opening.specs.declared.starts.Start.{Start}
use Rattle.s3_opening.proofs.Steps.{line_unused, line_taken, line_refused, right_pushed}
use Rattle.s3_opening.proofs.Readings.{reads_err, reads_none, reads_ok, reads_spent}
use Rattle.s3_opening.proofs.testing.test_line.Goals as goal

pub returns-then-not-is_used-clause-tested : goal.returns-then-not-is_used-clause-tested
returns-then-not-is_used-clause-tested g c = line_unused c.args.level _ (settings_of c.args.settings.now) c.args.line.now _ (sym c.is_used.ensures ∙ c.if-not-is_used.true)

pub returns-in_ok-push-in-Ok-clause-tested : goal.returns-in_ok-push-in-Ok-clause-tested
returns-in_ok-push-in-Ok-clause-tested g c =
    line_taken c.args.level _ (settings_of c.args.settings.now) c.args.line.now c.args.starts.now.items c.deref.result.now _ c.in-Ok.start (sym c.is_used.ensures ∙ c.if-not-is_used.false) c.deref.ensures.value c.in-Ok.ensures.step c.in_ok-push-in-Ok.ensures.items

pub returns-in_ok-push-in-Ok-clause-right : goal.returns-in_ok-push-in-Ok-clause-right
returns-in_ok-push-in-Ok-clause-right g c =
    right_pushed c.args.level _ c.args.starts.now.items _ c.in-Ok.start c.requires.right c.in-Ok.ensures.right c.in_ok-push-in-Ok.ensures.items

pub returns-in-Err-clause-tested : goal.returns-in-Err-clause-tested
returns-in-Err-clause-tested g c =
    line_refused (Unit {0}) Start step_in c.args.level _ (settings_of c.args.settings.now) c.args.line.now c.args.starts.now.items c.deref.result.now c.in-Err.fault (sym c.is_used.ensures ∙ c.if-not-is_used.false) c.deref.ensures.value c.in-Err.ensures.step

pub returns-then-not-is_used-clause-reads : goal.returns-then-not-is_used-clause-reads
returns-then-not-is_used-clause-reads g c = reads_none _

pub returns-in_err-push-in-Ok-clause-reads : goal.returns-in_err-push-in-Ok-clause-reads
returns-in_err-push-in-Ok-clause-reads g c = reads_spent _ c.from_residual.ensures.1 c.in-Ok.ensures.reads

pub returns-in_ok-push-in-Ok-clause-reads : goal.returns-in_ok-push-in-Ok-clause-reads
returns-in_ok-push-in-Ok-clause-reads g c = reads_ok _ c.in-Ok.ensures.reads

pub returns-in-Err-clause-reads : goal.returns-in-Err-clause-reads
returns-in-Err-clause-reads g c = reads_err c.in-Err.ensures.reads
