use Rattle.std.proofs.Common.{ap, sym, ◌∙◌}
use Rattle.std.specs.Option.{option_copied}
use Rattle.s3_opening.specs.Inner.Starts.{settings_of}
use Rattle.s3_opening.specs.Inner.Tests.{opening}
use Rattle.s3_opening.proofs.Steps.{label_taken, none_stated, stated_sound, step_made, step_opened, step_refused}
use Rattle.s3_opening.proofs.Readings.{reads_err, reads_halted, reads_none, reads_ok}
use Rattle.s3_opening.proofs.testing.start_of.Goals as goal

pub new_file-requires-clause-statement : goal.new_file-requires-clause-statement
new_file-requires-clause-statement g c =
    stated_sound c.args.line.now.name c.args.settings.now.statements.now c.in-Some.statement.now c.requires.statements (sym c.statement_of.ensures ∙ ap option_copied c.in-Some.is)

pub returns-in_default-clause-step : goal.returns-in_default-clause-step
returns-in_default-clause-step g c = none_stated c.args.level _ (settings_of c.args.settings.now) _ c.args.line.now (sym c.statement_of.ensures ∙ ap option_copied c.in_default.is)

pub returns-then-is_taken-clause-step : goal.returns-then-is_taken-clause-step
returns-then-is_taken-clause-step g c =
    label_taken c.args.level _ (settings_of c.args.settings.now) c.args.starts.now c.args.line.now c.in-Some.statement.now (sym c.statement_of.ensures ∙ ap option_copied c.in-Some.is) (sym c.is_taken.ensures ∙ c.if-is_taken.true)

pub returns-then-is_new-clause-step : goal.returns-then-is_new-clause-step
returns-then-is_new-clause-step g c =
    step_made c.args.level _ (settings_of c.args.settings.now) c.args.starts.now c.args.line.now c.in-Some.statement.now c.new_file.result (sym c.statement_of.ensures ∙ ap option_copied c.in-Some.is) (sym c.is_taken.ensures ∙ c.if-is_taken.false)
    (sym c.is_new.ensures ∙ c.if-is_new.true) c.new_file.ensures.value

pub returns-then-is_new-clause-right : goal.returns-then-is_new-clause-right
returns-then-is_new-clause-right g c = c.new_file.ensures.proper

pub returns-in-Ok-clause-step : goal.returns-in-Ok-clause-step
returns-in-Ok-clause-step g c =
    step_opened c.args.level _ (settings_of c.args.settings.now) c.args.starts.now c.args.line.now c.in-Some.statement.now (sym c.statement_of.ensures ∙ ap option_copied c.in-Some.is) (sym c.is_taken.ensures ∙ c.if-is_taken.false)
    (sym c.is_new.ensures ∙ c.if-is_new.false)
    ∙ ap opening c.in-Ok.ensures.file

pub returns-in-Ok-clause-right : goal.returns-in-Ok-clause-right
returns-in-Ok-clause-right g c = c.in-Ok.ensures.opened

pub returns-in-Err-clause-step : goal.returns-in-Err-clause-step
returns-in-Err-clause-step g c =
    step_refused _ _ c.in-Err.fault
    (step_opened c.args.level _ (settings_of c.args.settings.now) c.args.starts.now c.args.line.now c.in-Some.statement.now (sym c.statement_of.ensures ∙ ap option_copied c.in-Some.is) (sym c.is_taken.ensures ∙ c.if-is_taken.false)
    (sym c.is_new.ensures ∙ c.if-is_new.false))
    c.in-Err.ensures.file

pub returns-in_default-clause-reads : goal.returns-in_default-clause-reads
returns-in_default-clause-reads g c = reads_halted _

pub returns-then-is_taken-clause-reads : goal.returns-then-is_taken-clause-reads
returns-then-is_taken-clause-reads g c = reads_halted _

pub returns-then-is_new-clause-reads : goal.returns-then-is_new-clause-reads
returns-then-is_new-clause-reads g c = reads_none _

pub returns-in-Ok-clause-reads : goal.returns-in-Ok-clause-reads
returns-in-Ok-clause-reads g c = reads_ok _ c.in-Ok.ensures.reads

pub returns-in-Err-clause-reads : goal.returns-in-Err-clause-reads
returns-in-Err-clause-reads g c = reads_err c.in-Err.ensures.reads
