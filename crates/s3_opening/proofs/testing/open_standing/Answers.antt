use Rattle.std.proofs.Common.{Option, refl, sym, ◌∙◌}
use Rattle.s3_job_files.specs.declared.file.OpenFile.{OpenFile}
use Rattle.s3_opening.proofs.Refusals.{bad_gives, line_refused, opened_gives}
use Rattle.s3_opening.proofs.Readings.{reads_failed, reads_halted}
use Rattle.s3_opening.proofs.testing.open_standing.Goals as goal

pub returns-in-Some-clause-file : goal.returns-in-Some-clause-file
returns-in-Some-clause-file g c = line_refused c.args.line.now c.args.is_master c.args.label _ c.in-Some.code (sym c.line_refusal.ensures ∙ c.in-Some.is)

pub returns-in-Some-2-clause-file : goal.returns-in-Some-2-clause-file
returns-in-Some-2-clause-file g c =
    opened_gives c.args.line.now c.args.is_master c.args.label _ c.in_ok-file.field-0 c.in-Some-2.file c.in-Some-2.is (sym c.line_refusal.ensures ∙ c.in_default.is)
    c.in_ok-file.ensures.good c.in_ok-file.ensures.opened

pub returns-in-None-clause-file : goal.returns-in-None-clause-file
returns-in-None-clause-file g c =
    bad_gives c.args.line.now c.args.is_master c.args.label _ c.in_ok-file.field-0 c.in-None.is (sym c.line_refusal.ensures ∙ c.in_default.is) c.in_ok-file.ensures.good

pub returns-in-Some-clause-reads : goal.returns-in-Some-clause-reads
returns-in-Some-clause-reads g c = reads_halted _

pub returns-in_err-file-clause-reads : goal.returns-in_err-file-clause-reads
returns-in_err-file-clause-reads g c = reads_failed (Option OpenFile) _ _ c.from_residual.ensures.1 c.open.ensures.keeps c.in_err-file.ensures.failures

pub returns-in-Some-2-clause-reads : goal.returns-in-Some-2-clause-reads
returns-in-Some-2-clause-reads g c = record { areas = refl; keeps = c.open.ensures.keeps; failures = c.in_ok-file.ensures.failures }

pub returns-in-None-clause-reads : goal.returns-in-None-clause-reads
returns-in-None-clause-reads g c = record { areas = refl; keeps = c.open.ensures.keeps; failures = c.in_ok-file.ensures.failures }
