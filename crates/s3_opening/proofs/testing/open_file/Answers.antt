use Rattle.std.proofs.Common.{sym, ◌∙◌}
use Rattle.s3_opening.proofs.Refusals.{found_ok}
use Rattle.s3_opening.proofs.Readings.{reads_halted}
use Rattle.s3_opening.proofs.testing.open_file.Goals as goal

pub returns-in-Ok-clause-opened : goal.returns-in-Ok-clause-opened
returns-in-Ok-clause-opened g c =
    found_ok c.args.level c.args.pack.now.areas _ c.args.name c.in-Ok.label c.in-Ok.is_master c.open_standing.result (sym c.find.ensures.value ∙ c.in-Ok.is) c.open_standing.ensures.is c.open_standing.ensures.kept

pub returns-in-Err-clause-reads : goal.returns-in-Err-clause-reads
returns-in-Err-clause-reads g c = reads_halted _
