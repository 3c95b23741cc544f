use Rattle.std.proofs.Common.{sym, ◌∙◌}
use Rattle.s3_cycle.proofs.TotalLemmas.{total_ends, total_passes}
use Rattle.s3_cycle.proofs.stepper.Stepper.leave_totals.Goals as goal

pub returns-then-is_on : goal.returns-then-is_on
returns-then-is_on c = total_ends c.args.self.now _ c.args.self.now.progress.time c.requires.time (sym c.is_on.ensures ∙ c.if-is_on.true) c.end.ensures

pub returns-in-Totals : goal.returns-in-Totals
returns-in-Totals c = total_passes c.args.self.now _ _ c.in-Totals.is (sym c.is_on.ensures ∙ c.if-is_on.false) c.begin_overflow.ensures
