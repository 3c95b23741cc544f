use Rattle.s3_cycle.proofs.TotalLemmas.{at_totals, record_totals}
use Rattle.s3_cycle.proofs.stepper.Stepper.total.Goals as goal

pub calculate_totals-requires-clause-totals : goal.calculate_totals-requires-clause-totals
calculate_totals-requires-clause-totals c =
    at_totals _ c.totals.result c.restart.new.self
    (record { is = c.restart.ensures.course _ c.totals.ensures.spot c.totals.ensures.outside; here = c.restart.ensures.here; returns = c.restart.ensures.returns; whole = c.totals.ensures.whole; all = c.totals.ensures.all })

pub returns : goal.returns
returns c =
    record_totals c.args.self.now _ c.args.selection c.totals.result c.restart.new.self
    (record { is = c.restart.ensures.course _ c.totals.ensures.spot c.totals.ensures.outside; here = c.restart.ensures.here; returns = c.restart.ensures.returns; whole = c.totals.ensures.whole; all = c.totals.ensures.all })
    c.calculate_totals.ensures
