use Rattle.s3_cycle.proofs.FieldLemmas.{over_totals}
use Rattle.s3_cycle.proofs.TotalLemmas.{total_lines_follow}
use Rattle.s3_cycle.proofs.stepper.Stepper.calculate_totals.Goals as goal

pub put_totals-requires-clause-running : goal.put_totals-requires-clause-running
put_totals-requires-clause-running c = c.in-ToEnd.ensures.calculates.running

pub put_totals-requires-clause-time : goal.put_totals-requires-clause-time
put_totals-requires-clause-time c = over_totals c.args.self.now c.calculate_where_due.new.self c.in-ToEnd.ensures c.requires.time

pub returns-in-ToEnd : goal.returns-in-ToEnd
returns-in-ToEnd c =
    total_lines_follow c.args.self.now c.calculate_where_due.new.self c.put_totals.new.self c.in-ToEnd.ensures
    (over_totals c.args.self.now c.calculate_where_due.new.self c.in-ToEnd.ensures c.requires.time) c.put_totals.ensures
