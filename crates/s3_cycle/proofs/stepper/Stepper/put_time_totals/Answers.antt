use Rattle.s3_cycle.proofs.TotalLemmas.{before_record}
use Rattle.s3_cycle.proofs.stepper.Stepper.put_time_totals.Goals as goal

pub put_totals-requires-clause-time : goal.put_totals-requires-clause-time
put_totals-requires-clause-time c = before_record c.args.self.now.program c.args.self.now.progress c.args.self.now.progress.time c.in-Totals.field-0 c.in-Totals.is c.requires.walk
