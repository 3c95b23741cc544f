use Rattle.std.proofs.Common.{refl}
use Rattle.s3_program.specs.declared.starts.Walk.TheVariants as walk
use Rattle.s3_cycle.specs.Inner.Rest.{totals_end}
use Rattle.s3_cycle.proofs.TotalLemmas.{passed_all, same_running, same_totals, total_lines}
use Rattle.s3_cycle.proofs.stepper.Stepper.put_totals.Goals as goal

pub put_lines-requires-clause-walk : goal.put_lines-requires-clause-walk
put_lines-requires-clause-walk c = total_lines c.args.self.now.program c.args.self.now.progress c.args.self.now.progress.time c.requires.time

pub leave_totals-requires-clause-running : goal.leave_totals-requires-clause-running
leave_totals-requires-clause-running c = same_running c.args.self.now c.put_lines.new.self c.in-ToEnd.ensures.0 c.requires.running

pub leave_totals-requires-clause-time : goal.leave_totals-requires-clause-time
leave_totals-requires-clause-time c = same_totals c.args.self.now c.put_lines.new.self c.in-ToEnd.ensures.0 c.requires.time

pub returns-in-ToEnd : goal.returns-in-ToEnd
returns-in-ToEnd c =
    passed_all c.args.self.now c.put_lines.new.self c.leave_totals.new.self walk.Totals c.args.next (λ source program progress. totals_end source program progress progress.time)
    c.in-ToEnd.ensures.0 c.in-ToEnd.ensures.1 refl c.leave_totals.ensures
