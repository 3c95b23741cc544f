use Rattle.s3_cycle.proofs.GoingLemmas.{changed_running}
use Rattle.s3_cycle.proofs.ProcessLemmas.{takes_running, with_totals, without_totals, goes_taken}
use Rattle.s3_cycle.proofs.stepper.Stepper.process.Goals as goal

pub total-requires-clause-running : goal.total-requires-clause-running
total-requires-clause-running c =
    changed_running c.take-selection.new.self c.identify.new.self _ c.identify.ensures (takes_running c.args.self.now c.take-selection.new.self c.args.place c.take-selection.result c.take-selection.ensures c.requires.running)

pub begin_overflow-requires-clause-running : goal.begin_overflow-requires-clause-running
begin_overflow-requires-clause-running c =
    changed_running c.take-selection.new.self c.identify.new.self _ c.identify.ensures (takes_running c.args.self.now c.take-selection.new.self c.args.place c.take-selection.result c.take-selection.ensures c.requires.running)

pub returns-then-self : goal.returns-then-self
returns-then-self c =
    goes_taken c.args.self.now c.take-selection.new.self c.identify.new.self c.total.new.self c.args.place c.take-selection.result c.take-selection.ensures c.identify.ensures
    (with_totals c.identify.new.self c.total.new.self c.take-selection.result c.if-self.true c.total.ensures)

pub returns-else-self : goal.returns-else-self
returns-else-self c =
    goes_taken c.args.self.now c.take-selection.new.self c.identify.new.self c.begin_overflow.new.self c.args.place c.take-selection.result c.take-selection.ensures c.identify.ensures
    (without_totals c.identify.new.self c.begin_overflow.new.self c.take-selection.result c.if-self.false c.begin_overflow.ensures)
