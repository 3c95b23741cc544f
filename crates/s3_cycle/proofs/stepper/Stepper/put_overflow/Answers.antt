use Rattle.s3_cycle.proofs.GoingLemmas.{changed_running, changed_stays}
use Rattle.s3_cycle.proofs.PrintLemmas.{overflow_settable}
use Rattle.s3_cycle.proofs.TotalLemmas.{overflow_ended, same_running, same_taken}
use Rattle.s3_cycle.specs.Inner.Going.{IsTaken}
use Rattle.s3_cycle.proofs.stepper.Stepper.put_overflow.Goals as goal

pub turn_entry-requires-clause-settable : goal.turn_entry-requires-clause-settable
turn_entry-requires-clause-settable c = overflow_settable c.put_lines.new.self (same_running c.args.self.now c.put_lines.new.self c.in-ToEnd.ensures.0 c.requires.running)

pub move_record-requires-clause-running : goal.move_record-requires-clause-running
move_record-requires-clause-running c =
    changed_running c.put_lines.new.self c.turn_entry.new.self _ c.turn_entry.ensures (same_running c.args.self.now c.put_lines.new.self c.in-ToEnd.ensures.0 c.requires.running)

pub move_record-requires-clause-taken : goal.move_record-requires-clause-taken
move_record-requires-clause-taken c =
    changed_stays (λ program progress. IsTaken program progress c.args.selection) c.put_lines.new.self c.turn_entry.new.self _ c.turn_entry.ensures
    (same_taken c.args.self.now c.put_lines.new.self c.args.selection c.in-ToEnd.ensures.0 c.requires.taken)

pub returns-in-ToEnd : goal.returns-in-ToEnd
returns-in-ToEnd c =
    overflow_ended c.args.self.now c.put_lines.new.self c.turn_entry.new.self _ c.args.selection c.args.next c.requires.running c.in-ToEnd.ensures.0 c.in-ToEnd.ensures.1 c.requires.time c.turn_entry.ensures c.move_record.ensures
