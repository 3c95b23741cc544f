use Rattle.s3_cycle.proofs.FieldLemmas.{at_details, details_running}
use Rattle.s3_cycle.proofs.GoingLemmas.{changed_running, changed_stays}
use Rattle.s3_cycle.proofs.RecordLemmas.{record_is_processed, still_moves, still_running, taken_at_time}
use Rattle.s3_cycle.specs.Inner.Going.{IsTaken}
use Rattle.s3_cycle.proofs.stepper.Stepper.move_record.Goals as goal

pub make_current-requires-clause-running : goal.make_current-requires-clause-running
make_current-requires-clause-running c =
    let s = c.args.self.now in
    changed_running (at_details s c.args.selection) c.turn.new.self _ c.turn.ensures (details_running s c.args.selection c.requires.running)

pub make_current-requires-clause-taken : goal.make_current-requires-clause-taken
make_current-requires-clause-taken c =
    let s = c.args.self.now in
    changed_stays (λ program progress. IsTaken program progress c.args.selection) (at_details s c.args.selection) c.turn.new.self _ c.turn.ensures (taken_at_time s c.args.selection c.requires.taken)

pub move_processed-requires-clause-running : goal.move_processed-requires-clause-running
move_processed-requires-clause-running c = still_running c.args.self.now c.turn.new.self c.make_current.new.self c.args.selection _ _ c.requires.running c.turn.ensures c.make_current.ensures

pub move_processed-requires-clause-fields : goal.move_processed-requires-clause-fields
move_processed-requires-clause-fields c = still_moves c.args.self.now c.turn.new.self c.make_current.new.self c.args.selection _ _ c.requires.taken c.turn.ensures c.make_current.ensures

pub returns : goal.returns
returns c =
    record_is_processed c.args.self.now c.turn.new.self c.make_current.new.self c.move_processed.new.self c.args.selection c.requires.taken c.turn.ensures c.make_current.ensures c.move_processed.ensures
