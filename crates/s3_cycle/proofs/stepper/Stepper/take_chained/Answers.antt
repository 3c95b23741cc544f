use Rattle.std.proofs.Common.{refl, ◌∙◌, ◌<◌, length}
use Rattle.s3_cycle.specs.Inner.Going.{CanCalculate}
use Rattle.s3_match.specs.Inner.Types.{kind_at}
use Rattle.s3_cycle.proofs.GoingLemmas.{changed_program, changed_running, changed_stays}
use Rattle.s3_cycle.proofs.ChainedLemmas.{chained_within, ends_within, found_moved, kept_moves, kept_running, takes_chained}
use Rattle.s3_cycle.proofs.stepper.Stepper.take_chained.Goals as goal

pub make_chained_current-requires-clause-running : goal.make_chained_current-requires-clause-running
make_chained_current-requires-clause-running c = changed_running c.args.self.now c.identify_type.new.self _ c.identify_type.ensures c.requires.running

pub make_chained_current-requires-clause-within : goal.make_chained_current-requires-clause-within
make_chained_current-requires-clause-within c = changed_stays (λ program progress. c.args.file < length program.files.items) c.args.self.now c.identify_type.new.self _ c.identify_type.ensures c.requires.within

pub move_chained-requires-clause-running : goal.move_chained-requires-clause-running
move_chained-requires-clause-running c =
    kept_running c.make_chained_current.new.self c.put.new.self
    (changed_running c.identify_type.new.self c.make_chained_current.new.self _ c.make_chained_current.ensures (changed_running c.args.self.now c.identify_type.new.self _ c.identify_type.ensures c.requires.running))

pub move_chained-requires-clause-fields : goal.move_chained-requires-clause-fields
move_chained-requires-clause-fields c =
    kept_moves c.make_chained_current.new.self c.args.start.fields c.put.new.self c.args.bytes.now c.put.ensures
    (changed_stays CanCalculate c.identify_type.new.self c.make_chained_current.new.self _ c.make_chained_current.ensures (changed_stays CanCalculate c.args.self.now c.identify_type.new.self _ c.identify_type.ensures c.requires.calculates))
    (ends_within c.args.self.now c.make_chained_current.new.self c.args.start c.args.bytes.now
    (changed_program c.identify_type.new.self c.make_chained_current.new.self _ c.make_chained_current.ensures ∙ changed_program c.args.self.now c.identify_type.new.self _ c.identify_type.ensures)
    (chained_within c.args.self.now.program c.args.file c.args.start c.args.bytes.now c.requires.within c.requires.starts c.requires.typed c.requires.«record».long))

pub returns : goal.returns
returns c =
    takes_chained c.args.self.now c.identify_type.new.self c.make_chained_current.new.self c.move_chained.new.self c.args.file c.args.start c.args.bytes.now (kind_at c.args.self.now.program c.args.start).indicator c.requires.starts refl
    (changed_program c.args.self.now c.identify_type.new.self _ c.identify_type.ensures) (changed_program c.identify_type.new.self c.make_chained_current.new.self _ c.make_chained_current.ensures) c.identify_type.ensures c.make_chained_current.ensures
    (found_moved c.make_chained_current.new.self c.move_chained.new.self c.args.start.fields c.put.new.self c.args.bytes.now c.put.ensures c.move_chained.ensures)
