use Rattle.std.proofs.Common.{sym}
use Rattle.std.specs.Prelude.{Some, None}
use Rattle.s3_meaning.specs.Calculating.{chained_to}
use Rattle.s3_cycle.proofs.ChainingLemmas.{answered_settable}
use Rattle.s3_cycle.proofs.FoundLemmas.{found_then}
use Rattle.s3_cycle.specs.Inner.Going.{CanCalculate, IsPastChain}
use Rattle.s3_cycle.proofs.GoingLemmas.{changed_running, changed_stays}
use Rattle.s3_cycle.proofs.stepper.Stepper.chain_found.Goals as goal

pub turn_entry-requires-clause-settable : goal.turn_entry-requires-clause-settable
turn_entry-requires-clause-settable c = answered_settable c.args.self.now.program c.args.file c.args.missing c.requires.chain

pub returns-in-Some : goal.returns-in-Some
returns-in-Some c =
    found_then c.args.self.now c.turn_entry.new.self c.take_chained.new.self c.args.file c.args.missing c.args.bytes.now (Some c.in-Some.start) c.turn_entry.ensures
    c.in-Some.ensures.found c.take_chained.ensures

pub returns-in-None : goal.returns-in-None
unfolding chained_to
returns-in-None c =
    found_then c.args.self.now c.turn_entry.new.self c.halt.new.self c.args.file c.args.missing c.args.bytes.now None c.turn_entry.ensures
    c.in-None.ensures.found c.halt.ensures

pub type_in-requires-clause-sound : goal.type_in-requires-clause-sound
type_in-requires-clause-sound c = (changed_running c.args.self.now c.turn_entry.new.self _ c.turn_entry.ensures c.requires.running).reading

pub halt-requires-clause-then : goal.halt-requires-clause-then
halt-requires-clause-then c = (
  changed_stays CanCalculate c.args.self.now c.turn_entry.new.self _ c.turn_entry.ensures c.requires.calculates,
  changed_stays IsPastChain c.args.self.now c.turn_entry.new.self _ c.turn_entry.ensures c.requires.past,
)

pub take_chained-requires-clause-typed : goal.take_chained-requires-clause-typed
take_chained-requires-clause-typed c = sym c.in-Some.ensures.found
