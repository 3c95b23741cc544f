use Rattle.std.proofs.Common.{ap, sym, ◌∙◌}
use Rattle.s3_meaning.specs.Calculating.{not_found}
use Rattle.s3_operations.specs.Inner.Indicators.{is_settable_entry}
use Rattle.s3_cycle.proofs.ChainingLemmas.{shows_miss, halts_missing}
use Rattle.s3_cycle.proofs.stepper.Stepper.miss.Goals as goal

pub turn-requires-clause-settable : goal.turn-requires-clause-settable
turn-requires-clause-settable c = ap is_settable_entry (sym c.in-Some.is) ∙ c.requires.settable

pub returns-in-Some : goal.returns-in-Some
returns-in-Some c = shows_miss c.args.self.now c.turn.new.self c.args.missing c.in-Some.indicator c.in-Some.is c.requires.running c.turn.ensures

pub returns-in-None : goal.returns-in-None
unfolding not_found
returns-in-None c = halts_missing c.args.self.now c.halt.new.self c.args.missing c.in-None.is c.halt.ensures
