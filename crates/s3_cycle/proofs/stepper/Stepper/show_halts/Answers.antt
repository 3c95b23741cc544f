use Rattle.s3_cycle.proofs.HaltLemmas.{first_halts, none_halts}
use Rattle.s3_cycle.proofs.stepper.Stepper.show_halts.Goals as goal

pub returns-in-Some : goal.returns-in-Some
returns-in-Some c = first_halts c.args.self.now c.halt.new.self c.args.from c.in-Some.number c.requires.from c.in-Some.ensures.found c.halt.ensures

pub returns-in-None : goal.returns-in-None
returns-in-None c = none_halts c.args.self.now c.begin_reading.new.self c.args.from c.requires.from c.in-None.ensures.none c.begin_reading.ensures
