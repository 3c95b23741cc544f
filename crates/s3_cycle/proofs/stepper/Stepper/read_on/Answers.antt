use Rattle.s3_cycle.proofs.TurnLemmas.{reads_next, reads_none}
use Rattle.s3_cycle.proofs.stepper.Stepper.read_on.Goals as goal

pub returns-in-Some : goal.returns-in-Some
returns-in-Some c = reads_next c.args.self.now c.ask_head.new.self c.args.from c.in-Some.place (c.in-Some.ensures.next c.args.self.now.program) c.ask_head.ensures

pub returns-in-None : goal.returns-in-None
returns-in-None c = reads_none c.args.self.now c.select.new.self c.args.from c.requires.within (c.in-None.ensures.next c.args.self.now.program) c.select.ensures
