use Rattle.s3_cycle.proofs.TurnLemmas.{reads_next, reads_last}
use Rattle.s3_cycle.proofs.stepper.Stepper.read_first.Goals as goal

pub returns-in-Some : goal.returns-in-Some
returns-in-Some c = reads_next c.args.self.now c.ask_head.new.self 0 c.in-Some.place (c.in-Some.ensures.next c.args.self.now.program) c.ask_head.ensures

pub returns-in-None : goal.returns-in-None
returns-in-None c = reads_last c.args.self.now c.set_last.new.self c.requires.begins (c.in-None.ensures.next c.args.self.now.program) c.set_last.ensures
