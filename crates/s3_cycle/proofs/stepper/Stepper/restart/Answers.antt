use Rattle.s3_cycle.proofs.StartLemmas.{restarts_running, starts}
use Rattle.s3_cycle.proofs.stepper.Stepper.restart.Goals as goal

pub put_headings-requires-clause-running : goal.put_headings-requires-clause-running
put_headings-requires-clause-running c = restarts_running c.args.self.now c.begin_again.new.self c.begin_again-2.new.self c.args.switches c.args.date c.requires.running c.begin_again.ensures c.begin_again-2.ensures

pub put_headings-requires-clause-begins : goal.put_headings-requires-clause-begins
put_headings-requires-clause-begins c = c.begin_again-2.ensures.begins

pub returns : goal.returns
returns c = starts (record c.args.self.now { state = c.begin_again.new.self; progress = c.begin_again-2.new.self }) c.put_headings.new.self c.args.switches c.args.date c.begin_again.ensures c.begin_again-2.ensures c.put_headings.ensures
