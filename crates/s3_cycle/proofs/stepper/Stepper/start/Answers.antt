use Rattle.s3_cycle.proofs.StartLemmas.{begun_begins, begun_runs, starts_begun}
use Rattle.s3_cycle.proofs.stepper.Stepper.start.Goals as goal

pub put_headings-requires-clause-running : goal.put_headings-requires-clause-running
put_headings-requires-clause-running c = begun_runs c.args.program c.args.switches c.args.date c.in-Ok.beginning c.of-stepper.result c.of-stepper.ensures c.in-Ok.ensures

pub put_headings-requires-clause-begins : goal.put_headings-requires-clause-begins
put_headings-requires-clause-begins c = begun_begins c.args.program c.args.switches c.args.date c.in-Ok.beginning c.of-stepper.result c.of-stepper.ensures c.in-Ok.ensures

pub returns-in-Ok : goal.returns-in-Ok
returns-in-Ok c = starts_begun c.args.program c.args.switches c.args.date c.in-Ok.beginning c.of-stepper.result c.put_headings.new.self c.of-stepper.ensures c.in-Ok.ensures c.put_headings.ensures
