use Rattle.s3_cycle.proofs.JumpLemmas.{jump_fits, passes_calculating, passes_one}
use Rattle.s3_cycle.proofs.stepper.Stepper.pass_jumps.Goals as goal

pub go_on-requires-clause-fits : goal.go_on-requires-clause-fits
go_on-requires-clause-fits c = jump_fits c.args.self.now c.requires.jump

pub returns-in-Calculations-clause-passes : goal.returns-in-Calculations-clause-passes
returns-in-Calculations-clause-passes c = passes_calculating c.calculate_on_past.result c.args.self.now c.calculate_on_past.new.self c.requires.jump c.in-Calculations.is c.calculate_on_past.ensures.goes

pub returns-in_default-clause-passes : goal.returns-in_default-clause-passes
returns-in_default-clause-passes c = passes_one c.args.self.now c.go_on.new.self c.requires.jump c.go_on.ensures
