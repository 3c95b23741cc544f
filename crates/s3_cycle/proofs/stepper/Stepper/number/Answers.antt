use Rattle.std.proofs.Common.{arith}
use Rattle.s3_cycle.proofs.LineLemmas.{beginning_number, exceptions_fit, exceptions_number, overflow_number, overflow_within, totals_fit, totals_number}
use Rattle.s3_cycle.proofs.stepper.Stepper.number.Goals as goal

pub overflow_add-result : goal.overflow_add-result
overflow_add-result c = totals_fit c.args.self.now c.args.walk c.args.place c.requires.running c.in-Totals.is c.requires.within

pub overflow_add-result-in-Exceptions : goal.overflow_add-result-in-Exceptions
overflow_add-result-in-Exceptions c = exceptions_fit c.args.self.now c.args.walk c.args.place c.requires.running c.in-Exceptions.is c.requires.within

pub index-requires : goal.index-requires
index-requires c = omega (arith, overflow_within c.args.self.now c.args.walk c.args.place c.requires.running c.in-Overflow.is c.requires.within, c.args.self.now.outputs.overflow.ok.0)

pub returns-in-Beginning : goal.returns-in-Beginning
returns-in-Beginning c = beginning_number c.args.self.now c.args.walk c.args.place c.in-Beginning.is c.requires.within

pub returns-in-Totals : goal.returns-in-Totals
returns-in-Totals c = totals_number c.args.self.now c.args.walk c.args.place c.requires.running c.in-Totals.is c.requires.within

pub returns-in-Exceptions : goal.returns-in-Exceptions
returns-in-Exceptions c = exceptions_number c.args.self.now c.args.walk c.args.place c.requires.running c.in-Exceptions.is

pub returns-in-Overflow : goal.returns-in-Overflow
returns-in-Overflow c = overflow_number c.args.self.now c.args.walk c.args.place c.index.result.now c.requires.running c.in-Overflow.is c.requires.within c.index.ensures
