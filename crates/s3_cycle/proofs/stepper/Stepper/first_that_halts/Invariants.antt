use Rattle.s3_cycle.specs.Inner.Halting.{AreOff}
use Rattle.s3_cycle.proofs.stepper.Stepper.first_that_halts.Given as goal

abbrev pub invariant-loop-number : goal.invariant-loop-number
invariant-loop-number l = AreOff l.self l.from l.number
