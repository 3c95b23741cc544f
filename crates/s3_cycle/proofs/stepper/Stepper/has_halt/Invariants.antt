use Rattle.std.proofs.Common.{◌≡◌, false}
use Rattle.s3_cycle.specs.Inner.Halting.{AreOff}
use Rattle.s3_cycle.proofs.stepper.Stepper.has_halt.Given as goal

abbrev pub invariant-loop-number : goal.invariant-loop-number
invariant-loop-number l = l.some_on ≡ false → AreOff l.self 0 l.number
