use Rattle.s3_cycle.specs.Inner.Lines.{PassesTo}
use Rattle.s3_cycle.proofs.stepper.Stepper.next_line.Given as goal

abbrev pub invariant-loop-place : goal.invariant-loop-place
invariant-loop-place l = PassesTo l.self l.fn.walk l.next l.place
