use Rattle.s3_match.specs.Inner.Holding.{AreHeldTo}
use Rattle.s3_match.proofs.control_fields.hold_fields.Given as goal

abbrev pub invariant-loop-step : goal.invariant-loop-step
invariant-loop-step l = AreHeldTo l.fields.fields l.bytes l.step l.initial.held l.held l.broken
