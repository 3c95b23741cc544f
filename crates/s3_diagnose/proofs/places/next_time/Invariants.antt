use Rattle.std.proofs.Common.{◌≡◌, drop}
use Rattle.s3_program.specs.Places.{next_time}
use Rattle.s3_diagnose.specs.Diagnostics.{verbs}
use Rattle.s3_diagnose.proofs.places.next_time.Given as goal

abbrev pub invariant-loop-line : goal.invariant-loop-line
invariant-loop-line l = next_time (verbs (drop l.line-index l.later)) ≡ next_time (verbs l.later)
