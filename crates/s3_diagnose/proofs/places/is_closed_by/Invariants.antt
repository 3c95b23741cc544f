use Rattle.std.proofs.Common.{◌≡◌, drop}
use Rattle.std.specs.Prelude.{None}
use Rattle.s3_program.specs.Places.{is_closed_by}
use Rattle.s3_diagnose.specs.Diagnostics.{verbs}
use Rattle.s3_diagnose.proofs.places.is_closed_by.Given as goal

abbrev pub invariant-loop-line : goal.invariant-loop-line
invariant-loop-line l = is_closed_by l.group (verbs (drop l.line-index l.later)) ≡ is_closed_by None (verbs l.later)
