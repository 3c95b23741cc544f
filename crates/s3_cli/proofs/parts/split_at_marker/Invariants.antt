-- The lines so far are no marker, and the rest goes on from the start of a line.
use Rattle.std.proofs.Common.{◌-◌, length}
use Rattle.s3_cli.proofs.Lines.{PassesOver}
use Rattle.s3_cli.proofs.parts.split_at_marker.Given as goal

abbrev pub invariant-loop-colon : goal.invariant-loop-colon
invariant-loop-colon l = PassesOver l.word l.text l.passed

abbrev pub decreases-loop-colon : goal.decreases-loop-colon
decreases-loop-colon l = length l.text - l.passed
