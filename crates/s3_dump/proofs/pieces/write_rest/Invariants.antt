use Rattle.std.proofs.Common.{◌-◌}
use Rattle.s3_dump.specs.Inner.Writing.{Keeps}
use Rattle.s3_dump.proofs.pieces.write_rest.Given as goal

abbrev pub invariant-loop-place : goal.invariant-loop-place
invariant-loop-place l = Keeps l.initial.writer l.writer

abbrev pub decreases-loop-place : goal.decreases-loop-place
decreases-loop-place l = l.run.to - l.place
