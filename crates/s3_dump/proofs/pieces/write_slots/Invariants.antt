use Rattle.s3_dump.specs.Inner.Writing.{Keeps}
use Rattle.s3_dump.proofs.pieces.write_slots.Given as goal

abbrev pub invariant-loop-place : goal.invariant-loop-place
invariant-loop-place l = Keeps l.initial.writer l.writer
