use Rattle.s3_dump.specs.Inner.Writing.{Keeps}
use Rattle.s3_dump.proofs.pieces.write_areas.Given as goal

abbrev pub invariant-loop-run : goal.invariant-loop-run
invariant-loop-run l = Keeps l.initial.writer l.writer
