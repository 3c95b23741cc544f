use Rattle.std.proofs.Common.{◌-◌}
use Rattle.s3_dump.specs.Inner.Writing.{Keeps}
use Rattle.s3_dump.proofs.pieces.write_records.Given as goal

abbrev pub invariant-loop-next : goal.invariant-loop-next
invariant-loop-next l = Keeps l.initial.writer l.writer

abbrev pub decreases-loop-next : goal.decreases-loop-next
decreases-loop-next l = l.end - l.next
