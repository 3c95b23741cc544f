use Rattle.std.proofs.Common.{length}
use Rattle.s3_slots.proofs.placement.+cut.Given as goal

abbrev pub decreases-cut : goal.decreases-cut
decreases-cut l = length l.stretches.now
