use Rattle.std.proofs.Common.{length}
use Rattle.s3_slots.proofs.stretch.+sectors_of.Given as goal

abbrev pub decreases-sectors_of : goal.decreases-sectors_of
decreases-sectors_of l = length l.stretches.now
