use Rattle.std.proofs.Common.{length}
use Rattle.s3_slots.proofs.label.+used_count.Given as goal

abbrev pub decreases-used_count : goal.decreases-used_count
decreases-used_count l = length l.stretches.now
