use Rattle.std.proofs.Common.{length}
use Rattle.s3_cells.proofs.numbers.+significant.Given as goal

abbrev pub decreases-significant : goal.decreases-significant
decreases-significant l = length l.zoned.now
