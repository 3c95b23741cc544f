use Rattle.std.proofs.Common.{length}
use Rattle.s3_pack_check.proofs.checking.+count_sectors.Given as goal

abbrev pub decreases-count_sectors : goal.decreases-count_sectors
decreases-count_sectors l = length l.runs.now
