use Rattle.std.proofs.Common.{length}
use Rattle.s3_files.proofs.file_sectors.+sector_in.Given as goal

abbrev pub decreases-sector_in : goal.decreases-sector_in
decreases-sector_in l = length l.runs.now
