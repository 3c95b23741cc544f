use Rattle.std.proofs.Common.{length}
use Rattle.s3_labels.proofs.writing.+blank_runs.Given as goal

abbrev pub decreases-blank_runs : goal.decreases-blank_runs
decreases-blank_runs g l = length l.runs.now
