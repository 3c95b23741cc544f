use Rattle.s3_bureau.proofs.Alike.{alike_means_same, no_level_learns}
use Rattle.s3_bureau.proofs.laws.no_level_learns_of_the_other.Goals as goal

pub returns-clause-meaning : goal.returns-clause-meaning
returns-clause-meaning c = alike_means_same

pub returns-clause-runs : goal.returns-clause-runs
returns-clause-runs c = no_level_learns
