use Rattle.s3_bureau.proofs.Stepping.{each_takes_its_own}
use Rattle.s3_bureau.proofs.laws.each_level_takes_its_own_entries.Goals as goal

pub returns : goal.returns
returns c = each_takes_its_own
