use Rattle.s3_day_log.proofs.TimesBack.{times_back}
use Rattle.s3_day_log.proofs.laws.times_read_back.Goals as goal

pub returns : goal.returns
returns c = times_back
