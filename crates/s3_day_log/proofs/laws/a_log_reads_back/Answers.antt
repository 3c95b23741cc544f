use Rattle.s3_day_log.proofs.RoundTrip.{reads_back}
use Rattle.s3_day_log.proofs.laws.a_log_reads_back.Goals as goal

pub returns : goal.returns
returns c = reads_back
