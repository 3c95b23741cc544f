use Rattle.std.proofs.Common.{◌∙◌}
use Rattle.s3_day_log.specs.Inner.Lines.{is_time}
use Rattle.s3_day_log.proofs.LogLemmas.{both_ok}
use Rattle.s3_day_log.proofs.reading.is_time.Goals as goal

pub returns : goal.returns
unfolding is_time
returns c = c.is_ok.ensures.value ∙ both_ok _ _ c.parse.result _ c.parse.ensures.value
