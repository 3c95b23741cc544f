use Rattle.std.proofs.Common.{ap, ◌∙◌}
use Rattle.s3_day_log.specs.Inner.Members.{halt_of}
use Rattle.s3_day_log.proofs.RoundTrip.{halt_read}
use Rattle.s3_day_log.proofs.members.halt_of.Goals as goal

pub returns-in-len2 : goal.returns-in-len2
returns-in-len2 c = halt_read c.as_bytes.result.now c.code_of.result c.in-len2.len_at_least c.in-len2.len_below c.code_of.ensures ∙ ap halt_of c.as_bytes.ensures.value
