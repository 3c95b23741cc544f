use Rattle.std.proofs.Common.{◌++◌, Ok, ap, ◌∙◌}
use Rattle.jiff.specs.Words.{parse_timestamp}
use Rattle.jiff.proofs.Family.{parse_timestamp-printed}
use Rattle.s3_day_log.proofs.clock_text.utc_text.Goals as goal

pub returns : goal.returns
returns c =
    ap parse_timestamp (c.in_ok-push_str.ensures.bytes ∙ ap (λ xs. xs ++ c.as_str.result.now) c.new-text.ensures.bytes ∙ c.as_str.ensures.value)
    ∙ parse_timestamp-printed c.new.result c.to_plain.result c.timestamp_text-written.result.bytes c.new.ensures c.timestamp_text-written.ensures
    ∙ ap Ok (ap (λ t. t.nanosecond) c.to_plain.ensures ∙ c.time_of.ensures)
