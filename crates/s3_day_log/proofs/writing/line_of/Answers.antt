use Rattle.std.proofs.Common.{ap, ◌∙◌}
use Rattle.std.proofs.lemmas.Result.{IfOk-weaker}
use Rattle.s3_day_log.specs.Inner.Events.{said_of}
use Rattle.s3_day_log.specs.Inner.Lines.{line_of}
use Rattle.s3_day_log.proofs.WritingLemmas.{line_written}
use Rattle.s3_day_log.proofs.writing.line_of.Goals as goal

pub returns : goal.returns
returns c =
    IfOk-weaker c.ended.result _ _
    (λ line is. is ∙ (line_written c.as_str.result.now (said_of c.args.event) _ _ (c.new-2.ensures.before ∙ c.new.ensures.items) c.new-2.ensures.tokens c.in_ok-record.ensures ∙ ap (λ at. line_of at (said_of c.args.event)) c.as_str.ensures.value))
    c.ended.ensures
