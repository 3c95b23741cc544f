use Rattle.std.proofs.Common.{sym, ◌∙◌}
use Rattle.s3_operating.proofs.Replying.{not_allowed}
use Rattle.s3_operating.proofs.levels.Levels.hear_reply.Goals as goal

pub returns-in-Some-2 : goal.returns-in-Some-2
returns-in-Some-2 c =
    not_allowed c.args.question c.args.to c.in-Some.code c.args.digit (λ same. sym c.in-Some.is ∙ c.asked_in.ensures same) (sym c.allowed.ensures ∙ c.if-allowed.false)
