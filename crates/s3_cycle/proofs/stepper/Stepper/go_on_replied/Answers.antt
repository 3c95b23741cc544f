use Rattle.s3_meaning.specs.Cycle.{again}
use Rattle.s3_meaning.specs.Runs.{replied}
use Rattle.s3_cycle.specs.declared.request.Answer.TheVariants.{Reply}
use Rattle.s3_cycle.specs.Inner.Requests.{answer_of}
use Rattle.s3_cycle.specs.Inner.Rest.{continued}
use Rattle.s3_cycle.proofs.AnswerLemmas.{answered_by}
use Rattle.s3_cycle.proofs.stepper.Stepper.go_on_replied.Goals as goal

pub returns : goal.returns
unfolding answer_of
returns c =
    answered_by c.args.self.now _ c.args.answer (Reply c.in-Reply.digit) (λ answer source program progress. replied (again source) (continued source program progress c.args.then) answer) c.in-Reply.is c.reply.ensures
