use Rattle.s3_cycle.specs.declared.request.Answer.TheVariants.{Found, Nothing}
use Rattle.s3_cycle.specs.Inner.Requests.{answer_of}
use Rattle.s3_cycle.specs.Inner.Rest.{head_answered}
use Rattle.s3_cycle.proofs.AnswerLemmas.{answered_by}
use Rattle.s3_cycle.proofs.stepper.Stepper.go_on_read.Goals as goal

pub returns-in-Found : goal.returns-in-Found
unfolding answer_of
returns-in-Found c = answered_by c.args.self.now _ c.args.answer (Found c.in-Found.bytes) (λ answer source program progress. head_answered source program progress c.args.place answer) c.in-Found.is c.take_record.ensures

pub returns-in-Nothing : goal.returns-in-Nothing
unfolding answer_of
returns-in-Nothing c = answered_by c.args.self.now _ c.args.answer Nothing (λ answer source program progress. head_answered source program progress c.args.place answer) c.in-Nothing.is c.end_file.ensures
