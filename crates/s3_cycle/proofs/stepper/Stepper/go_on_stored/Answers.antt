use Rattle.s3_meaning.specs.Cycle.{again}
use Rattle.s3_meaning.specs.Output.{stored_or_halted}
use Rattle.s3_cycle.specs.declared.request.Answer.TheVariants.{Done, Refused}
use Rattle.s3_cycle.specs.Inner.Requests.{answer_of}
use Rattle.s3_cycle.specs.Inner.Rest.{lines_from}
use Rattle.s3_cycle.proofs.AnswerLemmas.{answered_by, stored_done, stored_refused}
use Rattle.s3_cycle.proofs.stepper.Stepper.go_on_stored.Goals as goal

pub returns-in-Done : goal.returns-in-Done
unfolding answer_of
returns-in-Done c =
    answered_by c.args.self.now _ c.args.answer Done (λ answer source program progress. stored_or_halted (again source) (lines_from source program progress c.args.walk c.args.next) answer) c.in-Done.is
    (stored_done c.args.self.now _ c.args.walk c.args.next c.put_walk.ensures)

pub returns-in-Refused : goal.returns-in-Refused
unfolding answer_of
returns-in-Refused c =
    answered_by c.args.self.now _ c.args.answer (Refused c.in-Refused.code) (λ answer source program progress. stored_or_halted (again source) (lines_from source program progress c.args.walk c.args.next) answer) c.in-Refused.is
    (stored_refused c.args.self.now _ c.args.walk c.args.next c.in-Refused.code c.halt.ensures)
