use Rattle.s3_cycle.specs.declared.request.Answer.TheVariants.{Found, Nothing}
use Rattle.s3_cycle.specs.Inner.Requests.{answer_of}
use Rattle.s3_cycle.specs.Inner.Rest.{chain_answered}
use Rattle.s3_cycle.proofs.AnswerLemmas.{answered_by}
use Rattle.s3_cycle.proofs.ChainingLemmas.{answered_settable}
use Rattle.s3_cycle.proofs.stepper.Stepper.go_on_chained.Goals as goal

pub returns-in-Found : goal.returns-in-Found
unfolding answer_of
returns-in-Found c = answered_by c.args.self.now _ c.args.answer (Found c.in-Found.bytes) (λ answer source program progress. chain_answered source program progress c.args.file c.args.missing answer) c.in-Found.is c.chain_found.ensures

pub returns-in-Nothing : goal.returns-in-Nothing
unfolding answer_of
returns-in-Nothing c = answered_by c.args.self.now _ c.args.answer Nothing (λ answer source program progress. chain_answered source program progress c.args.file c.args.missing answer) c.in-Nothing.is c.chain_missed.ensures

pub chain_missed-requires-clause-settable : goal.chain_missed-requires-clause-settable
chain_missed-requires-clause-settable c = answered_settable c.args.self.now.program c.args.file c.args.missing c.requires.chain
