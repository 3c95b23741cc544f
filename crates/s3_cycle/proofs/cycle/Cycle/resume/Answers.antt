use Rattle.std.proofs.Common.{ap, ◌∙◌}
use Rattle.s3_meaning.specs.Inner.Requests.{fits}
use Rattle.s3_cycle.specs.declared.stepper.Stepper.{Stepper}
use Rattle.s3_cycle.specs.Inner.Requests.{answer_of, request_of}
use Rattle.s3_cycle.specs.Inner.Following.{is_fit, waits}
use Rattle.s3_cycle.proofs.FollowLemmas.{resumes}
use Rattle.s3_cycle.proofs.cycle.Cycle.resume.Goals as goal

pub go_on-requires-clause-fits : goal.go_on-requires-clause-fits
unfolding is_fit waits
go_on-requires-clause-fits c = ap (λ (k : Stepper). fits (request_of k.program k.composition k.request) (answer_of c.args.answer)) (c.deref_mut.ensures.value ∙ c.self.view_is) ∙ c.requires

pub returns : goal.returns
returns c = resumes c.args.self.now c.deref_mut.result.now c.go_on.new.self c.args.answer (c.deref_mut.ensures.value ∙ c.self.view_is) c.go_on.ensures
