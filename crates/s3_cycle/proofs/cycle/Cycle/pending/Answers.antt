use Rattle.std.proofs.Common.{ap, subst, ◌∙◌}
use Rattle.s3_cycle.specs.declared.stepper.Stepper.{Stepper}
use Rattle.s3_cycle.specs.Inner.Requests.{FitsFile}
use Rattle.s3_cycle.specs.Inner.Following.{asked, files, put}
use Rattle.s3_cycle.proofs.FollowLemmas.{waits_first}
use Rattle.s3_cycle.proofs.cycle.Cycle.pending.Goals as goal

pub returns-clause-request : goal.returns-clause-request
unfolding asked
returns-clause-request c = ap (λ (k : Stepper). k.request) (c.deref.ensures ∙ c.self.view_is)

pub returns-clause-next : goal.returns-clause-next
returns-clause-next c = waits_first c.args.self.now

pub returns-clause-file : goal.returns-clause-file
unfolding asked files put
returns-clause-file c =
    let P : Stepper → Type 0 = λ k. FitsFile k.program.files.items k.request k.composition in
    subst P c.self.view_is c.self.invariant.fits
