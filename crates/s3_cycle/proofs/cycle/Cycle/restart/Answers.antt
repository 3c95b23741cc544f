use Rattle.std.proofs.Common.{ap, sym, subst, ◌∙◌}
use Rattle.s3_program.specs.Inner.Stands.{source_named}
use Rattle.s3_cycle.specs.declared.stepper.Stepper.{Stepper}
use Rattle.s3_cycle.specs.Inner.Following.{StandsFor}
use Rattle.s3_cycle.specs.Inner.Going.{IsRunning}
use Rattle.s3_cycle.proofs.FollowLemmas.{begins}
use Rattle.s3_cycle.proofs.cycle.Cycle.restart.Goals as goal

pub restart-requires-clause-running : goal.restart-requires-clause-running
restart-requires-clause-running c = subst IsRunning (sym c.deref_mut.ensures.value) c.self.invariant.running

pub returns : goal.returns
unfolding StandsFor
returns c = λ source stands.
    begins c.deref_mut.result.now.program c.args.switches c.args.date c.restart.new.self c.restart.ensures source
    (ap (λ (k : Stepper). source_named k.program) (c.deref_mut.ensures.value ∙ c.self.view_is) ∙ stands)
