use Rattle.std.proofs.Common.{ap, ◌∙◌}
use Rattle.s3_cycle.specs.declared.stepper.Stepper.{Stepper}
use Rattle.s3_cycle.specs.Inner.Following.{put}
use Rattle.s3_cycle.proofs.cycle.Cycle.changes.Goals as goal

pub returns : goal.returns
unfolding put
returns c = ap (λ (k : Stepper). k.composition) (c.deref.ensures ∙ c.self.view_is)
