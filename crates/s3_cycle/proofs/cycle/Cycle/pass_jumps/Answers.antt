use Rattle.std.proofs.Common.{ap, ◌∙◌}
use Rattle.s3_cycle.specs.declared.stepper.Stepper.{Stepper}
use Rattle.s3_cycle.specs.Inner.Following.{asked}
use Rattle.s3_cycle.proofs.JumpLemmas.{jumps_seen, passes_seen}
use Rattle.s3_cycle.proofs.cycle.Cycle.pass_jumps.Goals as goal

pub pass_jumps-requires-clause-jump : goal.pass_jumps-requires-clause-jump
unfolding asked
pass_jumps-requires-clause-jump c = ap (λ (k : Stepper). k.request) (c.deref_mut.ensures.value ∙ c.self.view_is) ∙ c.requires.jump

pub returns-clause-jumps : goal.returns-clause-jumps
returns-clause-jumps c = jumps_seen c.pass_jumps.result c.args.self.now c.deref_mut.result.now c.pass_jumps.new.self (c.deref_mut.ensures.value ∙ c.self.view_is) c.pass_jumps.ensures.passes

pub returns-clause-goes : goal.returns-clause-goes
returns-clause-goes c = passes_seen c.pass_jumps.result c.args.self.now c.deref_mut.result.now c.pass_jumps.new.self (c.deref_mut.ensures.value ∙ c.self.view_is) c.pass_jumps.ensures.passes
