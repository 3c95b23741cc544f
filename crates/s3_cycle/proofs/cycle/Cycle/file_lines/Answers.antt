use Rattle.std.proofs.Common.{ap, ◌∙◌}
use Rattle.s3_cycle.specs.declared.stepper.Stepper.{Stepper}
use Rattle.s3_cycle.specs.Inner.Following.{files}
use Rattle.s3_cycle.proofs.cycle.Cycle.file_lines.Goals as goal

pub returns : goal.returns
unfolding files
returns c = c.deref-2.ensures.value ∙ ap (λ (k : Stepper). k.program.files.items) (c.deref.ensures ∙ c.self.view_is)
