use Rattle.std.proofs.Common.{ap, ◌∙◌}
use Rattle.std.specs.Prelude.{slice_get}
use Rattle.s3_cycle.specs.declared.stepper.Stepper.{Stepper}
use Rattle.s3_cycle.specs.Inner.Following.{files}
use Rattle.s3_cycle.proofs.FollowLemmas.{slot_named}
use Rattle.s3_cycle.proofs.cycle.Cycle.file_line.Goals as goal

pub returns-clause-line : goal.returns-clause-line
unfolding files
returns-clause-line c = c.file_line.ensures ∙ ap (λ (k : Stepper). slice_get k.program.files.items c.args.file) (c.deref.ensures ∙ c.self.view_is)

pub returns-clause-name : goal.returns-clause-name
returns-clause-name c = slot_named c.args.self.now c.args.file
