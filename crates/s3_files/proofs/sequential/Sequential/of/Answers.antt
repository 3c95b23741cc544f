use Rattle.std.proofs.Common.{◌∙◌}
use Rattle.s3_slots.specs.Labels.{sectors_of}
use Rattle.s3_files.proofs.sequential.Sequential.of.Goals as goal

pub returns-clause-sectors : goal.returns-clause-sectors
unfolding sectors_of
returns-clause-sectors c = c.new.ensures.sectors ∙ c.of.ensures
