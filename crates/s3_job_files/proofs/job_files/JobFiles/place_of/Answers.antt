use Rattle.std.proofs.Common.{sym, ◌∙◌}
use Rattle.s3_cards.specs.Names.{same_name}
use Rattle.s3_job_files.specs.Inner.Holds.{job_file_of}
use Rattle.s3_job_files.proofs.Lists.{position_map}
use Rattle.s3_job_files.proofs.job_files.JobFiles.place_of.Goals as goal

pub returns-clause-place : goal.returns-clause-place
returns-clause-place c = c.position_of.ensures.place ∙ sym (position_map job_file_of (λ file. same_name file.name c.args.name) 0 c.args.self.now.files.items)
