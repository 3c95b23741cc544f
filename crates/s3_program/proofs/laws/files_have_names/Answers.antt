use Rattle.s3_program.proofs.NameLemmas.{no_nameless_file}
use Rattle.s3_program.proofs.laws.files_have_names.Goals as goal

pub returns : goal.returns
returns c = no_nameless_file
