use Rattle.std.proofs.Common.{refl}
use Rattle.s3_bureau.specs.Script.{entries_of, command_of}
use Rattle.s3_bureau.proofs.laws.scripts_are_read.Goals as goal

pub returns : goal.returns
unfolding entries_of command_of
returns c = record { entries = refl; level = refl; count = refl; digits = refl; carriage_return = refl }
