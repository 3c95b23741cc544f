use Rattle.s3_sheets.proofs.ConstantLemmas.{both_ways}
use Rattle.s3_sheets.proofs.entries.constants_as_written.Goals as goal

pub returns : goal.returns
returns c = both_ways
