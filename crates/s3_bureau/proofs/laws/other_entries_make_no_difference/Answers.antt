use Rattle.s3_bureau.proofs.Agreeing.{agrees_after}
use Rattle.s3_bureau.proofs.laws.other_entries_make_no_difference.Goals as goal

pub returns : goal.returns
returns c = agrees_after
