use Rattle.std.proofs.Common.{◌∙◌}
use Rattle.s3_operations.proofs.WordLemmas.{widened_number}
use Rattle.s3_operations.proofs.comparing.number.Goals as goal

pub returns : goal.returns
returns g c = c.from_be_bytes.ensures ∙ widened_number _ c.args.codes.now c.widened.result c.requires c.told-codes c.widened.ensures
