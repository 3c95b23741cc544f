use Rattle.s3_meaning.proofs.Keys.{least-key}
use Rattle.s3_meaning.proofs.laws.the_least_key_is_selected.Goals as goal

pub returns : goal.returns
returns c = least-key
