use Rattle.s3_match.proofs.LawLemmas.{taken_missed}
use Rattle.s3_match.proofs.laws.a_taken_head_is_missed.Goals as goal

pub returns : goal.returns
returns c = taken_missed
