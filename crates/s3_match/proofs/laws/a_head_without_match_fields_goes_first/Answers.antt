use Rattle.s3_match.proofs.LawLemmas.{first_without}
use Rattle.s3_match.proofs.laws.a_head_without_match_fields_goes_first.Goals as goal

pub returns : goal.returns
returns c = first_without
