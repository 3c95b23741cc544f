use Rattle.s3_match.proofs.LawLemmas.{primary_matched, secondary_matched}
use Rattle.s3_match.proofs.laws.records_match_by_keys.Goals as goal

pub returns-clause-primary : goal.returns-clause-primary
returns-clause-primary c = primary_matched

pub returns-clause-secondary : goal.returns-clause-secondary
returns-clause-secondary c = secondary_matched
