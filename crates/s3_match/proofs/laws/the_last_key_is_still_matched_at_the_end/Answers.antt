use Rattle.s3_match.proofs.LawLemmas.{primary_left, last_key_first, no_last_key, last_key_left}
use Rattle.s3_match.proofs.laws.the_last_key_is_still_matched_at_the_end.Goals as goal

pub returns-clause-primary : goal.returns-clause-primary
returns-clause-primary c = primary_left

pub returns-clause-secondary : goal.returns-clause-secondary
returns-clause-secondary c = last_key_first

pub returns-clause-none : goal.returns-clause-none
returns-clause-none c = no_last_key

pub returns-clause-some : goal.returns-clause-some
returns-clause-some c = last_key_left
