use Rattle.s3_match.proofs.LawLemmas.{first_least, first_selected}
use Rattle.s3_match.proofs.laws.ties_go_to_the_first.Goals as goal

pub returns-clause-first : goal.returns-clause-first
returns-clause-first c = first_least

pub returns-clause-selected : goal.returns-clause-selected
returns-clause-selected c = first_selected
