use Rattle.s3_meaning.proofs.Rows.{lister_0, lister_1, lister_3, lister_5}
use Rattle.s3_meaning.proofs.laws.cards_are_listed.Goals as goal

pub returns-clause-asks : goal.returns-clause-asks
returns-clause-asks c = lister_0

pub returns-clause-prints : goal.returns-clause-prints
returns-clause-prints c = lister_1

pub returns-clause-prints_again : goal.returns-clause-prints_again
returns-clause-prints_again c = lister_3

pub returns-clause-ends : goal.returns-clause-ends
returns-clause-ends c = lister_5
