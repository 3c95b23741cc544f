use Rattle.s3_solo.proofs.Lister.{lister_run}
use Rattle.s3_solo.proofs.laws.card_lister_lists.Goals as goal

pub returns-clause-whole : goal.returns-clause-whole
returns-clause-whole c = lister_run.whole

pub returns-clause-over : goal.returns-clause-over
returns-clause-over c = lister_run.over

pub returns-clause-no_halts : goal.returns-clause-no_halts
returns-clause-no_halts c = lister_run.no_halts

pub returns-clause-six : goal.returns-clause-six
returns-clause-six c = lister_run.six

pub returns-clause-five : goal.returns-clause-five
returns-clause-five c = lister_run.five
