use Rattle.s3_bureau.proofs.runs.finish_halts.Goals as goal

pub returns-clause-closes : goal.returns-clause-closes
returns-clause-closes g c = c.in_ok-finish.ensures.closes

pub returns-clause-one : goal.returns-clause-one
returns-clause-one g c = c.in_ok-one.ensures

pub returns-clause-two : goal.returns-clause-two
returns-clause-two g c = c.in_ok-two.ensures

pub returns-clause-mounts : goal.returns-clause-mounts
returns-clause-mounts g c = c.in_ok-finish.ensures.mounts

pub returns-clause-untangled : goal.returns-clause-untangled
returns-clause-untangled g c = c.in_ok-finish.ensures.untangled
