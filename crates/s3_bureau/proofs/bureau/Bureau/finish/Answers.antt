use Rattle.s3_bureau.proofs.bureau.Bureau.finish.Goals as goal

pub returns-clause-mounts : goal.returns-clause-mounts
returns-clause-mounts g c = λ level w said held. (c.in_ok-close.ensures.mounts level said).1 w held.world

pub returns-clause-untangled : goal.returns-clause-untangled
returns-clause-untangled g c = λ level said. (c.in_ok-close.ensures.mounts level said).0
