use Rattle.s3_bureau.proofs.Alike.{same_space, same_space_left}
use Rattle.s3_bureau.proofs.laws.free_space_is_the_same.Goals as goal

pub returns-clause-before : goal.returns-clause-before
returns-clause-before c = same_space

pub returns-clause-after : goal.returns-clause-after
returns-clause-after c = same_space_left
