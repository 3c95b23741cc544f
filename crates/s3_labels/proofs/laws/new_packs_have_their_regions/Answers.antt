use Rattle.std.proofs.Common.{refl}
use Rattle.s3_labels.proofs.laws.new_packs_have_their_regions.Goals as goal

pub returns-clause-equal : goal.returns-clause-equal
returns-clause-equal c = refl

pub returns-clause-unequal : goal.returns-clause-unequal
returns-clause-unequal c = refl

pub returns-clause-largest : goal.returns-clause-largest
returns-clause-largest c = refl

pub returns-clause-sectors : goal.returns-clause-sectors
returns-clause-sectors c = refl

pub returns-clause-too_large : goal.returns-clause-too_large
returns-clause-too_large c = refl

pub returns-clause-quotas : goal.returns-clause-quotas
returns-clause-quotas c = refl

pub returns-clause-none : goal.returns-clause-none
returns-clause-none c = refl

pub returns-clause-first : goal.returns-clause-first
returns-clause-first c = refl
