use Rattle.s3_meaning.proofs.Carriages.{spaced-place, spaced-within, skipped-line}
use Rattle.s3_meaning.proofs.laws.the_carriage_moves_by_lines.Goals as goal

pub returns-clause-moved : goal.returns-clause-moved
returns-clause-moved c = spaced-place

pub returns-clause-within : goal.returns-clause-within
returns-clause-within c = spaced-within

pub returns-clause-skipped : goal.returns-clause-skipped
returns-clause-skipped c = skipped-line
