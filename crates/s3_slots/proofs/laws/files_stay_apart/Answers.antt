use Rattle.s3_slots.proofs.Judging.{slots_kept, made_kept, counted_kept, dropped_kept}
use Rattle.s3_slots.proofs.laws.files_stay_apart.Goals as goal

pub returns-clause-judged : goal.returns-clause-judged
returns-clause-judged c = slots_kept

pub returns-clause-made : goal.returns-clause-made
returns-clause-made c = made_kept

pub returns-clause-counted : goal.returns-clause-counted
returns-clause-counted c = counted_kept

pub returns-clause-dropped : goal.returns-clause-dropped
returns-clause-dropped c = dropped_kept
