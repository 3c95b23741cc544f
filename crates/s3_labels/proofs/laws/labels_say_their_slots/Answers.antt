use Rattle.s3_labels.proofs.Labelled.{judged_as_said, says_kept, says_mounted}
use Rattle.s3_labels.proofs.laws.labels_say_their_slots.Goals as goal

pub returns-clause-mounted : goal.returns-clause-mounted
returns-clause-mounted c = says_mounted

pub returns-clause-judged : goal.returns-clause-judged
returns-clause-judged c = judged_as_said

pub returns-clause-kept : goal.returns-clause-kept
returns-clause-kept c = says_kept
