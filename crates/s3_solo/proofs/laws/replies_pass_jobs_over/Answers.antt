use Rattle.s3_solo.proofs.Replying.{not_allowed, none_waits, did, passes_over, once, next}
use Rattle.s3_solo.proofs.laws.replies_pass_jobs_over.Goals as goal

pub returns-clause-not_allowed : goal.returns-clause-not_allowed
returns-clause-not_allowed c = not_allowed

pub returns-clause-none_waits : goal.returns-clause-none_waits
returns-clause-none_waits c = none_waits

pub returns-clause-did : goal.returns-clause-did
returns-clause-did c = did

pub returns-clause-passed_over : goal.returns-clause-passed_over
returns-clause-passed_over c = passes_over

pub returns-clause-once : goal.returns-clause-once
returns-clause-once c = once

pub returns-clause-next : goal.returns-clause-next
returns-clause-next c = next
