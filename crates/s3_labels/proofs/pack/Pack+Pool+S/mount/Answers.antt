use Rattle.std.proofs.Common.{◌∙◌}
use Rattle.s3_labels.proofs.Mounts.{given_back}
use Rattle.s3_labels.proofs.pack.Pack+Pool+S.mount.Goals as goal

pub returns-in-Ok-over-clause-stored : goal.returns-in-Ok-over-clause-stored
returns-in-Ok-over-clause-stored g c = given_back c.in-Ok.pool c.in-Ok-over.pack.pool _ c.in-Ok-over.ensures.keeps c.in-Ok.ensures.contents c.in-Ok.ensures.stored

pub returns-in-Ok-over-clause-ok : goal.returns-in-Ok-over-clause-ok
returns-in-Ok-over-clause-ok g c = rw c.in-Ok.ensures.contents at c.in-Ok-over.ensures.ok

pub returns-in-Ok-over-clause-areas : goal.returns-in-Ok-over-clause-areas
returns-in-Ok-over-clause-areas g c = rw c.in-Ok.ensures.contents at c.in-Ok-over.ensures.areas

pub returns-in-Ok-over-clause-contents : goal.returns-in-Ok-over-clause-contents
returns-in-Ok-over-clause-contents g c = c.in-Ok-over.ensures.keeps.contents ∙ c.in-Ok.ensures.contents

pub returns-in-Ok-over-clause-ready : goal.returns-in-Ok-over-clause-ready
returns-in-Ok-over-clause-ready g c = c.in-Ok-over.ensures.ready

pub returns-in-Ok-over-clause-failures : goal.returns-in-Ok-over-clause-failures
returns-in-Ok-over-clause-failures g c = c.in-Ok-over.ensures.failures ∙ c.in-Ok.ensures.failures

pub returns-in-Err-over-clause-refused : goal.returns-in-Err-over-clause-refused
returns-in-Err-over-clause-refused g c = rw c.in-Ok.ensures.contents at c.in-Err-over.ensures.refused

pub returns-in-Err-over-clause-back : goal.returns-in-Err-over-clause-back
returns-in-Err-over-clause-back g c =
    c.into_store.ensures.contents ∙ given_back c.in-Ok.pool c.in-Err-over.field-0.pool _ c.in-Err-over.ensures.back c.in-Ok.ensures.contents c.in-Ok.ensures.stored

pub returns-in-Err-over-clause-failed : goal.returns-in-Err-over-clause-failed
returns-in-Err-over-clause-failed g c = c.into_store.ensures.failures ∙ (rw c.in-Ok.ensures.failures at c.in-Err-over.ensures.failed)
