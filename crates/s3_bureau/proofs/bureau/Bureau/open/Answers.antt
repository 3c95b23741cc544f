use Rattle.std.proofs.Common.{ap, ◌∙◌}
use Rattle.std.proofs.lemmas.Result.{IfErr-weaker, IfOk-weaker}
use Rattle.s3_store.specs.Inner.State.{PoolState}
use Rattle.s3_bureau.proofs.Opening.{said_at_start}
use Rattle.s3_bureau.proofs.bureau.Bureau.open.Goals as goal

pub returns-in-Ok-clause-stored : goal.returns-in-Ok-clause-stored
returns-in-Ok-clause-stored g c = IfOk-weaker c.over.result _ _ (λ bureau parts. ap (λ (s : PoolState). s.stored) parts.1 ∙ c.in-Ok.ensures.stored) c.over.ensures.parts

pub returns-in-Ok-clause-back : goal.returns-in-Ok-clause-back
returns-in-Ok-clause-back g c = IfErr-weaker c.over.result _ _ (λ refused back. back ∙ c.in-Ok.ensures.stored) c.over.ensures.back

pub returns-in-Ok-clause-said : goal.returns-in-Ok-clause-said
returns-in-Ok-clause-said g c = IfOk-weaker c.over.result _ _ (λ bureau parts level. said_at_start level _ _ bureau c.in-Ok.ensures.areas parts.0 (ap (λ (s : PoolState). s.contents) parts.1 ∙ c.in-Ok.ensures.contents)) c.over.ensures.parts
