use Rattle.std.proofs.Common.{arith}
use Rattle.s3_spool.specs.Inner.Queues.{block_bytes}
use Rattle.s3_spool.proofs.BlocksLemmas.{queued_last, queued_other, queued_quota, within_free}
use Rattle.s3_spool.proofs.spool.Spool.put_composed.Goals as goal

pub returns-clause-queued : goal.returns-clause-queued
returns-clause-queued g c =
    rw (c.enqueue.ensures.queued, c.in_ok-put_line.ensures.ok) (queued_last c.args.level c.args.self.now c.first_free-block.result (block_bytes c.args.line.now)
    (g.P.Sectors.state c.args.sectors.now).contents c.args.line.now c.first_free-block.ensures.elsewhere c.in_ok-put_line.ensures.whole
    (omega (arith, c.first_free-block.ensures.few, c.requires)) c.in_ok-put_line.ensures.reads)

pub returns-clause-other : goal.returns-clause-other
returns-clause-other g c =
    rw (c.enqueue.ensures.queued, c.in_ok-put_line.ensures.ok) (queued_other c.args.level c.args.self.now c.first_free-block.result (block_bytes c.args.line.now)
    (g.P.Sectors.state c.args.sectors.now).contents c.first_free-block.ensures.elsewhere)

pub returns-clause-quotas : goal.returns-clause-quotas
returns-clause-quotas g c = rw c.enqueue.ensures.queued (λ one_or_two. queued_quota c.args.level one_or_two c.args.self.now c.first_free-block.result)

pub returns-in_err-put_line-clause-within : goal.returns-in_err-put_line-clause-within
returns-in_err-put_line-clause-within g c = within_free c.args.self.now c.first_free-block.result _ _ c.first_free-block.ensures.few c.first_free-block.ensures.elsewhere c.in_err-put_line.ensures.within

pub returns-clause-within : goal.returns-clause-within
returns-clause-within g c = within_free c.args.self.now c.first_free-block.result _ _ c.first_free-block.ensures.few c.first_free-block.ensures.elsewhere c.in_ok-put_line.ensures.within

pub returns-clause-failures : goal.returns-clause-failures
returns-clause-failures g c = c.in_ok-put_line.ensures.failures

pub returns-clause-blocks : goal.returns-clause-blocks
returns-clause-blocks g c = c.enqueue.ensures.blocks
