use Rattle.s3_pool.proofs.Steps.{stored_overwritten}
use Rattle.s3_pool.proofs.buffers.overwrite.Goals as goal

pub returns-clause-ok : goal.returns-clause-ok
returns-clause-ok g c =
    rw c.in_ok-write.ensures.ok (stored_overwritten c.args.n c.args.bytes.now c.requires.sound (c.is_unheld_block.ensures c.if-not-is_unheld_block.false))
