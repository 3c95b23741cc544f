use Rattle.std.proofs.Common.{arith}
use Rattle.s3_pool.proofs.Steps.{saved, saved_in_step}
use Rattle.s3_pool.proofs.buffers.give_way.Goals as goal

pub least_recent-slot-requires : goal.least_recent-slot-requires
least_recent-slot-requires g c = omega (arith, c.requires.full)

pub returns-clause-keeps : goal.returns-clause-keeps
returns-clause-keeps g c =
    rw c.in_ok-write_back.ensures.ok (saved _ c.args.buffers.now.slots.items c.least_recent-slot.result c.buffer.result.now c.buffer.ensures c.requires.sound)

pub returns-clause-in_step : goal.returns-clause-in_step
returns-clause-in_step g c =
    rw c.in_ok-write_back.ensures.ok (saved_in_step _ c.args.buffers.now.slots.items c.least_recent-slot.result c.buffer.result.now c.buffer.ensures c.requires.sound)
