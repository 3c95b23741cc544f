use Rattle.std.proofs.Common.{arith}
use Rattle.s3_pool.proofs.Steps.{same_length, still_indexed}
use Rattle.s3_pool.proofs.buffers.fetch.Goals as goal

pub returns-in_err-slot-clause-indexed : goal.returns-in_err-slot-clause-indexed
returns-in_err-slot-clause-indexed g c = still_indexed c.args.buffers.now c.give_way.ensures.keeps c.requires.indexed

pub read_in-requires-clause-indexed : goal.read_in-requires-clause-indexed
read_in-requires-clause-indexed g c = still_indexed c.args.buffers.now c.give_way.ensures.keeps c.requires.indexed

pub read_in-requires-clause-in_range : goal.read_in-requires-clause-in_range
read_in-requires-clause-in_range g c = omega (arith, c.requires.in_range, same_length c.give_way.ensures.keeps)
