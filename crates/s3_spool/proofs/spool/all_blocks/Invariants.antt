use Rattle.std.proofs.Common.{◌≡◌}
use Rattle.std.specs.List.{range_with_len}
use Rattle.s3_spool.proofs.spool.all_blocks.Given as goal

abbrev pub invariant-loop-block : goal.invariant-loop-block
invariant-loop-block l = (l.ring.items ≡ range_with_len 0 l.block) × (l.ring.capacity ≡ 128)
