use Rattle.std.proofs.Common.{◌≡◌, ◌≤◌, ◌-◌, drop, length, replicate}
use Rattle.s3_dump.proofs.writing.used_in.Given as goal

abbrev pub invariant-loop-used : goal.invariant-loop-used
invariant-loop-used l = (l.used ≤ length l.bytes) × (drop l.used l.bytes ≡ replicate (length l.bytes - l.used) 0)

abbrev pub decreases-loop-used : goal.decreases-loop-used
decreases-loop-used l = l.used
