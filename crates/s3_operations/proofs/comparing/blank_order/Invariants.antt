use Rattle.std.proofs.Common.{◌≡◌, length, replicate}
use Rattle.std.specs.Ordering.{nat_cmp}
use Rattle.std.specs.Cmp.Lexicographic.{slice_cmp}
use Rattle.s3_operations.proofs.comparing.blank_order.Given as goal

abbrev pub invariant-loop-ahead : goal.invariant-loop-ahead
invariant-loop-ahead l = slice_cmp nat_cmp (replicate (length l.ahead) 0x40) l.ahead ≡ slice_cmp nat_cmp (replicate (length l.fn.text) 0x40) l.fn.text

abbrev pub decreases-loop-ahead : goal.decreases-loop-ahead
decreases-loop-ahead l = length l.ahead
