use Rattle.std.proofs.Common.{◌≡◌, length}
use Rattle.std.specs.Ordering.{nat_cmp}
use Rattle.std.specs.Cmp.Lexicographic.{slice_cmp}
use Rattle.s3_operations.proofs.comparing.order_of_same.Given as goal

abbrev pub invariant-loop-ahead : goal.invariant-loop-ahead
invariant-loop-ahead l = (length l.ahead ≡ length l.others) × (slice_cmp nat_cmp l.ahead l.others ≡ slice_cmp nat_cmp l.fn.left l.fn.right)

abbrev pub decreases-loop-ahead : goal.decreases-loop-ahead
decreases-loop-ahead l = length l.ahead
