-- Thousandths of a whole.
use Rattle.std.proofs.Common.{ℕ, ◌*◌, ◌/◌, ◌≤◌, max, min, arith}
use Rattle.std.proofs.Math.Nat.{div-le_of_le-mul}

-- no part of a whole has more than a thousand
pub most_thousandths : (whole n : ℕ) → min n whole * 1000 / max whole 1 ≤ 1000
most_thousandths whole n = div-le_of_le-mul (max whole 1) (omega arith)
