-- The number of a few digits.
use Rattle.std.proofs.Common.{◌<◌, ◌≤◌, ◌^◌, ℕ, arith, zero, suc}

pub of_four_digits : (digits number : ℕ) → digits ≤ 4 → number < 10 ^ digits → number < 10000
of_four_digits zero number few below = omega arith
of_four_digits (suc zero) number few below = omega arith
of_four_digits (suc (suc zero)) number few below = omega arith
of_four_digits (suc (suc (suc zero))) number few below = omega arith
of_four_digits (suc (suc (suc (suc zero)))) number few below = omega arith
of_four_digits (suc (suc (suc (suc (suc digits))))) number few below = absurd (omega arith)
