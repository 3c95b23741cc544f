-- The ranks of numbers are in the order of the numbers.
use Rattle.std.proofs.Common.{◌≡◌, ℕ, suc, ◌+◌, ◌-◌, ◌^◌, ◌<◌, ◌≤◌, true, sym, ◌∙◌, arith, inl, inr}
use Rattle.std.specs.Prelude.{ℤ, pos, negsuc, int_lt, nat_lt, unsigned_abs}
use Rattle.std.proofs.lemmas.Bool.{both_ways, cases_Bool, false_from_ne_true, lt-ltb, ltb-true}
use Rattle.s3_pack_care.specs.Inner.Keys.{rank, turned}

same_lt : (a b c d : ℕ) → (a < b → c < d) → (c < d → a < b) → nat_lt c d ≡ nat_lt a b
same_lt a b c d to from = elim (cases_Bool (nat_lt a b)) [
  | inl yes_so ↦ lt-ltb c d (to (ltb-true a b yes_so)) ∙ sym yes_so
  | inr not_so ↦ false_from_ne_true (nat_lt c d) (λ e. both_ways (nat_lt a b) not_so (lt-ltb a b (from (ltb-true c d e)))) ∙ sym not_so
]

pub ranked : (a b : ℤ) → unsigned_abs a ≤ 10 ^ 15 → unsigned_abs b ≤ 10 ^ 15 → nat_lt (rank a) (rank b) ≡ int_lt a b
ranked (pos m) (pos n) few small = same_lt m n (10 ^ 15 + m) (10 ^ 15 + n) (λ h. omega (arith, h)) (λ h. omega (arith, h))
ranked (pos m) (negsuc n) few small = false_from_ne_true (nat_lt (10 ^ 15 + m) (10 ^ 15 - suc n)) (λ e. let h = ltb-true (10 ^ 15 + m) (10 ^ 15 - suc n) e in omega (arith, h))
ranked (negsuc m) (pos n) few small = lt-ltb (10 ^ 15 - suc m) (10 ^ 15 + n) (omega arith)
ranked (negsuc m) (negsuc n) few small = same_lt n m (10 ^ 15 - suc m) (10 ^ 15 - suc n) (λ h. omega (arith, h, few)) (λ h. omega (arith, h))

pub turned_round : (greatest a b : ℕ) → a ≤ greatest → b ≤ greatest → nat_lt (turned true greatest a) (turned true greatest b) ≡ nat_lt b a
turned_round greatest a b few small = same_lt b a (greatest - a) (greatest - b) (λ h. omega (arith, h, few)) (λ h. omega (arith, h))
