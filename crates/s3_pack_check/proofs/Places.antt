-- How large the places of entries and keys can be.
use Rattle.std.proofs.Common.{ℕ, ◌*◌, ◌/◌, ◌%◌, ◌≤◌, arith}
use Rattle.std.proofs.Math.Nat.{div-le_self, mul-le-mul}

pub row_few : (i n : ℕ) → i ≤ 4294967295 → i / n ≤ 4294967295
row_few i n h = let e = div-le_self i n in omega (arith, e)

pub column_few : (i n w : ℕ) → 1 ≤ n → n ≤ 64 → w ≤ 33 → i % n * w ≤ 2112
column_few i n w some few wide = let r : i % n ≤ 64 = omega arith in let m = mul-le-mul r wide in omega (arith, m)

pub product_few : (a b : ℕ) → a ≤ 4294967295 → b ≤ 65535 → a * b ≤ 281470681677825
product_few a b ha hb = let m = mul-le-mul ha hb in omega (arith, m)
