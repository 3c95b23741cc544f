-- What a label that passes the tests has.
use Rattle.std.proofs.Common.{◌≡◌, ◌≤◌, ◌+◌, ◌-◌, ◌*◌, ◌/◌, ℕ, true, arith}
use Rattle.s3_slots.specs.declared.label.Organization.{Organization}
use Rattle.s3_slots.specs.declared.label.Organization.TheVariants.{Sequential, Indexed, Direct}
use Rattle.s3_slots.specs.Slots.{is_key_of}
use Rattle.std.proofs.Math.Nat.{mul-le-mul, div-le_self}

pub key_fits : (o : Organization) (r k s : ℕ) → is_key_of o r k s ≡ true → k ≤ 29
key_fits Sequential r k s h = grind arith
key_fits Indexed r k s h = grind arith
key_fits Direct r k s h = grind arith

pub few_sectors : (a b : ℕ) → a ≤ 4294967295 → b ≤ 65535 → (a * b + 255) / 256 ≤ 1099511627776
few_sectors a b ha hb = let h = mul-le-mul ha hb in omega (arith, h)

pub few_entries : (a n : ℕ) → a ≤ 4294967295 → 1 ≤ n → n ≤ 64 → (a + n - 1) / n ≤ 4294967400
few_entries a n ha h k = let e = div-le_self (a + n - 1) n in omega (arith, e)
