-- The search for the greatest capacity, by halving.
use Rattle.std.proofs.Common.{◌≡◌, ℕ, zero, suc, ◌+◌, ◌-◌, ◌*◌, ◌/◌, ◌<◌, ◌≤◌, Bool, true, false, nat_le, refl, sym, ◌∙◌, arith, inl, inr}
use Rattle.std.proofs.Math.Nat.{div-mul-le_self, mul-le-mul}
use Rattle.std.proofs.lemmas.Nat.{le-div}
use Rattle.std.proofs.lemmas.Bool.{leb-true, leb-false, cases_lt}
use Rattle.s3_slots.specs.declared.label.Organization.{Organization}
use Rattle.s3_slots.specs.declared.label.Organization.TheVariants.{Sequential, Indexed, Direct}
use Rattle.s3_slots.specs.declared.making.NewFile.{NewFile}
use Rattle.s3_slots.specs.Slots.{sectors_needed, record_sectors, index_sectors, entries_per_sector}
use Rattle.s3_slots.specs.Making.{greatest, greatest_capacity}

abbrev pub fits : NewFile → ℕ → ℕ → Bool
fits new sectors capacity = nat_le (sectors_needed new.organization new.record_length new.key_length capacity) sectors

-- ---- more records take no fewer sectors

div_more : (m n k : ℕ) → 0 < k → m ≤ n → m / k ≤ n / k
div_more m n k some h = let below = div-mul-le_self m k in le-div (m / k) n k some (omega (arith, below, h))

records_more : (m n length : ℕ) → m ≤ n → record_sectors m length ≤ record_sectors n length
records_more m n length h =
    let same : length ≤ length = omega arith in
    let more : m * length ≤ n * length = mul-le-mul h same in
    div_more (m * length + 255) (n * length + 255) 256 (omega arith) (omega (arith, more))

some_entries : (key : ℕ) → key ≤ 29 → 0 < entries_per_sector key
some_entries key h = let one : 1 ≤ 256 / (key + 4) = le-div 1 256 (key + 4) (omega arith) (omega (arith, h)) in omega (arith, one)

index_more : (m n key : ℕ) → key ≤ 29 → m ≤ n → index_sectors m key ≤ index_sectors n key
index_more m n key few h =
    let per = entries_per_sector key in
    div_more (m + per - 1) (n + per - 1) per (some_entries key few) (omega (arith, h))

needed_more : (o : Organization) (length key m n : ℕ) → key ≤ 29 → m ≤ n → sectors_needed o length key m ≤ sectors_needed o length key n
needed_more Sequential length key m n few h = records_more m n length h
needed_more Indexed length key m n few h = let a = records_more m n length h in let b = index_more m n key few h in omega (arith, a, b)
needed_more Direct length key m n few h = records_more m n length h

not_le : (a b : ℕ) → b < a → nat_le a b ≡ false
not_le a b h = (elim (nat_le a b) as (λ so. nat_le a b ≡ so → so ≡ false) [
  | true ↦ λ t. let le = leb-true a b t in absurd (omega (arith, le, h))
  | false ↦ λ t. refl
]) refl

fails_above : (new : NewFile) (sectors m n : ℕ) → new.key_length ≤ 29 → m ≤ n → fits new sectors m ≡ false → fits new sectors n ≡ false
fails_above new sectors m n few h fails =
    let over = leb-false (sectors_needed new.organization new.record_length new.key_length m) sectors fails in
    let more = needed_more new.organization new.record_length new.key_length m n few h in
    not_le (sectors_needed new.organization new.record_length new.key_length n) sectors (omega (arith, over, more))

-- ---- the greatest number that passes a test

pub greatest_here : (test : ℕ → Bool) (n : ℕ) → test (suc n) ≡ true → greatest test (suc n) ≡ suc n
greatest_here test n h = rw (h, greatest) refl

pub greatest_on : (test : ℕ → Bool) (n : ℕ) → test (suc n) ≡ false → greatest test (suc n) ≡ greatest test n
greatest_on test n h = rw (h, greatest) refl

-- where none above m passes
greatest_below : (test : ℕ → Bool) (m n : ℕ) → m ≤ n → ((k : ℕ) → m < k → k ≤ n → test k ≡ false) → greatest test n ≡ greatest test m
greatest_below test m zero h none = let e : m ≡ 0 = omega (arith, h) in rw e refl
greatest_below test m (suc n) h none = elim (cases_lt m (suc n)) [
  | inl less ↦ greatest_on test n (none (suc n) less (omega arith)) ∙ greatest_below test m n (omega (arith, less)) (λ k a b. none k a (omega (arith, b)))
  | inr past ↦ let e : m ≡ suc n = omega (arith, h, past) in rw e refl
]

-- ---- the search

-- up to `least` it is known, and none above `most` fits
pub record IsHalved (new : NewFile) (sectors least most : ℕ) : Type 0 where
  pub below : least ≤ most
  pub few : most ≤ sectors * 256 / new.record_length
  pub found : greatest (fits new sectors) least ≡ least
  pub rest : greatest (fits new sectors) most ≡ greatest_capacity new sectors

pub halved_start : (new : NewFile) (sectors : ℕ) → IsHalved new sectors 0 (sectors * 256 / new.record_length)
unfolding greatest_capacity
halved_start new sectors = record { below = omega arith; few = omega arith; found = refl; rest = refl }

pub halved_lower : (new : NewFile) (sectors least most middle : ℕ) → new.key_length ≤ 29 → least < middle → middle ≤ most → fits new sectors middle ≡ false → IsHalved new sectors least most → IsHalved new sectors least (middle - 1)
halved_lower new sectors least most middle few low high h so = record {
  below = omega (arith, low);
  few = omega (arith, so.few, high);
  found = so.found;
  rest = sym (greatest_below (fits new sectors) (middle - 1) most (omega (arith, high)) (λ k above to. fails_above new sectors middle k few (omega (arith, above, low)) h)) ∙ so.rest;
}
