-- Lemmas about numbers in columns.
use Rattle.std.proofs.Common.{◌≡◌, ℕ, ◌+◌, ◌-◌, ◌*◌, ◌^◌, ◌<◌, ◌≤◌, List, true, false, inl, inr, refl, sym, ◌∙◌, ap, arith, subst, length, take, get_or, lit<, add-one}
use Rattle.std.specs.Prelude.{map, [], ◌∷◌}
use Rattle.std.proofs.lemmas.Bool.{cases_Bool}
use Rattle.std.proofs.lemmas.Bool.Decides.{nat_tests}
use Rattle.std.specs.List.{list_all}
use Rattle.std.specs.Int.Digits.{number_from_digits_after}
use Rattle.std.proofs.Math.Nat.{pow-le-pow_right, pow-suc, pow-zero, mul-le-mul_left}
use Rattle.std.proofs.lemmas.List.{take_more, map-append}
use Rattle.std.proofs.lemmas.List.Folds.{list_all_at}
use Rattle.std.proofs.lemmas.Int.Digits.{number_after_append}
use Rattle.s3_cards.specs.Names.{is_digit}
use Rattle.s3_sheets.specs.Columns.{digit}

-- the number spelled by the first i digits after a start value, and its bound
pub record NumberSoFar (start : ℕ) (codes : List ℕ) (i n : ℕ) : Type 0 where
  pub value : n ≡ number_from_digits_after 10 start (map digit (take i codes))
  pub below : n < (start + 1) * 10 ^ i

pub none_yet : (start : ℕ) (codes : List ℕ) → NumberSoFar start codes 0 start
none_yet start codes = record { value = refl; below = omega (arith, pow-zero 10) }

pow_next : (i : ℕ) → 10 ^ (i + 1) ≡ 10 * 10 ^ i
pow_next i = rw (add-one, pow-suc) (omega arith)

pub digit_at : (codes : List ℕ) (i : ℕ) → list_all is_digit codes ≡ true → i < length codes → is_digit (get_or codes i 0) ≡ true
digit_at codes i all in' = elim (cases_Bool (is_digit (get_or codes i 0))) [
  | inl good ↦ good
  | inr bad ↦ absurd (let e : list_all is_digit codes ≡ false = list_all_at is_digit codes i 0 in' bad in cc)
]

pub is_digit_from : (code : ℕ) → is_digit code ≡ true → 0xf0 ≤ code
is_digit_from code good = grind (arith, nat_tests)

pub digit_small : (code : ℕ) → is_digit code ≡ true → code - 0xf0 ≤ 9
digit_small code good = grind (arith, nat_tests)

times_next : (start i n d : ℕ) → n < (start + 1) * 10 ^ i → d ≤ 9 → n * 10 + d < (start + 1) * 10 ^ (i + 1)
times_next start i n d below small = rw (pow_next i) (omega (arith, below, small))

pub number_next : (start : ℕ) (codes : List ℕ) (i n d : ℕ) → NumberSoFar start codes i n → i < length codes → list_all is_digit codes ≡ true
    → d ≡ get_or codes i 0 - 0xf0 → NumberSoFar start codes (i + 1) (n * 10 + d)
number_next start codes i n d so_far in' all e = record {
  value =
      rw (so_far.value, e)
      (sym (ap (λ x. number_from_digits_after 10 start (map digit x)) (take_more codes i 0 in')
      ∙ (ap (number_from_digits_after 10 start) (map-append digit (take i codes) (get_or codes i 0 ∷ []))
      ∙ number_after_append 10 start (map digit (take i codes)) (digit (get_or codes i 0) ∷ []))));
  below = times_next start i n d so_far.below (rw e (digit_small (get_or codes i 0) (digit_at codes i all in')));
}

-- the digits so far stay below the largest number of ten digits
pub fits : (start : ℕ) (codes : List ℕ) (i n : ℕ) → NumberSoFar start codes i n → i < length codes → (start + 1) * 10 ^ length codes ≤ 10 ^ 10 → n * 10 + 9 < 10 ^ 10
fits start codes i n so_far in' room =
    let next : n * 10 + 9 < (start + 1) * 10 ^ (i + 1) = times_next start i n 9 so_far.below (omega arith) in
    let more : 10 ^ (i + 1) ≤ 10 ^ length codes = pow-le-pow_right {n = 10} (lit< tt) {i = i + 1} {j = length codes} (omega arith) in
    omega (arith, next, mul-le-mul_left (start + 1) more, room)

pub whole : (start : ℕ) (codes : List ℕ) (i n : ℕ) → NumberSoFar start codes i n → i ≡ length codes → NumberSoFar start codes (length codes) n
whole start codes i n so_far e = subst (λ (m : ℕ). NumberSoFar start codes m n) e so_far
