-- Lemmas on numbers in digits.
use Rattle.std.proofs.Common.{◌≡◌, ℕ, ◌+◌, ◌-◌, ◌*◌, ◌^◌, ◌<◌, ◌≤◌, List, ◌++◌, append_assoc, replicate, true, false, refl, sym, ◌∙◌, ap, arith, subst, length, take, get_or, lit<, add-one, inl, inr, zero, suc}
use Rattle.std.specs.Prelude.{Some, None, map, [], ◌∷◌}
use Rattle.std.proofs.lemmas.Bool.Decides.{nat_tests}
use Rattle.std.proofs.lemmas.Bool.{cases_Bool}
use Rattle.std.specs.List.{list_all}
use Rattle.std.specs.Int.Digits.{number_from_digits}
use Rattle.std.proofs.Math.Nat.{pow-le-pow_right, pow-suc}
use Rattle.std.proofs.lemmas.List.{take_more, take_all, map-append, replicate-append-replicate}
use Rattle.std.proofs.lemmas.List.Folds.{list_all_more, list_all_at}
use Rattle.std.proofs.lemmas.Int.Digits.{number_after_append}
use Rattle.s3_cards.specs.Numbers.{is_digit_from, number_of}
use Rattle.s3_cards.specs.Inner.Numbers.{spelled_number}

-- the first i codes are digits, and their number is below the power of ten
pub record NumberSoFar (z : ℕ) (codes : List ℕ) (i n : ℕ) : Type 0 where
  pub digits : list_all (is_digit_from z) (take i codes) ≡ true
  pub value : n ≡ number_of z (take i codes)
  pub below : n < 10 ^ i

pub none_yet : (z : ℕ) (codes : List ℕ) → NumberSoFar z codes 0 0
none_yet z codes = record { digits = refl; value = refl; below = lit< tt }

pow_next : (i : ℕ) → 10 ^ (i + 1) ≡ 10 * 10 ^ i
pow_next i = rw (add-one, pow-suc) (omega arith)

digit_small : (z code : ℕ) → is_digit_from z code ≡ true → code - z ≤ 9
digit_small z code good = grind (arith, nat_tests)

number_more : (z : ℕ) (codes : List ℕ) (i n : ℕ) → NumberSoFar z codes i n → i < length codes → is_digit_from z (get_or codes i 0) ≡ true
    → NumberSoFar z codes (i + 1) (n * 10 + (get_or codes i 0 - z))
number_more z codes i n so_far in' good =
    let digit : ℕ → ℕ = λ code. code - z in
    record {
      digits = list_all_more (is_digit_from z) codes i 0 in' ∙ rw (so_far.digits, good) refl;
      value =
          rw so_far.value (sym (ap (λ x. number_from_digits 10 (map digit x)) (take_more codes i 0 in')
          ∙ (ap (number_from_digits 10) (map-append digit (take i codes) (get_or codes i 0 ∷ [])) ∙ number_after_append 10 0 (map digit (take i codes)) (digit (get_or codes i 0) ∷ []))));
      below = (let e = pow_next i in let d = digit_small z (get_or codes i 0) good in let b = so_far.below in omega arith);
    }

pub number_next : (z : ℕ) (codes : List ℕ) (i n d : ℕ) → NumberSoFar z codes i n → i < length codes → is_digit_from z (get_or codes i 0) ≡ true
    → d ≡ get_or codes i 0 - z → NumberSoFar z codes (i + 1) (n * 10 + d)
number_next z codes i n d so_far in' good e = rw e (number_more z codes i n so_far in' good)

-- there is room for one digit more
pub fits : (z : ℕ) (codes : List ℕ) (i n : ℕ) → NumberSoFar z codes i n → i < length codes → length codes ≤ 9 → n < 10 ^ 8
fits z codes i n so_far in' short = omega (arith, so_far.below, pow-le-pow_right {n = 10} (lit< tt) {i = i} {j = 8} (omega arith))

pub digits_wrong : (z : ℕ) (codes : List ℕ) (i : ℕ) → i < length codes → is_digit_from z (get_or codes i 0) ≡ false → spelled_number z codes ≡ None
digits_wrong z codes i in' bad = rw (list_all_at (is_digit_from z) codes i 0 in' bad) refl

pub digits_right : (z : ℕ) (codes : List ℕ) (n : ℕ) → NumberSoFar z codes (length codes) n → spelled_number z codes ≡ Some n
digits_right z codes n so_far =
    let whole : take (length codes) codes ≡ codes = take_all (length codes) codes (omega arith) in
    let all : list_all (is_digit_from z) codes ≡ true = subst (λ (x : List ℕ). list_all (is_digit_from z) x ≡ true) whole so_far.digits in
    let value : number_of z codes ≡ n = subst (λ (x : List ℕ). number_of z x ≡ n) whole (sym so_far.value) in
    rw (all, value) refl

digit_at : (z : ℕ) (codes : List ℕ) (i : ℕ) → i < length codes → list_all (is_digit_from z) codes ≡ true → is_digit_from z (get_or codes i 0) ≡ true
digit_at z codes i in' all = elim (cases_Bool (is_digit_from z (get_or codes i 0))) [
  | inl good ↦ good
  | inr bad ↦ absurd (let e : true ≡ false = sym all ∙ list_all_at (is_digit_from z) codes i 0 in' bad in cc)
]

so_far : (z : ℕ) (codes : List ℕ) (i : ℕ) → i ≤ length codes → list_all (is_digit_from z) codes ≡ true → (n : ℕ) × NumberSoFar z codes i n
so_far z codes zero within digits = (0, none_yet z codes)
so_far z codes (suc i) within digits =
    let before = so_far z codes i (omega arith) digits in
    let n : ℕ = before.0 * 10 + (get_or codes i 0 - z) in
    let after : NumberSoFar z codes (i + 1) n = number_next z codes i before.0 (get_or codes i 0 - z) before.1 (omega arith) (digit_at z codes i (omega arith) digits) refl in
    let e : i + 1 ≡ suc i = omega arith in
    (n, subst (λ (j : ℕ). NumberSoFar z codes j n) e after)

-- a number is below the power of ten that has as many zeros as it has digits
pub number_below : (z : ℕ) (codes : List ℕ) → list_all (is_digit_from z) codes ≡ true → number_of z codes < 10 ^ length codes
number_below z codes digits =
    let all = so_far z codes (length codes) (omega arith) digits in
    let below = all.1.below in
    let whole : take (length codes) codes ≡ codes = take_all (length codes) codes (omega arith) in
    let e : all.0 ≡ number_of z codes = all.1.value ∙ ap (number_of z) whole in
    subst (λ (n : ℕ). n < 10 ^ length codes) e below

-- one more zero after n of them
pub one_more_zero : (text : List ℕ) (n : ℕ) → (text ++ replicate n 48) ++ 48 ∷ [] ≡ text ++ replicate (n + 1) 48
one_more_zero text n =
    append_assoc text (replicate n 48) (48 ∷ []) ∙ ap (λ zeros. text ++ zeros) (replicate-append-replicate n 1 48)
