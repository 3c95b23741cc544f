-- The digits of a number, with zeros in front.
use Rattle.std.proofs.Common.{◌≡◌, ◌+◌, ◌-◌, ◌/◌, ◌%◌, ◌^◌, ◌<◌, inl, inr, ℕ, [], ◌∷◌, ◌++◌, sym, ap, ◌∙◌, arith, append_assoc, length, length-append, replicate}
use Rattle.std.proofs.lemmas.Bool.{cases_lt}
use Rattle.std.proofs.lemmas.Fmt.{decimal_digit, decimal_step}
use Rattle.std.proofs.lemmas.List.{replicate-append-replicate}
use Rattle.std.specs.Fmt.{decimal}
use Rattle.s3_cards.specs.Numbers.{in_digits}

one_digit : (k n : ℕ) → n < 10 → in_digits (k + 1) n ≡ replicate k 48 ++ (48 + n) ∷ []
one_digit k n few =
    let room : (k + 1) - 1 ≡ k = omega arith in
    ap (λ t. replicate ((k + 1) - length t) 48 ++ t) (decimal_digit n few) ∙ ap (λ m. replicate m 48 ++ (48 + n) ∷ []) room

-- the last digit comes after the others
one_digit_more : (k n : ℕ) → n < 2 ^ 64 → in_digits (k + 2) n ≡ in_digits (k + 1) (n / 10) ++ (48 + n % 10) ∷ []
one_digit_more k n small = elim (cases_lt n 10) [
  | inl few ↦
      let last : 48 + n ≡ 48 + n % 10 = omega arith in
      let none : 48 + n / 10 ≡ 48 = omega arith in
      let two : k + 2 ≡ (k + 1) + 1 = omega arith in
      ap (λ w. in_digits w n) two
      ∙ one_digit (k + 1) n few
      ∙ ap (λ zeros. zeros ++ (48 + n) ∷ []) (sym (replicate-append-replicate k 1 48))
      ∙ ap (λ d. (replicate k 48 ++ 48 ∷ []) ++ d ∷ []) last
      ∙ ap (λ d. (replicate k 48 ++ d ∷ []) ++ (48 + n % 10) ∷ []) (sym none)
      ∙ ap (λ t. t ++ (48 + n % 10) ∷ []) (sym (one_digit k (n / 10) (omega arith)))
  | inr many ↦
      let step = decimal_step n many small in
      let room : (k + 2) - length (decimal (n / 10) ++ (48 + n % 10) ∷ []) ≡ (k + 1) - length (decimal (n / 10)) =
      omega (arith, length-append (decimal (n / 10)) ((48 + n % 10) ∷ [])) in
      ap (λ t. replicate ((k + 2) - length t) 48 ++ t) step
      ∙ ap (λ m. replicate m 48 ++ (decimal (n / 10) ++ (48 + n % 10) ∷ [])) room
      ∙ sym (append_assoc (replicate ((k + 1) - length (decimal (n / 10))) 48) (decimal (n / 10)) ((48 + n % 10) ∷ []))
]

pub two_digits : (n : ℕ) → n < 100 → in_digits 2 n ≡ (48 + n / 10 % 10) ∷ (48 + n % 10) ∷ []
two_digits n few =
    let first : 48 + n / 10 ≡ 48 + n / 10 % 10 = omega arith in
    one_digit_more 0 n (omega arith)
    ∙ ap (λ t. t ++ (48 + n % 10) ∷ []) (one_digit 0 (n / 10) (omega arith))
    ∙ ap (λ d. d ∷ (48 + n % 10) ∷ []) first

pub four_digits : (n : ℕ) → n < 10000 → in_digits 4 n ≡ (48 + n / 1000 % 10) ∷ (48 + n / 100 % 10) ∷ (48 + n / 10 % 10) ∷ (48 + n % 10) ∷ []
four_digits n few =
    let hundreds : n / 10 / 10 ≡ n / 100 = omega arith in
    let first : 48 + n / 100 / 10 ≡ 48 + n / 1000 % 10 = omega arith in
    one_digit_more 2 n (omega arith)
    ∙ ap (λ t. t ++ (48 + n % 10) ∷ []) (one_digit_more 1 (n / 10) (omega arith))
    ∙ ap (λ m. (in_digits 2 m ++ (48 + n / 10 % 10) ∷ []) ++ (48 + n % 10) ∷ []) hundreds
    ∙ ap (λ t. (t ++ (48 + n / 10 % 10) ∷ []) ++ (48 + n % 10) ∷ []) (one_digit_more 0 (n / 100) (omega arith))
    ∙ ap (λ t. ((t ++ (48 + n / 100 % 10) ∷ []) ++ (48 + n / 10 % 10) ∷ []) ++ (48 + n % 10) ∷ []) (one_digit 0 (n / 100 / 10) (omega arith))
    ∙ ap (λ d. d ∷ (48 + n / 100 % 10) ∷ (48 + n / 10 % 10) ∷ (48 + n % 10) ∷ []) first

-- the same by the two digits of numbers below 100
pub two_by_pair : (n : ℕ) → n < 100 → in_digits 2 n ≡ (48 + n / 10) ∷ (48 + n % 10) ∷ []
two_by_pair n few =
    let first : 48 + n / 10 % 10 ≡ 48 + n / 10 = omega arith in
    two_digits n few ∙ ap (λ d. d ∷ (48 + n % 10) ∷ []) first

pub four_by_pairs : (n : ℕ) → n < 10000 → in_digits 4 n ≡ (48 + n / 100 / 10) ∷ (48 + n / 100 % 10) ∷ (48 + n % 100 / 10) ∷ (48 + n % 100 % 10) ∷ []
four_by_pairs n few =
    let first : 48 + n / 1000 % 10 ≡ 48 + n / 100 / 10 = omega arith in
    let third : 48 + n / 10 % 10 ≡ 48 + n % 100 / 10 = omega arith in
    let last : 48 + n % 10 ≡ 48 + n % 100 % 10 = omega arith in
    four_digits n few
    ∙ ap (λ d. d ∷ (48 + n / 100 % 10) ∷ (48 + n / 10 % 10) ∷ (48 + n % 10) ∷ []) first
    ∙ ap (λ d. (48 + n / 100 / 10) ∷ (48 + n / 100 % 10) ∷ d ∷ (48 + n % 10) ∷ []) third
    ∙ ap (λ d. (48 + n / 100 / 10) ∷ (48 + n / 100 % 10) ∷ (48 + n % 100 / 10) ∷ d ∷ []) last
