-- Numbers as their digits spell them. A character set is given by its code of 0; the codes of 1 to 9 follow in order.
use Rattle.std.specs.Prelude.{ℕ, ◌+◌, ◌-◌, List, ◌++◌, Bool, length, map, replicate}
use Rattle.std.specs.Fmt.{decimal}
use Rattle.std.specs.Int.Digits.{number_from_digits}
use Rattle.s3_cards.specs.Names.{is_within}

-- one of the ten codes from the code of 0
abbrev pub is_digit_from : ℕ → ℕ → Bool
is_digit_from code_of_zero code = is_within code_of_zero (code_of_zero + 9) code

-- the number of a run of digits
abbrev pub number_of : ℕ → List ℕ → ℕ
number_of code_of_zero digits = number_from_digits 10 (map (λ code. code - code_of_zero) digits)

-- a number in at least so many decimal digits, as characters of the host
abbrev pub in_digits : ℕ → ℕ → List ℕ
in_digits width number = replicate (width - length (decimal number)) 48 ++ decimal number
