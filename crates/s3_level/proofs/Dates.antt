-- Six digits are a date as a run begins with it.
use Rattle.std.proofs.Common.{◌≡◌, ℕ, ◌%◌, List, [], ◌∷◌, refl, true, nat_lt, arith}
use Rattle.std.specs.List.{list_all}
use Rattle.std.proofs.lemmas.Bool.{and_parts}
use Rattle.std.proofs.lemmas.Bool.Decides.{nat_tests}
use Rattle.s3_cards.specs.Names.{is_digit}
use Rattle.s3_operations.specs.Inner.Beginning.{IsDate, are_digits}
use Rattle.s3_operations.proofs.BeginLemmas.{date_of_digits}

low_half : (code : ℕ) → is_digit code ≡ true → nat_lt (code % 16) 10 ≡ true
low_half code is = grind (arith, nat_tests, is)

are_low : (date : List ℕ) → list_all is_digit date ≡ true → are_digits date ≡ true
are_low [] all = refl
are_low (code ∷ codes) all =
    let both = and_parts (is_digit code) (list_all is_digit codes) all in
    rw (low_half code both.0) (are_low codes both.1)

pub digits_are_date : (date : List ℕ) → list_all is_digit date ≡ true → IsDate date
digits_are_date date all = date_of_digits date (are_low date all)
