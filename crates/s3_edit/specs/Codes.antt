-- The edit codes, each with its character in EBCDIC.
use Rattle.std.specs.Prelude.{ℕ, Bool, true, false, ◌==◌, Option, List, [], ◌∷◌, find, option_map}
use Rattle.s3_cards.specs.declared.ebcdic.TheConstants.{DIGIT_1, DIGIT_2, DIGIT_3, DIGIT_4, LETTER_A, LETTER_B, LETTER_C, LETTER_D, LETTER_J, LETTER_K, LETTER_L, LETTER_M, LETTER_X, LETTER_Y, LETTER_Z}
use Rattle.s3_edit.specs.declared.code.Sign.{Sign}
use Rattle.s3_edit.specs.declared.code.Sign.TheVariants.{Never, Credit, Minus}
use Rattle.s3_edit.specs.declared.code.EditCode.{EditCode}
use Rattle.s3_edit.specs.declared.code.EditCode.TheVariants.{Edited, Zoned, Date, Suppressed}

abbrev pub edited : Bool → Bool → Sign → EditCode
edited commas zero_printed sign = Edited (record { commas = commas; zero_printed = zero_printed; sign = sign })

-- 1 to 4, A to D, J to M, X, Y, Z
abbrev pub edit_codes : List (ℕ × EditCode)
edit_codes =
    (DIGIT_1, edited true true Never) ∷
    (DIGIT_2, edited true false Never) ∷
    (DIGIT_3, edited false true Never) ∷
    (DIGIT_4, edited false false Never) ∷
    (LETTER_A, edited true true Credit) ∷
    (LETTER_B, edited true false Credit) ∷
    (LETTER_C, edited false true Credit) ∷
    (LETTER_D, edited false false Credit) ∷
    (LETTER_J, edited true true Minus) ∷
    (LETTER_K, edited true false Minus) ∷
    (LETTER_L, edited false true Minus) ∷
    (LETTER_M, edited false false Minus) ∷
    (LETTER_X, Zoned) ∷
    (LETTER_Y, Date) ∷
    (LETTER_Z, Suppressed) ∷
    []

abbrev pub code_of : ℕ → Option EditCode
code_of character = option_map (λ row. row.1) (find (λ row. row.0 == character) edit_codes)
