-- Numbers as people write them: a sign in front, digits, and a point before the decimals.
use Rattle.std.specs.Prelude.{ℕ, ℤ, ◌+◌, ◌-◌, ◌%◌, ◌==◌, ◌&&◌, ◌||◌, nat_le, not, Bool, false, List, [], ◌∷◌, ◌++◌, length, map, take, drop, replicate, unsigned_abs, Option, Some, None, if◌then◌else◌}
use Rattle.std.specs.Option.{option_map}
use Rattle.std.specs.List.{list_all, before_first, after_first}
use Rattle.s3_decimal.specs.Exact.{is_negative, signed}
use Rattle.s3_decimal.specs.Records.{number_of, zoned_bytes}

-- the character of a digit in a zoned byte, and the digit of a character
abbrev pub digit_character : ℕ → ℕ
digit_character byte = 48 + byte % 16

abbrev pub digit_value : ℕ → ℕ
digit_value character = character % 16

abbrev pub is_digit : ℕ → Bool
is_digit character = nat_le 48 character && nat_le character 57

abbrev pub is_point : ℕ → Bool
is_point character = character == 46

-- ---- writing
-- digits without leading zeros; the last digit is kept
unfoldable pub significant : List ℕ → List ℕ
significant [] = []
significant (digit ∷ []) = digit ∷ []
significant (digit ∷ next ∷ digits) = if digit == 0xf0 then significant (next ∷ digits) else digit ∷ next ∷ digits

abbrev pub sign_text : Bool → List ℕ
sign_text negative = if negative then 45 ∷ [] else []

-- a mark and then the decimals, if there are any
abbrev pub decimals_with : (mark : ℕ) → List ℕ → List ℕ
decimals_with mark [] = []
decimals_with mark (digit ∷ digits) = mark ∷ map digit_character (digit ∷ digits)

-- with a point
abbrev pub decimals_text : List ℕ → List ℕ
decimals_text digits = decimals_with 46 digits

-- the fifteen digits of a magnitude
unfoldable pub fifteen : ℕ → List ℕ
fifteen magnitude = zoned_bytes false 15 magnitude

-- a number in units of the last of so many decimals
unfoldable pub number_text : (decimals : ℕ) → ℤ → List ℕ
number_text decimals value =
    sign_text (is_negative value)
    ++ (map digit_character (significant (take (15 - decimals) (fifteen (unsigned_abs value))))
    ++ decimals_text (drop (15 - decimals) (fifteen (unsigned_abs value))))

-- ---- reading
abbrev pub is_sign : ℕ → Bool
is_sign character = (character == 45) || (character == 43)

abbrev pub has_minus : List ℕ → Bool
has_minus [] = false
has_minus (first ∷ rest) = first == 45

abbrev pub without_sign : List ℕ → List ℕ
without_sign [] = []
without_sign (first ∷ rest) = if is_sign first then rest else first ∷ rest

-- digits, at least one
abbrev pub are_digits : (whole fraction : List ℕ) → Bool
are_digits whole fraction = (not (length whole == 0) || not (length fraction == 0)) && list_all is_digit whole && list_all is_digit fraction

abbrev pub magnitude_in : (decimals : ℕ) → (whole fraction : List ℕ) → Option ℕ
magnitude_in decimals whole fraction =
    if are_digits whole fraction && nat_le (length fraction) decimals
    then Some (number_of ((map digit_value whole ++ map digit_value fraction) ++ replicate (decimals - length fraction) 0))
    else None

-- the magnitude that digits with a point say
unfoldable pub magnitude_read : (decimals : ℕ) → List ℕ → Option ℕ
magnitude_read decimals text = magnitude_in decimals (before_first is_point text) (after_first is_point text)

-- the number that a text says, in units of the last of so many decimals
abbrev pub number_read : (decimals : ℕ) → List ℕ → Option ℤ
number_read decimals text = option_map (signed (has_minus text)) (magnitude_read decimals (without_sign text))
