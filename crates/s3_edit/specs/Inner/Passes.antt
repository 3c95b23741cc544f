-- The character that one pass from the right writes at each place; `rest` is the part of the number from that place on.
use Rattle.std.specs.Prelude.{ℕ, ◌+◌, ◌-◌, ◌/◌, ◌%◌, ◌^◌, Bool, ◌&&◌, ◌==◌, nat_lt, if◌then◌else◌}
use Rattle.s3_cards.specs.declared.ebcdic.TheConstants.{BLANK, SLASH}
use Rattle.s3_decimal.specs.Records.{digit_at, zone_at, zoned_byte}
use Rattle.s3_edit.specs.declared.amount.Place.{Place}
use Rattle.s3_edit.specs.declared.amount.Place.TheVariants.{Comma, Digit}
use Rattle.s3_edit.specs.declared.plain.Plain.{Plain}
use Rattle.s3_edit.specs.declared.plain.Plain.TheVariants.{Zoned, Date, Suppressed}
use Rattle.s3_edit.specs.Picture.{character_of, date_at, digit_character, suppressed_at, whole_digits}

-- ---- the whole part of an amount
abbrev pub whole_kind : Bool → ℕ → Place
whole_kind commas place = if commas && place % 4 == 3 then Comma else Digit

-- the character at a place of a whole part, counted from its own right
abbrev pub whole_at : Bool → ℕ → ℕ → ℕ
whole_at commas n place =
    character_of (whole_kind commas place) (nat_lt 0 (n / 10 ^ whole_digits commas place)) (digit_at (whole_digits commas place) n)

-- ---- numbers without point and commas
abbrev pub plain_picture : Plain → Bool → ℕ → ℕ → ℕ
plain_picture Zoned negative n place = zoned_byte negative place n
plain_picture Date negative n place = date_at n place
plain_picture Suppressed negative n place = suppressed_at n place

abbrev pub plain_digits_right : Plain → ℕ → ℕ
plain_digits_right Date place = place - place / 3
plain_digits_right _ place = place

abbrev pub plain_character_of : Plain → Bool → ℕ → ℕ → ℕ
plain_character_of Zoned negative place rest = zone_at negative place + rest % 10
plain_character_of Date negative place rest =
    if place % 3 == 2 then SLASH else (if place == 7 && rest == 0 then BLANK else digit_character (rest % 10))
plain_character_of Suppressed negative place rest = if rest == 0 then BLANK else digit_character (rest % 10)

abbrev pub plain_rest_of : Plain → ℕ → ℕ → ℕ
plain_rest_of Date place rest = if place % 3 == 2 then rest else rest / 10
plain_rest_of _ place rest = rest / 10
