-- The members of an object in a line, found by their names.
use Rattle.std.specs.Prelude.{ℕ, ◌^◌, nat_lt, nat_le, Bool, ◌&&◌, List, [], ◌∷◌, length, Option, Some, None, option_map, option_and_then, if◌then◌else◌}
use Rattle.std.specs.Str.{bytes_eq}
use Rattle.std.specs.List.{list_all}
use Rattle.std.specs.Char.{digit_value}
use Rattle.std.specs.Str.Parse.{digits_value, without_leading_plus}
use Rattle.json.specs.Json.{Json, Members, no_members, member}
use Rattle.json.specs.Find.{as_str, as_number, as_object, is_null}

-- the values of all members of a name, in their order
abbrev pub values_of : (name : List ℕ) → Members → List Json
values_of name no_members = []
values_of name (member key json rest) = if bytes_eq key name then json ∷ values_of name rest else values_of name rest

abbrev pub only : List Json → Option Json
only [] = None
only (json ∷ []) = Some json
only (json ∷ other ∷ rest) = None

abbrev pub only_or_none : List Json → Option (Option Json)
only_or_none [] = Some None
only_or_none (json ∷ []) = if is_null json then Some None else Some (Some json)
only_or_none (json ∷ other ∷ rest) = None

-- the value of the one member of a name; none where there is no such member or more than one
abbrev pub value_in : (name : List ℕ) → Members → Option Json
value_in name members = only (values_of name members)

-- .., or where there is no such member, or it is null, that there is none
abbrev pub optional_in : (name : List ℕ) → Members → Option (Option Json)
optional_in name members = only_or_none (values_of name members)

-- ---- what a value is
abbrev pub is_decimal_digit : ℕ → Bool
is_decimal_digit byte = nat_lt (digit_value byte) 10

abbrev pub is_numeral : List ℕ → Bool
is_numeral digits = nat_lt 0 (length digits) && list_all is_decimal_digit digits

abbrev pub below : (bound : ℕ) → List ℕ → Option ℕ
below bound digits = if is_numeral digits && nat_lt (digits_value 10 digits) bound then Some (digits_value 10 digits) else None

-- a whole number below 2 to the power 64: digits alone
abbrev pub whole_number : Json → Option ℕ
whole_number json = option_and_then (λ text. below (2 ^ 64) (without_leading_plus text)) (as_number json)

abbrev pub up_to : (most : ℕ) → ℕ → Option ℕ
up_to most n = if nat_le n most then Some n else None

-- ---- the value of a name as what it is to be
abbrev pub text_in : (name : List ℕ) → Members → Option (List ℕ)
text_in name members = option_and_then as_str (value_in name members)

abbrev pub whole_in : (name : List ℕ) → Members → Option ℕ
whole_in name members = option_and_then whole_number (value_in name members)

abbrev pub number_in : (name : List ℕ) → (most : ℕ) → Members → Option ℕ
number_in name most members = option_and_then (up_to most) (whole_in name members)

abbrev pub object_in : (name : List ℕ) → Members → Option Members
object_in name members = option_and_then as_object (value_in name members)

-- what there is, read by `read`; what can't be read is no member
abbrev pub or_none : {X : Type 0} → (read : Json → Option X) → Option Json → Option (Option X)
or_none read None = Some None
or_none read (Some json) = option_map Some (read json)

abbrev pub optional_text_in : (name : List ℕ) → Members → Option (Option (List ℕ))
optional_text_in name members = option_and_then (or_none as_str) (optional_in name members)
