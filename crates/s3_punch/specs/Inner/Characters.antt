-- The card characters that characters of a text become.
use Rattle.std.specs.Prelude.{ℕ, ◌-◌, ◌==◌, ◌&&◌, not, Bool, Option, Some, find, is_none, nat_le, unwrap_or, if◌then◌else◌}
use Rattle.std.specs.Option.{option_map}
use Rattle.s3_cards.specs.Deck.{has_code}
use Rattle.s3_punch.specs.declared.characters.TheConstants.{PLAIN}

-- one of a to z
abbrev pub is_small : ℕ → Bool
is_small character = nat_le 97 character && nat_le character 122

abbrev pub is_tab : ℕ → Bool
is_tab character = character == 9

-- the plain character that the table has for another one
abbrev pub in_table : ℕ → Option ℕ
in_table character = option_map (λ entry. entry.1) (find (λ entry. entry.0 == character) PLAIN)

-- the card character that a character becomes, if it becomes one
unfoldable pub plain_of : ℕ → Option ℕ
plain_of character =
    if is_small character then Some (character - 32) else if has_code character then Some character else in_table character

-- what is reported: no tab, and nothing that becomes a card character
abbrev pub is_refused : ℕ → Bool
is_refused character = not (is_tab character) && is_none (plain_of character)

-- what is in the column of a character
abbrev pub shown : ℕ → ℕ
shown character = unwrap_or (plain_of character) 63
