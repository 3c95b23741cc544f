-- Decks of 80 columns in EBCDIC, as texts.
use Rattle.std.specs.Prelude.{ℕ, ◌+◌, ◌*◌, ◌/◌, ◌%◌, ◌==◌, ◌&&◌, not, Bool, List, [], ◌∷◌, ◌++◌, is_none, is_some, length, map, slice_range, take, if◌then◌else◌}
use Rattle.std.specs.List.{enumerate_from, flat_map, list_all, range_with_len}
use Rattle.s3_cards.specs.Codes.{host_of, shown_byte}
use Rattle.s3_cards.specs.Printed.{trimmed}
use Rattle.s3_punch.specs.declared.ebcdic.CardByte.{CardByte}

-- the line of a card: its characters, without the blanks at its end
abbrev pub card_line : List ℕ → List ℕ
card_line card = map shown_byte (trimmed card) ++ 10 ∷ []

-- card n of a deck, from 0
abbrev pub card_in : List ℕ → ℕ → List ℕ
card_in bytes n = slice_range bytes (n * 80) (n * 80 + 80)

-- the lines of the first so many cards
abbrev pub lines_to : List ℕ → ℕ → List ℕ
lines_to bytes count = flat_map card_line (map (card_in bytes) (range_with_len 0 count))

-- the lines of all whole cards
abbrev pub cards_text : List ℕ → List ℕ
cards_text bytes = lines_to bytes (length bytes / 80)

-- the byte at a place, from 0, if it is no character of a card
abbrev pub byte_fault : ℕ × ℕ → List CardByte
byte_fault place =
    if is_none (host_of place.1) then record { card = place.0 / 80 + 1; column = place.0 % 80 + 1; byte = place.1 } ∷ [] else []

-- each byte that is none
abbrev pub byte_faults : List ℕ → List CardByte
byte_faults bytes = flat_map byte_fault (enumerate_from 0 bytes)

-- ---- a file that is such a deck
-- a byte is a character of EBCDIC
abbrev pub has_character : ℕ → Bool
has_character byte = is_some (host_of byte)

-- whole cards, of which the first has only characters
abbrev pub has_cards : List ℕ → Bool
has_cards bytes = (not (length bytes == 0) && length bytes % 80 == 0) && list_all has_character (take 80 bytes)
