-- The cards of a deck's text, or its first fault.
use Rattle.std.specs.Prelude.{ℕ, ◌+◌, ◌-◌, List, [], ◌∷◌, ◌++◌, Bool, Option, Some, None, Result, Ok, Err, length, take, map, replicate, nat_lt, is_some, unwrap_or, if◌then◌else◌}
use Rattle.std.specs.List.{list_all}
use Rattle.std.specs.Option.{option_map, option_or}
use Rattle.std.specs.Str.Lines.{lines}
use Rattle.s3_cards.specs.Codes.{ebcdic_of}
use Rattle.s3_cards.specs.declared.deck.CardFault.{CardFault}
use Rattle.s3_cards.specs.declared.deck.CardFault.TheVariants.{TooWide, BadCharacter, TooMany}
use Rattle.s3_cards.specs.declared.deck.DeckFault.{DeckFault}
use Rattle.s3_cards.specs.declared.deck.DeckFault.TheVariants.{NoMemory, At}

-- whether a card may have this character
abbrev pub has_code : ℕ → Bool
has_code character = is_some (ebcdic_of character)

-- the fault of a line as a card
unfoldable pub fault_of : List ℕ → Option CardFault
fault_of line = if nat_lt 96 (length line) then Some TooWide else if list_all has_code line then None else Some BadCharacter

-- the card of a line: the codes of its characters, and blanks up to column 96
unfoldable pub card_of : List ℕ → List ℕ
card_of line = map (λ character. unwrap_or (ebcdic_of character) 0x40) line ++ replicate (96 - length line) 0x40

-- the first fault in a list of lines whose first one is card n
abbrev pub fault_from : ℕ → List (List ℕ) → Option DeckFault
fault_from n [] = None
fault_from n (line ∷ more) = option_or (option_map (λ fault. At n fault) (fault_of line)) (fault_from (n + 1) more)

-- the cards of these lines, or their first fault: one of the first 9,999 cards, or that there are more
unfoldable pub cards_of : List (List ℕ) → Result (List (List ℕ)) DeckFault
cards_of all = found (fault_from 1 (take 9999 all))
  where
    found : Option DeckFault → Result (List (List ℕ)) DeckFault
    found (Some fault) = Err fault
    found None = if nat_lt 9999 (length all) then Err (At 9999 TooMany) else Ok (map card_of all)

-- the cards of a text, or its first fault
abbrev pub deck_of : List ℕ → Result (List (List ℕ)) DeckFault
deck_of text = cards_of (lines text)

-- the number of a fault
abbrev pub fault_code : CardFault → ℕ
fault_code TooWide = 1
fault_code BadCharacter = 2
fault_code TooMany = 3

-- the number of the faulty card, and the number of its fault
abbrev pub detail_of : DeckFault → Option (ℕ × ℕ)
detail_of NoMemory = None
detail_of (At n fault) = Some (n, fault_code fault)
