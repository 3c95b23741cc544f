-- The answers of reading a deck, and the first line of a text as a card.
use Rattle.std.specs.Prelude.{◌≡◌, ℕ, ◌-◌, ◌≤◌, List, ◌∷◌, ◌++◌, Some, None, Result, Ok, Err, length, map, replicate, take, unwrap_or}
use Rattle.std.specs.Str.Lines.{lines}
use Rattle.s3_cards.specs.Codes.{ebcdic_of}
use Rattle.s3_cards.specs.declared.deck.CardFault.{CardFault}
use Rattle.s3_cards.specs.declared.deck.DeckFault.{DeckFault}
use Rattle.s3_cards.specs.declared.deck.DeckFault.TheVariants.{NoMemory, At}
use Rattle.s3_cards.specs.Deck.{fault_of, card_of}

-- the codes of a line's bytes, 0 for a byte without a code, and blanks up to column 96
abbrev pub codes_and_blanks : List ℕ → List ℕ
codes_and_blanks line = map (λ byte. unwrap_or (ebcdic_of byte) 0) line ++ replicate (96 - length line) 0x40

-- the codes of the first so many bytes, and blanks after them
abbrev pub codes_to : ℕ → List ℕ → List ℕ
codes_to count line = map (λ byte. unwrap_or (ebcdic_of byte) 0) (take count line) ++ replicate (96 - count) 0x40

-- the first line of a text has no fault, this is its card, and this text comes after the line
abbrev pub StartsWithCard : List ℕ → List ℕ → List ℕ → Type 0
StartsWithCard text card after = (line : List ℕ) × (lines text ≡ line ∷ lines after) × (fault_of line ≡ None) × (card ≡ card_of line)

-- the first line of a text has this fault
abbrev pub StartsWithFault : List ℕ → CardFault → Type 0
StartsWithFault text fault = (line : List ℕ) × (left : List (List ℕ)) × (lines text ≡ line ∷ left) × (fault_of line ≡ Some fault)

-- a call gave what the definition gives, unless memory ran out
abbrev pub Gives : Result (List (List ℕ)) DeckFault → Result (List (List ℕ)) DeckFault → Type 0
Gives (Err NoMemory) meant = Unit {0}
Gives (Err (At n fault)) meant = meant ≡ Err (At n fault)
Gives (Ok cards) meant = meant ≡ Ok cards

-- the faulty card is one of the first 9,999
abbrev pub HasCardNumber : DeckFault → Type 0
HasCardNumber NoMemory = Unit {0}
HasCardNumber (At n fault) = (1 ≤ n) × (n ≤ 9999)
