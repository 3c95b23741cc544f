-- The deck that a text becomes.
use Rattle.std.specs.Prelude.{◌≡◌, ℕ, ◌+◌, ◌-◌, ◌==◌, ◌&&◌, not, List, [], ◌∷◌, ◌++◌, Bool, true, false, Option, Some, None, Ok, is_some, length, map, nat_lt, slice_index, take, if◌then◌else◌}
use Rattle.std.specs.List.{flat_map, list_all, list_any}
use Rattle.std.specs.Str.Lines.{lines}
use Rattle.bstr.specs.Utf8.{lossy_chars}
use Rattle.s3_cards.specs.Deck.{deck_of}
use Rattle.s3_punch.specs.Inner.Cards.{card_of_line, form_of}
use Rattle.s3_punch.specs.Inner.Faults.{fault_if, faults_of_line}
use Rattle.s3_punch.specs.Inner.Parts.{is_data, part_behind}
use Rattle.s3_punch.specs.declared.part.Part.{Part}
use Rattle.s3_punch.specs.declared.deck.Begun.{Begun}
use Rattle.s3_punch.specs.declared.form.LineForm.{LineForm}
use Rattle.s3_punch.specs.declared.form.LineForm.TheVariants.{InPieces, Plain}
use Rattle.s3_punch.specs.declared.fault.PunchFault.{PunchFault}
use Rattle.s3_punch.specs.declared.fault.PunchReason.TheVariants.{TooManyCards}

-- a card and the number of the line that it is of
abbrev pub NumberedCard : Type 0
NumberedCard = ℕ × List ℕ

-- the card of a line of bytes
abbrev pub card_of_bytes : Bool → Part → List ℕ → Option (List ℕ)
card_of_bytes blanks_remarks part line = card_of_line blanks_remarks part (lossy_chars line)

abbrev pub numbered : ℕ → Option (List ℕ) → List NumberedCard
numbered line None = []
numbered line (Some card) = (line, card) ∷ []

abbrev pub part_after : Part → Option (List ℕ) → Part
part_after part None = part
part_after part (Some card) = part_behind part card

-- the cards of lines, of which the first has this number and is in this part
unfoldable pub cards_from : Bool → Part → ℕ → List (List ℕ) → List NumberedCard
cards_from blanks_remarks part line [] = []
cards_from blanks_remarks part line (bytes ∷ more) =
    let card : Option (List ℕ) = card_of_bytes blanks_remarks part bytes in
    numbered line card ++ cards_from blanks_remarks (part_after part card) (line + 1) more

-- the part after these lines
unfoldable pub part_from : Bool → Part → List (List ℕ) → Part
part_from blanks_remarks part [] = part
part_from blanks_remarks part (bytes ∷ more) =
    part_from blanks_remarks (part_after part (card_of_bytes blanks_remarks part bytes)) more

-- a card after 9,999 others
abbrev pub surplus_fault : ℕ → ℕ → Option (List ℕ) → List PunchFault
surplus_fault cards line card = fault_if (cards == 9999 && is_some card) line 1 TooManyCards

-- how many cards are in front of the next line
abbrev pub cards_after : ℕ → Option (List ℕ) → ℕ
cards_after cards None = cards
cards_after cards (Some card) = cards + 1

-- what is wrong with lines that are after so many cards
unfoldable pub faults_from : Bool → Part → ℕ → ℕ → List (List ℕ) → List PunchFault
faults_from blanks_remarks part cards line [] = []
faults_from blanks_remarks part cards line (bytes ∷ more) =
    let card : Option (List ℕ) = card_of_bytes blanks_remarks part bytes in
    (faults_of_line blanks_remarks part line (lossy_chars bytes) ++ surplus_fault cards line card)
    ++ faults_from blanks_remarks (part_after part card) (cards_after cards card) (line + 1) more

-- the text of cards, each with its end
abbrev pub joined : List NumberedCard → List ℕ
joined cards = flat_map (λ card. card.1 ++ 10 ∷ []) cards

-- whether the last line of a text has no end
abbrev pub is_open : List ℕ → Bool
is_open text = nat_lt 0 (length text) && not (slice_index text (length text - 1) == 10)

-- a text without the end of its last line, unless that line is empty
abbrev pub without_end : List ℕ → List ℕ
without_end text =
    if nat_lt 1 (length text) && not (slice_index text (length text - 2) == 10) then take (length text - 1) text else text

-- whether one of these cards is of this line
abbrev pub has_card : ℕ → List NumberedCard → Bool
has_card line cards = list_any (λ number. number == line) (map (λ card. card.0) cards)

-- the deck of a text: a last line without an end becomes a card without one
abbrev pub text_with : List ℕ → List NumberedCard → List ℕ
text_with text cards = if is_open text && has_card (length (lines text)) cards then without_end (joined cards) else joined cards

-- the cards of a text that goes on where others have ended
abbrev pub cards_of : Begun → List ℕ → List NumberedCard
cards_of begun text = cards_from begun.blanks_remarks begun.part 1 (lines text)

abbrev pub deck_text : Begun → List ℕ → List ℕ
deck_text begun text = text_with text (cards_of begun text)

abbrev pub faults_of : Begun → List ℕ → List PunchFault
faults_of begun text = faults_from begun.blanks_remarks begun.part begun.cards 1 (lines text)

-- ---- what is promised
-- `Deck::read` takes this text
abbrev pub IsDeck : List ℕ → Type 0
IsDeck text = (cards : List (List ℕ)) × (deck_of text ≡ Ok cards)

-- a line that has its card as it is: outside of data it isn't blank, and begins neither with # nor with %
abbrev pub is_plain : Option LineForm → Bool
is_plain None = false
is_plain (Some InPieces) = false
is_plain (Some Plain) = true

abbrev pub stands : Part → List ℕ → Bool
stands part line = is_plain (form_of (is_data part) line)

unfoldable pub all_stand : Part → List (List ℕ) → Bool
all_stand part [] = true
all_stand part (line ∷ more) = stands part line && all_stand (part_behind part line) more

-- a text that is a deck already
pub record IsPunched (part : Part) (text : List ℕ) : Type 0 where
  pub is_deck : IsDeck text
  pub has_no_returns : list_all (λ byte. not (byte == 13)) text ≡ true
  pub stands_as_cards : all_stand part (lines text) ≡ true
