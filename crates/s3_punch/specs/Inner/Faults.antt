-- What is wrong with the lines of a text.
use Rattle.std.specs.Prelude.{ℕ, ◌+◌, ◌-◌, ◌%◌, ◌==◌, not, List, [], ◌∷◌, ◌++◌, Bool, Option, Some, None, count_by, drop, length, nat_lt, reverse, take, if◌then◌else◌}
use Rattle.std.specs.List.{enumerate_from, flat_map, list_any, prefix_len, slice_split}
use Rattle.s3_punch.specs.Inner.Cards.{card_by, form_of, is_zero, part_text, piece_of, with_piece}
use Rattle.s3_punch.specs.Inner.Characters.{is_refused}
use Rattle.s3_punch.specs.Inner.Parts.{is_data, is_source}
use Rattle.s3_punch.specs.declared.part.Part.{Part}
use Rattle.s3_punch.specs.declared.fault.PunchFault.{PunchFault}
use Rattle.s3_punch.specs.declared.fault.PunchReason.{PunchReason}
use Rattle.s3_punch.specs.declared.fault.PunchReason.TheVariants.{NoCardHas, TooWide, NoPiece, Overlaps, OpenText}
use Rattle.s3_punch.specs.declared.form.LineForm.{LineForm}
use Rattle.s3_punch.specs.declared.form.LineForm.TheVariants.{InPieces, Plain}

-- this fault, where the test holds
abbrev pub fault_if : Bool → ℕ → ℕ → PunchReason → List PunchFault
fault_if test line column reason = if test then record { line = line; column = column; reason = reason } ∷ [] else []

-- each character that no card has
abbrev pub character_fault : ℕ → ℕ × ℕ → List PunchFault
character_fault line place = fault_if (is_refused place.1) line place.0 (NoCardHas place.1)

abbrev pub character_faults : ℕ → List ℕ → List PunchFault
character_faults line characters = flat_map (character_fault line) (enumerate_from 1 characters)

abbrev pub width_fault : ℕ → List ℕ → List PunchFault
width_fault line card = fault_if (nat_lt 96 (length card)) line 97 (TooWide (length card))

-- whether a column in which a piece would be is filled already
abbrev pub lies_over : List ℕ → ℕ × List ℕ → Bool
lies_over card piece = list_any (λ byte. not (is_zero byte)) (take (length piece.1) (drop (piece.0 - 1) card))

abbrev pub part_fault : ℕ → ℕ → List ℕ → List ℕ → Option (ℕ × List ℕ) → List PunchFault
part_fault line place card part None = fault_if (not (length part == 0)) line place NoPiece
part_fault line place card part (Some piece) = fault_if (lies_over card piece) line place Overlaps

-- what is wrong with the parts of a card in pieces, of which the first one is at this place of the line
abbrev pub part_faults : ℕ → ℕ → List ℕ → List (List ℕ) → List PunchFault
part_faults line place card [] = []
part_faults line place card (part ∷ parts) =
    part_fault line place card part (piece_of part) ++ part_faults line (place + length part + 1) (with_piece card (piece_of part)) parts

abbrev pub is_apostrophe : ℕ → Bool
is_apostrophe byte = byte == 39

-- the last apostrophe of a text after the %, where their number is odd
abbrev pub open_fault : ℕ → List ℕ → List PunchFault
open_fault line text =
    fault_if (count_by is_apostrophe text % 2 == 1) line (length text - prefix_len (λ byte. not (is_apostrophe byte)) (reverse text) + 1) OpenText

abbrev pub piece_faults : ℕ → List ℕ → List PunchFault
piece_faults line text = open_fault line text ++ part_faults line 2 [] (slice_split is_zero text)

-- what is wrong with a line that has this card
abbrev pub card_faults : ℕ → List ℕ → List ℕ → LineForm → List PunchFault
card_faults line characters card InPieces = character_faults line characters ++ piece_faults line (part_text characters) ++ width_fault line card
card_faults line characters card Plain = character_faults line characters ++ width_fault line card

-- a line that becomes no card may have anything
abbrev pub form_faults : Bool → Part → ℕ → List ℕ → Option LineForm → List PunchFault
form_faults blanks_remarks part line characters None = []
form_faults blanks_remarks part line characters (Some form) =
    card_faults line characters (card_by blanks_remarks (is_source part) characters form) form

unfoldable pub faults_of_line : Bool → Part → ℕ → List ℕ → List PunchFault
faults_of_line blanks_remarks part line characters =
    form_faults blanks_remarks part line characters (form_of (is_data part) characters)
