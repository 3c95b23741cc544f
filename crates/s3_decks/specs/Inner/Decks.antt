-- A deck that is put together from files: its text, and the line of a file that each of its cards is.
use Rattle.std.specs.Prelude.{ℕ, ◌+◌, ◌-◌, ◌==◌, List, [], ◌∷◌, ◌++◌, Bool, not, ◌&&◌, Option, None, Some, length, map, filter, slice_get, nat_eq, nat_le, nat_lt, if◌then◌else◌}
use Rattle.std.specs.Cmp.Lexicographic.{pointwise}
use Rattle.std.specs.List.{enumerate_from, flat_map, list_any, position_from, range_with_len}
use Rattle.std.specs.Option.{option_map}
use Rattle.std.specs.Str.Lines.{lines}
use Rattle.s3_decks.specs.declared.deck_text.CardRange.{CardRange}
use Rattle.s3_decks.specs.declared.place.FilePlace.{FilePlace}

-- a line of a file: its file's name, and its number, from 1
abbrev pub FileLine : Type 0
FileLine = List ℕ × ℕ

abbrev pub line_seen : FilePlace → FileLine
line_seen place = (place.file.now, place.line)

-- the text of a deck, and the line that each card is
pub record Assembled : Type 0 where
  pub text : List ℕ
  pub places : List FileLine

-- what a text with this last byte lacks: a line feed, if its last line has none
abbrev pub lacking : Option ℕ → List ℕ
lacking None = []
lacking (Some byte) = if byte == 10 then [] else 10 ∷ []

-- a file's text, whose last line has its end
abbrev pub ended : List ℕ → List ℕ
ended text = text ++ lacking (slice_get text (length text - 1))

-- the first lines of a file, so many of them
abbrev pub first_lines : List ℕ → ℕ → List FileLine
first_lines file count = map (λ number. (file, number)) (range_with_len 1 count)

-- a deck with a file after those that it has
abbrev pub with_file : List ℕ → List ℕ → Assembled → Assembled
with_file file text deck = record { text = deck.text ++ ended text; places = deck.places ++ first_lines file (length (lines text)) }

-- some lines of a file, by their numbers
abbrev pub lines_of : List ℕ → List ℕ → List FileLine
lines_of file numbers = map (λ number. (file, number)) numbers

-- a deck with cards after those that it has, each of them of the line of a file that has this number
abbrev pub with_cards : List ℕ → List ℕ → List ℕ → Assembled → Assembled
with_cards file text numbers deck = record { text = deck.text ++ ended text; places = deck.places ++ lines_of file numbers }

-- the line that a card is, by its number from 1
abbrev pub line_of : ℕ → Assembled → Option FileLine
line_of card deck = if card == 0 then None else slice_get deck.places (card - 1)

-- whether a line is this one
abbrev pub is_line : List ℕ → ℕ → FileLine → Bool
is_line file number line = pointwise nat_eq line.0 file && line.1 == number

-- the number of the card that is a line of a file, or of the whole deck
abbrev pub card_of : Option (List ℕ) → ℕ → Assembled → Option ℕ
card_of None number deck = if number == 0 then None else if nat_le number (length deck.places) then Some number else None
card_of (Some file) number deck = option_map (λ place. place + 1) (position_from (is_line file number) 0 deck.places)

-- whether a place is in one of these ranges
abbrev pub is_left_out : List CardRange → ℕ → Bool
is_left_out ranges place = list_any (λ range. nat_le range.from place && nat_lt place range.to) ranges

-- a list without what is at places in these ranges
abbrev pub kept : {X : Type 0} → List CardRange → List X → List X
kept ranges xs = map (λ entry. entry.1) (filter (λ entry. not (is_left_out ranges entry.0)) (enumerate_from 0 xs))

-- the text of lines, each with its end
abbrev pub joined : List (List ℕ) → List ℕ
joined all = flat_map (λ line. line ++ 10 ∷ []) all

-- a deck without the cards at places in these ranges
abbrev pub without : List CardRange → Assembled → Assembled
without ranges deck = record { text = joined (kept ranges (lines deck.text)); places = kept ranges deck.places }
