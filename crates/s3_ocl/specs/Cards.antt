-- Cards of a job stream: their kinds, and the words on them.
use Rattle.std.specs.Prelude.{ℕ, ◌+◌, ◌==◌, ◌||◌, ◌&&◌, not, List, [], ◌∷◌, Bool, take, drop, length, nat_eq}
use Rattle.std.specs.List.{prefix_len, position_or_len, starts_with}
use Rattle.s3_cards.specs.declared.ebcdic.TheConstants.{BLANK, AMPERSAND, ASTERISK, SLASH}
use Rattle.s3_cards.specs.Names.{is_blank, is_mark}

-- a card that begins with `/*`
abbrev pub is_data_end : List ℕ → Bool
is_data_end card = starts_with nat_eq card (SLASH ∷ ASTERISK ∷ [])

-- a card that begins with `/&`
abbrev pub is_job_end : List ℕ → Bool
is_job_end card = starts_with nat_eq card (SLASH ∷ AMPERSAND ∷ [])

-- a card that begins with `//` and a blank
abbrev pub is_statement : List ℕ → Bool
is_statement card = starts_with nat_eq card (SLASH ∷ SLASH ∷ BLANK ∷ [])

-- a separator: a card that ends data, or a card between jobs
abbrev pub is_separator : List ℕ → Bool
is_separator card = is_data_end card || is_job_end card

-- the first card of a job: any card but a separator
abbrev pub begins_job : List ℕ → Bool
begins_job card = not (is_separator card)

-- a card that ends the job after its data have ended
abbrev pub closes_job : List ℕ → Bool
closes_job card = is_job_end card || is_statement card

-- the first place, from `from` on, whose card passes a test; the number of cards if none does
abbrev pub next_place : (List ℕ → Bool) → List (List ℕ) → ℕ → ℕ
next_place test cards from = from + position_or_len test (drop from cards)

-- a text from its first nonblank code
abbrev pub from_word : List ℕ → List ℕ
from_word text = drop (prefix_len is_blank text) text

-- the first word of a text, and the text after it
abbrev pub word_of : List ℕ → List ℕ
word_of text = take (prefix_len is_mark (from_word text)) (from_word text)

abbrev pub behind_word : List ℕ → List ℕ
behind_word text = drop (prefix_len is_mark (from_word text)) (from_word text)

-- the first and the second word after the `//` of a card
abbrev pub first_word : List ℕ → List ℕ
first_word card = word_of (drop 2 card)

abbrev pub second_word : List ℕ → List ℕ
second_word card = word_of (behind_word (drop 2 card))

-- a card that may continue the parameters of a statement
abbrev pub is_continuation : List ℕ → Bool
is_continuation card = is_statement card && not (length (first_word card) == 0)
