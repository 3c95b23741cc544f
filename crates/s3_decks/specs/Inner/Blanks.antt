-- Blank lines at the end of a deck file.
use Rattle.std.specs.Prelude.{◌≡◌, ◌≤◌, ◌<◌, ◌+◌, ◌-◌, ◌==◌, ℕ, List, Option, Some, None, false, length, drop, position, slice_index, if◌then◌else◌}
use Rattle.std.specs.Char.{is_ascii_whitespace}
use Rattle.std.specs.Str.{IsAsciiWhitespaceFrom}

-- the place after the first line feed from a place on, or the length of the text
abbrev pub after_line : List ℕ → ℕ → Option ℕ → ℕ
after_line text place None = length text
after_line text place (Some more) = place + more + 1

-- the place after the line that a place is in
abbrev pub line_end : List ℕ → ℕ → ℕ
line_end text place = after_line text place (position (λ byte. byte == 10) (drop place text))

-- where the cards of a text end, given the place from which on it has white space alone
abbrev pub cards_end : List ℕ → ℕ → ℕ
cards_end text last = if last == 0 then 0 else line_end text last

-- so many bytes at the front of a text are its cards: all up to the end of the line with its last byte that is no white space
abbrev pub HasCards : List ℕ → ℕ → Type 0
HasCards text len = (last : ℕ) × (last ≤ length text) × IsAsciiWhitespaceFrom text last × (0 < last → is_ascii_whitespace (slice_index text (last - 1)) ≡ false) × (len ≡ cards_end text last)
