-- What is posted of a deck: the text of its cards.
use Rattle.std.specs.Prelude.{ℕ, ◌==◌, List, [], ◌∷◌, Bool, true, false, ◌&&◌, ◌||◌, if◌then◌else◌}

-- whether a rest of a text begins with the end of a line, or is empty
abbrev pub ends_line : List ℕ → Bool
ends_line [] = true
ends_line (next ∷ rest) = next == 10

-- a byte before a rest of a text; a blank or a carriage return before the end of a line goes
abbrev pub before_end : ℕ → List ℕ → List ℕ
before_end byte rest = if (byte == 0x20 || byte == 13) && ends_line rest then rest else byte ∷ rest

-- a text without the blanks and carriage returns at the ends of its lines
abbrev pub cards_of : List ℕ → List ℕ
cards_of [] = []
cards_of (byte ∷ bytes) = before_end byte (cards_of bytes)
