-- Texts of characters, and the codes that they have on cards.
use Rattle.std.specs.Prelude.{ℕ, ◌-◌, ◌==◌, ◌&&◌, Bool, List, [], ◌∷◌, ◌++◌, length, replicate, is_some, if◌then◌else◌}
use Rattle.s3_cards.specs.Codes.{ebcdic, ebcdic_of, host_of}
use Rattle.s3_cards.specs.declared.ebcdic.TheConstants.{BLANK}

-- a blank of a text
abbrev pub space : ℕ
space = 32

abbrev pub has_character : ℕ → Bool
has_character code = is_some (host_of code)

abbrev pub has_code : ℕ → Bool
has_code character = is_some (ebcdic_of character)

-- without the blanks at its end
unfoldable pub trimmed : List ℕ → List ℕ
trimmed [] = []
trimmed (x ∷ xs) = if (x == space) && (length (trimmed xs) == 0) then [] else x ∷ trimmed xs

-- the codes of a text, filled up with blanks to the length of a field
abbrev pub text_bytes : ℕ → List ℕ → List ℕ
text_bytes width text = ebcdic text ++ replicate (width - length text) BLANK
