-- The card characters and their EBCDIC codes.
use Rattle.std.specs.Prelude.{ℕ, ◌+◌, ◌==◌, List, [], ◌∷◌, ◌++◌, Option, codes, find, map, unwrap_or}
use Rattle.std.specs.Option.{option_map}

-- the codes from a first one on, each with its character
abbrev pub codes_from : ℕ → List ℕ → List (ℕ × ℕ)
codes_from code [] = []
codes_from code (character ∷ characters) = (code, character) ∷ codes_from (code + 1) characters

-- each code with its character, in the order of the codes
unfoldable pub code_page : List (ℕ × ℕ)
code_page =
    codes_from 0x40 (codes " ") ++ codes_from 0x4b (codes ".<(+|&") ++ codes_from 0x5a (codes "!$*);") ++ codes_from 0x60 (codes "-/")
    ++ codes_from 0x6b (codes ",%_>?") ++ codes_from 0x7a (codes ":#@'=\"") ++ codes_from 0xc0 (codes "{ABCDEFGHI")
    ++ codes_from 0xd0 (codes "}JKLMNOPQR") ++ codes_from 0xe2 (codes "STUVWXYZ") ++ codes_from 0xf0 (codes "0123456789")

-- the code of a character, if it is a card character
abbrev pub ebcdic_of : ℕ → Option ℕ
ebcdic_of character = option_map (λ entry. entry.0) (find (λ entry. entry.1 == character) code_page)

-- the character of a code, if it has one
abbrev pub host_of : ℕ → Option ℕ
host_of code = option_map (λ entry. entry.1) (find (λ entry. entry.0 == code) code_page)

-- the byte that shows an EBCDIC code: its character, or a question mark
abbrev pub shown_byte : ℕ → ℕ
shown_byte code = unwrap_or (host_of code) 0x3f

-- the codes of a text of card characters
unfoldable pub ebcdic : List ℕ → List ℕ
ebcdic characters = map (λ character. unwrap_or (ebcdic_of character) 0) characters
