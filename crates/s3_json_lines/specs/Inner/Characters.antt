-- The characters of EBCDIC codes, as bytes of text.
use Rattle.std.specs.Prelude.{ℕ, List}
use Rattle.std.specs.Char.{encode_utf8}
use Rattle.std.specs.List.{flat_map}
use Rattle.s3_cards.specs.Codes.{shown_byte}

-- the text of EBCDIC codes, with `?` for a code that has no character
abbrev pub text_of : List ℕ → List ℕ
text_of codes = flat_map (λ code. encode_utf8 (shown_byte code)) codes
