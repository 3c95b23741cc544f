-- A page of HTML as a list of parts.
use Rattle.std.specs.Prelude.{ℕ, ◌==◌, List, [], ◌∷◌, codes, if◌then◌else◌}
use Rattle.std.specs.List.{flat_map}
use Rattle.s3_cards.specs.Numbers.{in_digits}
use Rattle.s3_book.specs.declared.part.Part.{Part}
use Rattle.s3_book.specs.declared.part.Part.TheVariants as rust

-- a byte of a value: its entity, if it has a meaning in HTML
abbrev pub escaped : ℕ → List ℕ
escaped byte =
    if byte == 38 then codes "&amp;"
    else if byte == 60 then codes "&lt;"
    else if byte == 62 then codes "&gt;"
    else if byte == 34 then codes "&quot;"
    else if byte == 39 then codes "&#39;"
    else byte ∷ []

-- a byte of a file's name in a link: its code, if it has a meaning there
abbrev pub linked : ℕ → List ℕ
linked byte =
    if byte == 35 then codes "%23"
    else if byte == 37 then codes "%25"
    else if byte == 63 then codes "%3F"
    else escaped byte

-- a byte of a report as text: a line feed ends a line, a carriage return begins a text over the line, a form feed begins a page
abbrev pub marked : ℕ → List ℕ
marked byte =
    if byte == 10 then codes "</div>\n<div>"
    else if byte == 13 then codes "</div><p></p><div>"
    else if byte == 12 then codes "</div></section><section><div>"
    else escaped byte

-- a part of a page
pub data Piece : Type 0 where
  markup : List ℕ → Piece
  value : List ℕ → Piece
  link : List ℕ → Piece
  report : List ℕ → Piece
  number : ℕ → Piece

-- the bytes of a part
abbrev pub bytes_of : Piece → List ℕ
bytes_of (markup text) = text
bytes_of (value text) = flat_map escaped text
bytes_of (link name) = flat_map linked name
bytes_of (report text) = flat_map marked text
bytes_of (number n) = in_digits 1 n

-- the bytes of a page
unfoldable pub page_of : List Piece → List ℕ
page_of pieces = flat_map bytes_of pieces

-- the part that a value of the code is
abbrev pub piece_of : Part → Piece
piece_of (rust.Markup text) = markup text.now
piece_of (rust.Value text) = value text.now
piece_of (rust.Link name) = link name.now
piece_of (rust.Report text) = report text.now
piece_of (rust.Number n) = number n
