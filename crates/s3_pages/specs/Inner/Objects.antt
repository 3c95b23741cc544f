-- A file of objects, with a table of where each begins.
use Rattle.std.specs.Prelude.{ℕ, ◌+◌, ◌-◌, List, [], ◌∷◌, ◌++◌, codes, length}
use Rattle.std.specs.Fmt.{decimal}
use Rattle.std.specs.List.{flat_map}
use Rattle.s3_cards.specs.Numbers.{in_digits}

-- an object: its number, and what it is
unfoldable pub object_text : ℕ → List ℕ → List ℕ
object_text number body = decimal number ++ codes " 0 obj\n" ++ body ++ codes "\nendobj\n"

-- objects one after another, numbered from a first number on
abbrev pub numbered : ℕ → List (List ℕ) → List (List ℕ)
numbered number [] = []
numbered number (body ∷ bodies) = object_text number body ∷ numbered (number + 1) bodies

-- texts one after another
abbrev pub joined : List (List ℕ) → List ℕ
joined texts = flat_map (λ text. text) texts

-- where each of them begins, from the place of the first one on
abbrev pub places : ℕ → List (List ℕ) → List ℕ
places at [] = []
places at (text ∷ texts) = at ∷ places (at + length text) texts

-- the entry of an object: its place in ten digits
unfoldable pub entry_text : ℕ → List ℕ
entry_text at = in_digits 10 at ++ codes " 00000 n \n"

-- the table of the objects' places, after an entry for the number 0, which none has
unfoldable pub table_text : List ℕ → List ℕ
table_text starts = codes "xref\n0 " ++ decimal (length starts + 1) ++ codes "\n0000000000 65535 f \n" ++ flat_map entry_text starts

-- what a reader begins with: how many objects there are, the last but one as their root and the last one as what is reported of them,
-- and where the table is
unfoldable pub trailer_text : (count at : ℕ) → List ℕ
trailer_text count at =
    codes "trailer\n<< /Size " ++ decimal (count + 1) ++ codes " /Root " ++ decimal (count - 1) ++ codes " 0 R /Info " ++ decimal count
    ++ codes " 0 R >>\nstartxref\n" ++ decimal at ++ codes "\n%%EOF\n"

-- the first line of a file, of nine bytes
abbrev pub first_line : List ℕ
first_line = codes "%PDF-1.4\n"

-- a file of these objects
unfoldable pub file_of : List (List ℕ) → List ℕ
file_of bodies =
    let texts : List (List ℕ) = numbered 1 bodies in
    first_line ++ joined texts ++ table_text (places 9 texts) ++ trailer_text (length bodies) (9 + length (joined texts))
