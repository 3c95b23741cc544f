-- The parts of a session's input, between its markers.
use Rattle.std.specs.Prelude.{ℕ, ◌-◌, ◌==◌, nat_eq, Bool, ◌&&◌, List, [], ◌∷◌, length, take, slice_index, Option, Some, None, codes, if◌then◌else◌}
use Rattle.std.specs.Str.Lines.{strip_carriage_return}
use Rattle.std.specs.List.{flat_map, list_any}
use Rattle.std.specs.Cmp.Lexicographic.{pointwise}

-- a byte before the first line
abbrev pub onto_first : ℕ → List (List ℕ) → List (List ℕ)
onto_first byte [] = (byte ∷ []) ∷ []
onto_first byte (line ∷ lines) = (byte ∷ line) ∷ lines

-- the lines of a text, each with the LF that ends it
abbrev pub whole_lines : List ℕ → List (List ℕ)
whole_lines [] = []
whole_lines (byte ∷ bytes) = if byte == 10 then (byte ∷ []) ∷ whole_lines bytes else onto_first byte (whole_lines bytes)

-- the text that such lines make
abbrev pub text_of : List (List ℕ) → List ℕ
text_of lines = flat_map (λ line. line) lines

-- the text of a line without its end, LF or CR LF
abbrev pub content_of : List ℕ → List ℕ
content_of line = if slice_index line (length line - 1) == 10 then strip_carriage_return (take (length line - 1) line) else line

-- a marker's line has only the marker
abbrev pub is_marker : List ℕ → List ℕ → Bool
is_marker word line = pointwise nat_eq (content_of line) word

-- the lines before the first marker with this word, and those after it
abbrev pub before_marker : List ℕ → List (List ℕ) → List (List ℕ)
before_marker word [] = []
before_marker word (line ∷ lines) = if is_marker word line then [] else line ∷ before_marker word lines

abbrev pub after_marker : List ℕ → List (List ℕ) → List (List ℕ)
after_marker word [] = []
after_marker word (line ∷ lines) = if is_marker word line then lines else after_marker word lines

abbrev pub has_marker : List ℕ → List (List ℕ) → Bool
has_marker word lines = list_any (is_marker word) lines

pub record Parts : Type 0 where
  pub deck1 : List ℕ
  pub deck2 : List ℕ
  pub script : List ℕ

abbrev pub deck1_word : List ℕ
deck1_word = codes ":deck1"

abbrev pub deck2_word : List ℕ
deck2_word = codes ":deck2"

abbrev pub script_word : List ℕ
script_word = codes ":script"

-- deck 1 goes from the first line to the first `:deck2`, deck 2 to the next `:script`, and the script is the rest;
-- none where a marker is missing
abbrev pub parts_from : List (List ℕ) → Option Parts
parts_from [] = None
parts_from (first ∷ more) =
    let second : List (List ℕ) = after_marker deck2_word more in
    if is_marker deck1_word first && (has_marker deck2_word more && has_marker script_word second)
    then Some (record {
      deck1 = text_of (before_marker deck2_word more);
      deck2 = text_of (before_marker script_word second);
      script = text_of (after_marker script_word second);
    })
    else None

unfoldable pub parts_of : List ℕ → Option Parts
parts_of input = parts_from (whole_lines input)
