-- The words of a line.
use Rattle.std.specs.Prelude.{◌≡◌, ℕ, ◌==◌, List, [], ◌∷◌, Bool, true, false, ◌||◌, not, filter}
use Rattle.std.specs.List.{slice_split, take_while}

-- words are divided by blanks, tabs and carriage returns, so that lines may end in CR LF
abbrev pub is_blank : ℕ → Bool
is_blank byte = byte == 32 || byte == 9 || byte == 13

abbrev pub is_some_word : List ℕ → Bool
is_some_word [] = false
is_some_word (byte ∷ bytes) = true

-- a word that begins with # begins a comment
abbrev pub is_no_comment : List ℕ → Bool
is_no_comment [] = true
is_no_comment (byte ∷ bytes) = not (byte == 35)

-- the words of a line before its comment
unfoldable pub words : List ℕ → List (List ℕ)
words line = take_while is_no_comment (filter is_some_word (slice_split is_blank line))

-- a text doesn't begin with a blank
abbrev pub BeginsWord : List ℕ → Type 0
BeginsWord [] = Unit {0}
BeginsWord (byte ∷ bytes) = is_blank byte ≡ false
