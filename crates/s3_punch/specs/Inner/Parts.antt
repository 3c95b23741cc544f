-- What part of a deck a card is in.
use Rattle.std.specs.Prelude.{ℕ, ◌==◌, ◌&&◌, ◌||◌, not, List, [], ◌∷◌, Bool, true, false, codes, drop, length, nat_eq, take, if◌then◌else◌}
use Rattle.std.specs.Cmp.Lexicographic.{pointwise}
use Rattle.std.specs.List.{prefix_len, starts_with}
use Rattle.s3_punch.specs.declared.part.Part.{Part}
use Rattle.s3_punch.specs.declared.part.Part.TheVariants.{Statements, ToCompile, ToRun, Source, Data}

abbrev pub is_blank : ℕ → Bool
is_blank byte = byte == 32

abbrev pub is_mark : ℕ → Bool
is_mark byte = not (is_blank byte)

abbrev pub from_word : List ℕ → List ℕ
from_word text = drop (prefix_len is_blank text) text

-- the first word of a text, and the text after it
abbrev pub word_of : List ℕ → List ℕ
word_of text = take (prefix_len is_mark (from_word text)) (from_word text)

abbrev pub behind_word : List ℕ → List ℕ
behind_word text = drop (prefix_len is_mark (from_word text)) (from_word text)

-- a card that begins `/*` or `/&`
abbrev pub is_separator : List ℕ → Bool
is_separator card = starts_with nat_eq card (47 ∷ 42 ∷ []) || starts_with nat_eq card (47 ∷ 38 ∷ [])

-- a card that begins `//` and a blank, be it one of the blanks after its text
abbrev pub is_statement : List ℕ → Bool
is_statement card = starts_with nat_eq card (47 ∷ 47 ∷ []) && (length card == 2 || starts_with nat_eq card (47 ∷ 47 ∷ 32 ∷ []))

-- the first and the second word after the `//` of a card
abbrev pub keyword : List ℕ → List ℕ
keyword card = word_of (drop 2 card)

abbrev pub parameters : List ℕ → List ℕ
parameters card = word_of (behind_word (drop 2 card))

-- whether the first of some parameters is the compiler's name
abbrev pub names_compiler : List ℕ → Bool
names_compiler text = pointwise nat_eq text (codes "$RPG") || starts_with nat_eq text (codes "$RPG,")

-- after LOAD, unless one is before
abbrev pub behind_load : Part → List ℕ → Part
behind_load Statements card = if names_compiler (parameters card) then ToCompile else ToRun
behind_load part card = part

-- after RUN
abbrev pub behind_run : Part → Part
behind_run ToCompile = Source
behind_run part = Data

abbrev pub behind_statement : Part → List ℕ → Part
behind_statement part card =
    if pointwise nat_eq (keyword card) (codes "RUN") then behind_run part
    else if pointwise nat_eq (keyword card) (codes "LOAD") then behind_load part card
    else part

-- whether cards of a part are sources or data, up to a separator
abbrev pub is_behind_run : Part → Bool
is_behind_run Source = true
is_behind_run Data = true
is_behind_run part = false

abbrev pub is_data : Part → Bool
is_data Data = true
is_data part = false

abbrev pub is_source : Part → Bool
is_source Source = true
is_source part = false

-- the part after a card that is in a part
abbrev pub part_behind : Part → List ℕ → Part
part_behind part card =
    if is_separator card then Statements
    else if not (is_behind_run part) && is_statement card then behind_statement part card
    else part
