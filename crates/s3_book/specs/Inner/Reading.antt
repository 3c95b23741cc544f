-- A report read back from its page, as a browser shows it: tags aren't shown, and entities are characters.
use Rattle.std.specs.Prelude.{ℕ, ◌==◌, Bool, not, List, [], ◌∷◌, ◌++◌, if◌then◌else◌}
use Rattle.std.specs.List.{list_all}

-- where a reader is: in text, at the first character of a tag or an entity, or further on in one
pub data Place : Type 0 where
  in_text : Place
  at_tag : Place
  in_tag : Place
  at_entity : Place
  in_entity : Place

-- where a reader is after a character
abbrev pub after : Place → ℕ → Place
after in_text byte = if byte == 60 then at_tag else if byte == 38 then at_entity else in_text
after at_tag byte = in_tag
after in_tag byte = if byte == 62 then in_text else in_tag
after at_entity byte = in_entity
after in_entity byte = if byte == 59 then in_text else in_entity

-- what a tag stands for, by its first letter: `p` begins a text over the line, `s` begins a page
abbrev pub of_tag : ℕ → List ℕ
of_tag letter = if letter == 112 then 13 ∷ [] else if letter == 115 then 12 ∷ [] else []

-- the character of an entity, by its first letter
abbrev pub of_entity : ℕ → ℕ
of_entity letter =
    if letter == 97 then 38
    else if letter == 108 then 60
    else if letter == 103 then 62
    else if letter == 113 then 34
    else 39

-- what a reader gets of a character
abbrev pub gets : Place → ℕ → List ℕ
gets in_text byte = if byte == 60 then [] else if byte == 38 then [] else byte ∷ []
gets at_tag byte = of_tag byte
gets in_tag byte = []
gets at_entity byte = of_entity byte ∷ []
gets in_entity byte = []

-- what a reader gets of a text
abbrev pub read : Place → List ℕ → List ℕ
read place [] = []
read place (byte ∷ bytes) = gets place byte ++ read (after place byte) bytes

-- a text has no such byte
abbrev pub has_none : ℕ → List ℕ → Bool
has_none byte bytes = list_all (λ other. not (other == byte)) bytes
