-- A printed line, and its text without blanks at the end.
use Rattle.std.specs.Prelude.{ℕ, ◌==◌, List, [], ◌∷◌, if◌then◌else◌}

-- the page and the line, each from 1, and the EBCDIC codes that were printed there
pub record Printed : Type 0 where
  pub page : ℕ
  pub line : ℕ
  pub text : List ℕ

-- a code before a text without blanks at its end
abbrev pub before_trimmed : ℕ → List ℕ → List ℕ
before_trimmed code [] = if code == 0x40 then [] else code ∷ []
before_trimmed code (next ∷ rest) = code ∷ next ∷ rest

-- a text without the blanks at its end
abbrev pub trimmed : List ℕ → List ℕ
trimmed [] = []
trimmed (code ∷ codes) = before_trimmed code (trimmed codes)
