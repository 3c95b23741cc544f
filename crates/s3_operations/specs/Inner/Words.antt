-- Texts as numbers.
use Rattle.std.specs.Prelude.{ℕ, ◌+◌, ◌*◌, ◌^◌, List, [], ◌∷◌, length}

-- the number whose digits to the base 256 are the codes, the first code highest
abbrev pub number_of : List ℕ → ℕ
number_of [] = 0
number_of (code ∷ codes) = code * 256 ^ length codes + number_of codes
