-- Extents and records of the worked examples.
use Rattle.std.specs.Prelude.{ℕ, List, [], ◌∷◌, replicate}
use Rattle.s3_store.specs.declared.stretch.Stretch.{Stretch}

-- three tracks, and two tracks after them, with two tracks of another file between
abbrev pub two_pieces : List Stretch
two_pieces = record { start = 456; sectors = 72 } ∷ record { start = 576; sectors = 48 } ∷ []

abbrev pub two_sectors : List Stretch
two_sectors = record { start = 2; sectors = 1 } ∷ record { start = 4; sectors = 1 } ∷ []

abbrev pub split_contents : List (List ℕ)
split_contents = [] ∷ [] ∷ replicate 256 1 ∷ replicate 256 9 ∷ replicate 256 2 ∷ []

abbrev pub a : List ℕ
a = 1 ∷ []

abbrev pub b : List ℕ
b = 2 ∷ []

abbrev pub c : List ℕ
c = 3 ∷ []
