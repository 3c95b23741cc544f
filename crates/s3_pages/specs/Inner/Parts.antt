-- The printed lines of a level, by the job that printed them.
use Rattle.std.specs.Prelude.{ℕ, List, [], ◌∷◌, drop, take}
use Rattle.s3_cards.specs.Printed.{Printed}

-- so many lines for each job, and the rest for the last one
abbrev pub parts_of : List ℕ → List Printed → List (List Printed)
parts_of [] lines = lines ∷ []
parts_of (count ∷ counts) lines = take count lines ∷ parts_of counts (drop count lines)
