-- The keywords of statements.
use Rattle.std.specs.Prelude.{ℕ, List, Bool, nat_eq}
use Rattle.std.specs.Cmp.Lexicographic.{pointwise}

-- whether a text is this word
abbrev pub reads : List ℕ → List ℕ → Bool
reads text word = pointwise nat_eq text word
