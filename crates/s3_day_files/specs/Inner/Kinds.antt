-- Scripts, logs and decks by their first bytes.
use Rattle.std.specs.Prelude.{ℕ, Bool, ◌||◌, List, codes, nat_eq}
use Rattle.std.specs.List.{starts_with}
use Rattle.s3_day_files.specs.declared.kind.Kind.{Kind}
use Rattle.s3_day_files.specs.declared.kind.Kind.TheVariants.{Script, Log, Deck}

abbrev pub begins : List ℕ → List ℕ → Bool
begins bytes mark = starts_with nat_eq bytes mark

-- a script begins with an entry of a level: turns, drains or a reply; a log with the time of an event; a deck with a statement
abbrev pub is_begun_as : Kind → List ℕ → Bool
is_begun_as Script bytes =
    begins bytes (codes "T1") || (begins bytes (codes "T2") || (begins bytes (codes "D1") || (begins bytes (codes "D2") || (begins bytes (codes "R1") || begins bytes (codes "R2")))))
is_begun_as Log bytes = begins bytes (codes "{\"at\":")
is_begun_as Deck bytes = begins bytes (codes "//")
