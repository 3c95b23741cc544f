-- The numbers of the two levels, and the other level of each.
use Rattle.std.specs.Prelude.{ℕ}
use Rattle.s3_cards.specs.declared.levels.LevelId.{LevelId}
use Rattle.s3_cards.specs.declared.levels.LevelId.TheVariants.{One, Two}

abbrev pub level_number : LevelId → ℕ
level_number One = 1
level_number Two = 2

-- the other level
abbrev pub other : LevelId → LevelId
other One = Two
other Two = One
