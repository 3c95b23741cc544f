-- Drawings of a thousand units.
use Rattle.std.specs.Prelude.{ℕ, Bool, ◌+◌, ◌-◌, ◌*◌, ◌/◌, max, min, nat_le}
use Rattle.s3_cards.specs.declared.levels.LevelId.{LevelId}
use Rattle.s3_cards.specs.declared.levels.LevelId.TheVariants.{One, Two}

-- the place of a number on a line from 0 to a whole, in thousandths
abbrev pub scaled : (whole n : ℕ) → ℕ
scaled whole n = min n whole * 1000 / max whole 1

-- how wide a part of a whole is, and never too narrow to be seen
abbrev pub width : (whole n : ℕ) → ℕ
width whole n = max (scaled whole n) 2

-- where a bar on the line of time begins, given the end of the bar before it
abbrev pub begin : (whole edge n : ℕ) → ℕ
begin whole edge n = min (max (scaled whole n) edge) 994

-- how wide a bar is that begins at a place and ends at a turn
abbrev pub span : (whole left n : ℕ) → ℕ
span whole left n = max (scaled whole n - left) 6

-- where a bar ends, given the end of the bar before it
abbrev pub end : (whole edge first last : ℕ) → ℕ
end whole edge first last = max (scaled whole last) (begin whole edge first + 6)

-- whether a label of so many letters fits into a bar of which a part is taken
abbrev pub fits : (wide taken letters : ℕ) → Bool
fits wide taken letters = nat_le letters ((wide - taken) / 11)

-- where the bars of a level are, from the top
abbrev pub lane : LevelId → ℕ
lane One = 0
lane Two = 34
