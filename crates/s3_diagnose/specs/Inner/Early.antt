-- Places of lines far below the largest number, as for all lines in memory.
use Rattle.std.specs.Prelude.{ℕ, ◌+◌, ◌^◌, ◌<◌, ◌≤◌, Option, Some, None}
use Rattle.s3_program.specs.declared.standing.CalculationStanding.{CalculationStanding}
use Rattle.s3_diagnose.specs.declared.standing.Standing.{Standing}

abbrev pub IsPlaced : Option ℕ → Type 0
IsPlaced None = Unit {0}
IsPlaced (Some place) = place + 8 < 2 ^ 64

pub record IsEarly (at : CalculationStanding) : Type 0 where
  pub place : at.place + 8 < 2 ^ 64
  pub subroutine : IsPlaced at.subroutine

pub record IsEarlyLine (at : Standing) : Type 0 where
  pub files : at.files.place + 8 < 2 ^ 64
  pub inputs : at.inputs.place + 8 < 2 ^ 64
  pub calculations : IsEarly at.calculations

-- the place is one of the first n
abbrev pub IsPlacedWithin : ℕ → Option ℕ → Type 0
IsPlacedWithin n None = Unit {0}
IsPlacedWithin n (Some place) = place < n

pub record IsWithin (n : ℕ) (at : CalculationStanding) : Type 0 where
  pub place : at.place ≤ n
  pub subroutine : IsPlacedWithin n at.subroutine

pub record IsLineWithin (n : ℕ) (at : Standing) : Type 0 where
  pub files : at.files.place ≤ n
  pub inputs : at.inputs.place ≤ n
  pub calculations : IsWithin n at.calculations
