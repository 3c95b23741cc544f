-- The printed lines of a level, drained and queued, and its quota.
use Rattle.std.specs.Prelude.{ℕ, ◌+◌, ◌-◌, nat_lt, Bool, List, [], ◌∷◌, ◌++◌, length}
use Rattle.s3_cards.specs.Printed.{Printed}

-- the lines that were printed, how many of them were drained, and how many may be queued
pub record Lines : Type 0 where
  pub printed : List Printed
  pub drained : ℕ
  pub quota : ℕ

abbrev pub no_lines : (quota : ℕ) → Lines
no_lines quota = record { printed = []; drained = 0; quota = quota }

-- a line can be printed only while fewer lines are queued than the quota
abbrev pub has_room : Lines → Bool
has_room lines = nat_lt (length lines.printed - lines.drained) lines.quota

-- a line is added at the end
abbrev pub with_line : Printed → Lines → Lines
with_line line lines = record lines { printed = lines.printed ++ line ∷ [] }

-- some line is queued
abbrev pub is_queued : Lines → Bool
is_queued lines = nat_lt lines.drained (length lines.printed)

-- the first queued line is drained
abbrev pub with_drained : Lines → Lines
with_drained lines = record lines { drained = lines.drained + 1 }

-- all lines are drained
abbrev pub all_drained : Lines → Lines
all_drained lines = record lines { drained = length lines.printed }
