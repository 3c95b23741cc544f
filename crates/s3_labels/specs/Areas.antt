-- The area of a pack that belongs to a level, and the sectors of an area's labels.
use Rattle.std.specs.Prelude.{◌<◌, ◌≤◌, ◌+◌, ℕ}
use Rattle.s3_cards.specs.declared.levels.LevelId.{LevelId}
use Rattle.s3_cards.specs.declared.levels.LevelId.TheVariants.{One, Two}
use Rattle.s3_slots.specs.Slots.{labels_at}

abbrev pub area_of : LevelId → ℕ
area_of One = 1
area_of Two = 2

-- ---- which sectors a call may change
-- a sector of the labels of an area
abbrev pub IsLabelSector : ℕ → ℕ → Type 0
IsLabelSector area n = (labels_at area ≤ n) × (n < labels_at area + 8)
