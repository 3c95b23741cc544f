-- Which sectors of a pack belong to a level, which are unused, and which are common: those of the header and the masters, and the unused
-- ones.
use Rattle.std.specs.Prelude.{◌≡◌, ◌⊎◌, ◌≤◌, ◌<◌, ℕ}
use Rattle.s3_cards.specs.declared.levels.LevelId.{LevelId}
use Rattle.s3_slots.specs.Header.{region_of}
use Rattle.s3_slots.specs.Stretches.{IsIn}
use Rattle.s3_slots.specs.declared.header.Header.{Header}
use Rattle.s3_labels.specs.Areas.{IsLabelSector, area_of}

-- ---- the sectors of a pack
-- a sector of a level's labels or of its region
abbrev pub IsOwn : LevelId → Header → ℕ → Type 0
IsOwn level header n = IsLabelSector (area_of level) n ⊎ IsIn (region_of level header) n

-- a sector of no level, and of no block for queued lines
pub record IsSpare (header : Header) (n : ℕ) : Type 0 where
  pub own : (level : LevelId) → IsOwn level header n → ⊥
  pub block : 25 ≤ n → n < 153 → ⊥

-- a sector of the header, of the masters' labels or region, or an unused one
abbrev pub IsCommon : Header → ℕ → Type 0
IsCommon header n = (n ≡ 0) ⊎ (IsLabelSector 0 n ⊎ (IsIn header.masters n ⊎ IsSpare header n))
