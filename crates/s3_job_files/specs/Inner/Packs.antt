-- What calls for one level leave unchanged on the pack. Contracts of public calls use only `KeepsOthers`.
use Rattle.std.specs.Prelude.{◌≡◌, ◌+◌, Result, OnOk}
use Rattle.s3_cards.specs.declared.levels.LevelId.{LevelId}
use Rattle.s3_store.specs.Inner.Failures.{failed_transfers}
use Rattle.s3_store.specs.Inner.State.{PoolState, ChangesWithin, KeepsInStep}
use Rattle.s3_store.specs.declared.sector_fault.SectorFault.{SectorFault}
use Rattle.s3_labels.specs.Areas.{area_of, IsLabelSector}
use Rattle.s3_labels.specs.Inner.Areas.{Areas, slots_at, with_slots, IsReady as IsPackReady}
use Rattle.s3_labels.specs.Inner.Labelled.{KeepsSaid}
use Rattle.s3_job_files.specs.Inner.Holds.{IsOutOfReach}

-- Refused or not, the pack can be used. The slots of the masters and of the other level, and all sectors that the level can't reach, are
-- unchanged.
pub record KeepsOthers (level : LevelId) (old new : Areas) (s t : PoolState) : Type 0 where
  pub pack : IsPackReady new t.contents
  pub areas : new ≡ with_slots level (slots_at level new) old
  pub sectors : KeepsInStep (IsOutOfReach level old.header) s t

-- The masters and the other level are unchanged, and each failed transfer is counted. If labels gave the level's slots before, they do so
-- after an answer.
pub record LeavesPack {T : Type 0} (level : LevelId) (result : Result T SectorFault) (old new : Areas) (s t : PoolState) : Type 0 where
  pub others : KeepsOthers level old new s t
  pub says : OnOk result (KeepsSaid level old s.contents new t.contents)
  pub failures : t.failures ≡ s.failures + failed_transfers result

-- The same statement; in addition, only the sectors of the level's labels change.
pub record ChangesLabels {T : Type 0} (level : LevelId) (result : Result T SectorFault) (old new : Areas) (s t : PoolState) : Type 0 where
  pub within : ChangesWithin (IsLabelSector (area_of level)) s t
  pub leaves : LeavesPack level result old new s t
