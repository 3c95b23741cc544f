-- A migrated pack keeps the records: a run over the old pack and the same run over the migrated one leave the same.
use Rattle.std.specs.Prelude.{◌≡◌, ℕ, false, List, [], Ok}
use Rattle.s3_cards.specs.declared.levels.LevelId.{LevelId}
use Rattle.s3_slots.specs.Header.{mounted, region_of}
use Rattle.s3_slots.specs.Slots.{standing}
use Rattle.s3_slots.specs.declared.header.Format.TheVariants.{Second}
use Rattle.s3_slots.specs.declared.header.Header.{Header}
use Rattle.s3_slots.specs.declared.label.FileLabel.{FileLabel}
use Rattle.s3_slots.specs.declared.slot.Standing.TheVariants.{Present}
use Rattle.s3_labels.specs.Areas.{area_of}
use Rattle.s3_labels.specs.Contents.{contents_of}
use Rattle.s3_labels.specs.Inner.Images.{migrated}
use Rattle.s3_labels.specs.Untangled.{IsUntangled}
use Rattle.s3_job_files.specs.Kept.{kept_on}
use Rattle.s3_solo.specs.Inner.Formats.{shows_no_space}
use Rattle.s3_bureau.specs.Entries.{own}
use Rattle.s3_bureau.specs.Inner.CompletedRuns.{CompletedRun, WasUntangled, area_left, contents_after, masters_left, world_at}

-- the later run has the pack of the earlier one in the second format, with the same decks and the same script
pub record IsMigratedRun (earlier later : CompletedRun) : Type 0 where
  pub pack : migrated earlier.pack ≡ Ok later.pack
  pub deck1 : later.deck1 ≡ earlier.deck1
  pub deck2 : later.deck2 ≡ earlier.deck2
  pub script : later.script ≡ earlier.script

-- no halt NS (no space) was shown to a level in a run
abbrev pub HasSpace : LevelId → CompletedRun → Type 0
HasSpace level run = shows_no_space (world_at level run).halts ≡ false

-- Both runs leave the same masters, the same area of a level without an entry, and the same area of a level that had space and no
-- overlapping or duplicate label. If a level had space, each label of its own files at the end has the same records, in any case.
pub record KeepsRecords (earlier later : CompletedRun) : Type 0 where
  pub masters : masters_left later ≡ masters_left earlier
  pub idle : (level : LevelId) → own level earlier.entries ≡ [] → area_left level later ≡ area_left level earlier
  pub untangled : (level : LevelId) → HasSpace level earlier → WasUntangled level earlier → area_left level later ≡ area_left level earlier
  pub files : (level : LevelId) → HasSpace level earlier → (label : FileLabel) → standing label.name (world_at level earlier).pack.own.slots ≡ Present label
      → kept_on label (contents_after later) ≡ kept_on label (contents_after earlier)

abbrev pub MigratedRunsKeepRecords : Type 0
MigratedRunsKeepRecords = (earlier later : CompletedRun) → IsMigratedRun earlier later → KeepsRecords earlier later

-- if a level has no overlapping or duplicate label on the old pack, it has none on the migrated pack
abbrev pub MigratedIsUntangled : Type 0
MigratedIsUntangled =
    (old new : List ℕ) (header : Header) (level : LevelId) → mounted (contents_of old) ≡ Ok header → migrated old ≡ Ok new
    → IsUntangled header.format (region_of level header) (area_of level) (contents_of old) → IsUntangled Second (region_of level header) (area_of level) (contents_of new)
