-- No level learns about the other one. If two packs are alike in what a level can read, runs over them give the level the same texts and
-- files. Everything else on the packs may differ, and so may the other level's deck and entries.
use Rattle.std.specs.Prelude.{◌≡◌, ◌⊎◌, ℕ, List, slice_get}
use Rattle.std.specs.List.{Contains}
use Rattle.s3_cards.specs.declared.levels.LevelId.{LevelId}
use Rattle.s3_store.specs.Stretches.{sectors_in}
use Rattle.s3_store.specs.declared.stretch.Stretch.{Stretch}
use Rattle.s3_slots.specs.Header.{quota_of, region_of}
use Rattle.s3_slots.specs.Placement.{free_stretches}
use Rattle.s3_slots.specs.Slots.{standing}
use Rattle.s3_slots.specs.Stretches.{IsIn}
use Rattle.s3_slots.specs.declared.header.Header.{Header}
use Rattle.s3_slots.specs.declared.label.FileLabel.{FileLabel}
use Rattle.s3_slots.specs.declared.slot.Standing.TheVariants.{Present}
use Rattle.s3_labels.specs.Areas.{IsLabelSector, area_of}
use Rattle.s3_job_files.specs.Files.{Area, area_on}
use Rattle.s3_job_files.specs.Kept.{kept_on}
use Rattle.s3_solo.specs.declared.action.Action.{Action}
use Rattle.s3_solo.specs.World.{at_start}
use Rattle.s3_bureau.specs.Entries.{own}
use Rattle.s3_bureau.specs.Runs.{level_texts, outcome_texts, run_alone}
use Rattle.s3_bureau.specs.Sharing.{IsOwn}
use Rattle.s3_bureau.specs.Inner.CompletedRuns.{CompletedRun, WasUntangled, area_left, contents_after, contents_before, deck_at, masters_left, texts_at, world_at}

-- a sector that a level can read: of its own labels or region, or of the masters' labels or region
abbrev pub IsReadable : LevelId → Header → ℕ → Type 0
IsReadable level header n = IsOwn level header n ⊎ (IsLabelSector 0 n ⊎ IsIn header.masters n)

-- Two packs are alike for a level if their headers have the same format, region and quota of this level, and region of the masters, and if
-- each sector that the level can read is the same. Everything else may differ: the other level's region, quota, labels and files, the spool
-- blocks, the unused sectors, the rest of the header, and the number of sectors.
pub record AreAlike (level : LevelId) (header other_header : Header) (contents other_contents : List (List ℕ)) : Type 0 where
  pub format : other_header.format ≡ header.format
  pub region : region_of level other_header ≡ region_of level header
  pub quota : quota_of level other_header ≡ quota_of level header
  pub masters : other_header.masters ≡ header.masters
  pub sectors : (n : ℕ) → IsReadable level header n → slice_get other_contents n ≡ slice_get contents n

-- with one deck and the same entries, the level has the same world at the start, world at the end and texts over both packs
pub record MeansSame (level : LevelId) (header other_header : Header) (contents other_contents : List (List ℕ)) : Type 0 where
  pub start : (cards : List (List ℕ)) → at_start level other_header other_contents cards ≡ at_start level header contents cards
  pub world : (cards : List (List ℕ)) (actions : List Action) → run_alone level other_header other_contents cards actions ≡ run_alone level header contents cards actions
  pub texts : (deck : List ℕ) (actions : List Action) → level_texts level other_header other_contents deck actions ≡ level_texts level header contents deck actions

abbrev pub AlikeMeansSame : Type 0
AlikeMeansSame =
    (level : LevelId) (header other_header : Header) (contents other_contents : List (List ℕ))
    → AreAlike level header other_header contents other_contents → MeansSame level header other_header contents other_contents

-- Two runs give a level the same input: what it can read of the pack, its deck, and its entries.
pub record BringsSame (level : LevelId) (run other_run : CompletedRun) : Type 0 where
  pub pack : AreAlike level run.header other_run.header (contents_before run) (contents_before other_run)
  pub deck : deck_at level other_run ≡ deck_at level run
  pub entries : own level other_run.entries ≡ own level run.entries

-- Two runs give a level the same results: its texts, the masters, and for each label of its own files at the end the records and whether
-- the index is good. If none of its slots had an overlapping or duplicate label, all that a mount finds in its area is the same.
pub record GetsSame (level : LevelId) (run other_run : CompletedRun) : Type 0 where
  pub texts : texts_at level (outcome_texts other_run.outcome) ≡ texts_at level (outcome_texts run.outcome)
  pub files : (label : FileLabel) → standing label.name (world_at level run).pack.own.slots ≡ Present label → kept_on label (contents_after other_run) ≡ kept_on label (contents_after run)
  pub masters : masters_left other_run ≡ masters_left run
  pub own_area : WasUntangled level run → area_left level other_run ≡ area_left level run

abbrev pub NoLevelLearns : Type 0
NoLevelLearns = (level : LevelId) (run other_run : CompletedRun) → BringsSame level run other_run → GetsSame level run other_run

-- ---- free space
-- the free extents of an area: what its valid slots leave of its region
abbrev pub free_in : Area → List Stretch
free_in area = free_stretches area.region area.slots

-- a level's own area on a pack
abbrev pub own_area : LevelId → Header → (contents : List (List ℕ)) → Area
own_area level header contents = area_on header.format (region_of level header) (area_of level) contents

-- over two packs the level has the same free extents, with the same bytes
pub record HaveSameSpace (level : LevelId) (header other_header : Header) (contents other_contents : List (List ℕ)) : Type 0 where
  pub extents : free_in (own_area level other_header other_contents) ≡ free_in (own_area level header contents)
  pub sectors : (n : ℕ) → Contains (sectors_in (free_in (own_area level header contents))) n → slice_get other_contents n ≡ slice_get contents n

abbrev pub AlikeHaveSameSpace : Type 0
AlikeHaveSameSpace =
    (level : LevelId) (header other_header : Header) (contents other_contents : List (List ℕ))
    → AreAlike level header other_header contents other_contents → HaveSameSpace level header other_header contents other_contents

-- If two runs give a level the same input, they leave it the same free extents, provided that none of its slots had an overlapping or
-- duplicate label. The bytes in these extents aren't specified.
abbrev pub RunsLeaveSameSpace : Type 0
RunsLeaveSameSpace =
    (level : LevelId) (run other_run : CompletedRun) → BringsSame level run other_run → WasUntangled level run
    → free_in (area_left level other_run) ≡ free_in (area_left level run)
