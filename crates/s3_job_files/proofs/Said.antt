-- What the labels of a level say while its files are at work, and at their end.
use Rattle.std.proofs.Common.{◌≡◌, ℕ, false, List, Result, Ok, Err, OnOk, arith, sym, subst}
use Rattle.std.specs.List.{Contains}
use Rattle.s3_cards.specs.declared.levels.LevelId.{LevelId}
use Rattle.s3_store.specs.Inner.State.{PoolState, ChangesWithin, KeepsContents}
use Rattle.s3_slots.specs.Labels.{sectors_of}
use Rattle.s3_slots.specs.Slots.{standing}
use Rattle.s3_slots.specs.declared.label.FileLabel.{FileLabel}
use Rattle.s3_slots.specs.declared.slot.Standing.TheVariants.{Present}
use Rattle.s3_labels.specs.Inner.Areas.{Areas, region_at, slots_at, IsReady as IsPackReady}
use Rattle.s3_labels.specs.Inner.Labelled.{KeepsSaid, SaysSlots}
use Rattle.s3_labels.proofs.Labelled.{says_kept}
use Rattle.s3_labels.proofs.Makes.{few_areas}
use Rattle.s3_labels.proofs.Regions.{ready_region}
use Rattle.s3_job_files.specs.declared.file.OpenFile.{OpenFile}
use Rattle.s3_job_files.specs.Inner.Holds.{Stands, seen}
use Rattle.s3_job_files.proofs.Putting.{own_sound}
use Rattle.s3_job_files.proofs.Standings.{present_inside}

-- the sectors of a file are none of the labels
pub file_says : (level : LevelId) (areas : Areas) (s t : PoolState) (file : FileLabel) → IsPackReady areas s.contents → standing file.name (slots_at level areas) ≡ Present file
    → ChangesWithin (Contains (sectors_of file)) s t → KeepsSaid level areas s.contents areas t.contents
file_says level areas s t file pack is within =
    says_kept level areas s.contents t.contents (λ n of_labels. within.contents n (λ inside.
    let low = (ready_region level areas s.contents pack).low in
    let in_region = present_inside (region_at level areas) (slots_at level areas) file.name file n (pack.own level) is inside in
    omega (arith, few_areas level, of_labels.1, low, in_region.0)))

pub own_says : (level : LevelId) (areas : Areas) (s t : PoolState) (file : OpenFile) → IsPackReady areas s.contents → Stands level (seen areas s.contents) file → file.is_master ≡ false
    → ChangesWithin (Contains (sectors_of file.label)) s t → KeepsSaid level areas s.contents areas t.contents
own_says level areas s t file pack stands own within = file_says level areas s t file.label pack (own_sound level (seen areas s.contents) file stands own) within

-- what changes neither a slot nor a sector
pub said_same : (level : LevelId) (old new : Areas) (s t : PoolState) → KeepsContents s t → new ≡ old → KeepsSaid level old s.contents new t.contents
said_same level old new s t keeps same said =
    subst (λ (areas : Areas). SaysSlots level areas t.contents) (sym same) (subst (λ (contents : List (List ℕ)). SaysSlots level old contents) (sym keeps.contents) said)

-- one call after another
pub said_then : {T E : Type 0} (result : Result T E) (level : LevelId) (old middle new : Areas) (s t u : List (List ℕ)) → KeepsSaid level old s middle t → OnOk result (KeepsSaid level middle t new u)
    → OnOk result (KeepsSaid level old s new u)
said_then (Ok answer) level old middle new s t u first second = λ said. second (first said)
said_then (Err fault) level old middle new s t u first second = tt
