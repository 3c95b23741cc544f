-- A level's files, the masters' files, and the files that its job uses.
use Rattle.std.specs.Prelude.{ℕ, Bool, true, false, List, slice_get, slice_set, Option, Some, None, if◌then◌else◌}
use Rattle.std.specs.List.{position_from}
use Rattle.s3_cards.specs.declared.levels.LevelId.{LevelId}
use Rattle.s3_cards.specs.declared.name.Name.{Name}
use Rattle.s3_cards.specs.Names.{same_name}
use Rattle.s3_store.specs.declared.stretch.Stretch.{Stretch}
use Rattle.s3_slots.specs.Header.{region_of}
use Rattle.s3_slots.specs.Slots.{standing, slots_of}
use Rattle.s3_slots.specs.declared.header.Format.{Format}
use Rattle.s3_slots.specs.declared.header.Header.{Header}
use Rattle.s3_slots.specs.declared.label.FileLabel.{FileLabel}
use Rattle.s3_slots.specs.declared.slot.Slot.{Slot}
use Rattle.s3_slots.specs.declared.slot.Standing.{Standing}
use Rattle.s3_slots.specs.declared.slot.Standing.TheVariants.{Present}
use Rattle.s3_labels.specs.Areas.{area_of}
use Rattle.s3_job_files.specs.Kept.{Kept, kept_under}

-- an area: its region, its slots, and for the label of each valid slot the records of its file
pub record Area : Type 0 where
  pub region : Stretch
  pub slots : List Slot
  pub kept : Name → Kept

-- the files that a level sees, on a pack of this format
pub record Files : Type 0 where
  pub format : Format
  pub own : Area
  pub masters : Area

-- A file of the running job. Its label has the count of records at the job's start, since counts are set when the file is closed.
pub record JobFile : Type 0 where
  -- the name by which the program knows the file
  pub name : Name
  pub label : Name
  pub is_master : Bool
  -- whether the job made the file
  pub is_made : Bool
  -- how many of its records were read
  pub read : ℕ
  -- the place of the record that CHAIN read last, from 0
  pub chained : Option ℕ

-- the files of a level, and those that its job uses
pub record FilesInUse : Type 0 where
  pub files : Files
  pub job_files : List JobFile

-- ---- on a pack
-- the files of an area with these slots
abbrev pub area_of_slots : Stretch → List (List ℕ) → List Slot → Area
area_of_slots region contents slots = record { region = region; slots = slots; kept = λ name. kept_under contents (standing name slots) }

-- area 0 is the masters' area
abbrev pub area_on : Format → Stretch → ℕ → List (List ℕ) → Area
area_on format region area contents = area_of_slots region contents (slots_of format region area contents)

-- the files of a level on a pack
unfoldable pub files_on : LevelId → Header → List (List ℕ) → Files
files_on level header contents =
    record {
      format = header.format;
      own = area_on header.format (region_of level header) (area_of level) contents;
      masters = area_on header.format header.masters 0 contents;
    }

-- ---- changes of an area
abbrev pub put_kept : Name → Kept → Area → Area
put_kept name kept area = record area { kept = λ other. if same_name other name then kept else area.kept other }

abbrev pub put_records : Name → List (List ℕ) → Area → Area
put_records name records area = put_kept name (record (area.kept name) { records = records }) area

-- ---- the files of the running job
-- a file at present: its place in the list of files, its label, and its records on the pack
pub record FileAtWork : Type 0 where
  pub place : ℕ
  pub file : JobFile
  pub label : FileLabel
  pub records : List (List ℕ)

abbrev pub area_by : (is_master : Bool) → Files → Area
area_by true files = files.masters
area_by false files = files.own

abbrev pub area_with : JobFile → Files → Area
area_with file files = area_by file.is_master files

abbrev pub labelled : ℕ → JobFile → List (List ℕ) → Standing → Option FileAtWork
labelled place file records (Present label) = Some (record { place = place; file = file; label = label; records = records })
labelled place file records _ = None

abbrev pub as_it_stands : Files → ℕ → Option JobFile → Option FileAtWork
as_it_stands files place None = None
as_it_stands files place (Some file) =
    labelled place file ((area_with file files).kept file.label).records (standing file.label (area_with file files).slots)

abbrev pub file_at : FilesInUse → Option ℕ → Option FileAtWork
file_at in_use None = None
file_at in_use (Some place) = as_it_stands in_use.files place (slice_get in_use.job_files place)

-- the place of the file that the program knows by this name
abbrev pub place_named : Name → List JobFile → Option ℕ
place_named name job_files = position_from (λ file. same_name file.name name) 0 job_files

-- the file that the program knows by this name
abbrev pub file_at_work : Name → FilesInUse → Option FileAtWork
file_at_work name in_use = file_at in_use (place_named name in_use.job_files)

abbrev pub with_job_file : ℕ → JobFile → FilesInUse → FilesInUse
with_job_file place file in_use = record in_use { job_files = slice_set in_use.job_files place file }
