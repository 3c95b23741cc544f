-- When the open files of a job, with the pack, represent the files of a level; and their representation invariant.
use Rattle.std.specs.Prelude.{◌≡◌, ◌≤◌, ℕ, Bool, true, false, not, ◌&&◌, List, [], ◌∷◌, length, map, slice_get, Option, Some, None}
use Rattle.std.specs.List.{list_any}
use Rattle.s3_cards.specs.declared.levels.LevelId.{LevelId}
use Rattle.s3_cards.specs.declared.name.Name.{Name}
use Rattle.s3_cards.specs.Names.{same_name}
use Rattle.s3_store.specs.declared.stretch.Stretch.{Stretch}
use Rattle.s3_slots.specs.Header.{region_of}
use Rattle.s3_slots.specs.Inner.Kept.{IsOfPack}
use Rattle.s3_slots.specs.Labels.{is_indexed, sectors_of}
use Rattle.s3_slots.specs.Slots.{standing}
use Rattle.s3_slots.specs.Stretches.{IsIn}
use Rattle.s3_slots.specs.declared.header.Header.{Header}
use Rattle.s3_slots.specs.declared.label.FileLabel.{FileLabel}
use Rattle.s3_slots.specs.declared.slot.Slot.{Slot}
use Rattle.s3_slots.specs.declared.slot.Standing.TheVariants.{Present}
use Rattle.s3_labels.specs.Inner.Areas.{Areas, slots_at, IsReady as IsPackReady}
use Rattle.s3_labels.specs.Areas.{area_of, IsLabelSector}
use Rattle.s3_files.specs.declared.sequential.Sequential.{Sequential}
use Rattle.s3_files.specs.Inner.Files.{FileShape, records as records_on}
use Rattle.s3_keyed.specs.Index.{layout_of}
use Rattle.s3_keyed.specs.Inner.Keyed.{KeyedFile, records_now, HasKeyOrder, shown as keyed_file}
use Rattle.s3_meaning.specs.Requests.{Answer}
use Rattle.s3_job_files.specs.declared.records.OpenRecords.{OpenRecords}
use Rattle.s3_job_files.specs.declared.records.OpenRecords.TheVariants.{InOrder, ByKey}
use Rattle.s3_job_files.specs.declared.file.OpenFile.{OpenFile}
use Rattle.s3_job_files.specs.Kept.{Kept, kept_on}
use Rattle.s3_job_files.specs.Files.{Area, Files, JobFile, FilesInUse, FileAtWork, area_by, file_at}
use Rattle.s3_job_files.specs.Requests.{Served, served_on}
use Rattle.s3_job_files.specs.Closing.{file_closed}

-- the slots and the sectors of the pack
pub record Seen : Type 0 where
  pub areas : Areas
  pub contents : List (List ℕ)

abbrev pub seen : Areas → List (List ℕ) → Seen
seen areas contents = record { areas = areas; contents = contents }

-- ---- the records of an open file
abbrev pub shape_of : Sequential → FileShape
shape_of file = record { sectors = file.sectors; record_length = file.record_length; capacity = file.capacity; count = file.count }

abbrev pub records_of : OpenRecords → List (List ℕ) → List (List ℕ)
records_of (InOrder file) contents = records_on (shape_of file) contents
records_of (ByKey file) contents = records_now (keyed_file file) contents

abbrev pub count_of : OpenRecords → ℕ
count_of (InOrder file) = file.count
count_of (ByKey file) = (keyed_file file).count

-- the file without an index that a label describes, with as many records as the label counts or more
pub record IsInOrder (label : FileLabel) (file : FileShape) : Type 0 where
  pub plain : is_indexed label.organization ≡ false
  pub sectors : file.sectors ≡ sectors_of label
  pub record_length : file.record_length ≡ label.record_length
  pub capacity : file.capacity ≡ label.capacity
  pub started : label.count ≤ file.count

-- the indexed file that a label describes; its count is the number of records when it was checked
pub record IsByKey (label : FileLabel) (file : KeyedFile) (contents : List (List ℕ)) : Type 0 where
  pub indexed : is_indexed label.organization ≡ true
  pub sectors : file.sectors ≡ sectors_of label
  pub layout : file.layout ≡ layout_of label
  pub started : file.started ≡ label.count
  pub order : HasKeyOrder file contents

abbrev pub AreOf : FileLabel → List (List ℕ) → OpenRecords → Type 0
AreOf label contents (InOrder file) = IsInOrder label (shape_of file)
AreOf label contents (ByKey file) = IsByKey label (keyed_file file) contents

-- an open file can be used: its label is one of the pack, and its records are those of the label
pub record IsUsable (contents : List (List ℕ)) (label : FileLabel) (records : OpenRecords) : Type 0 where
  pub on_pack : IsOfPack (length contents) label
  pub of_label : AreOf label contents records

-- ---- the representation invariant
abbrev pub slots_by : (is_master : Bool) → LevelId → Areas → List Slot
slots_by true level areas = areas.masters
slots_by false level areas = slots_at level areas

-- An open file has its label on the pack, as it was opened. A master has no more records than then.
pub record Stands (level : LevelId) (seen : Seen) (file : OpenFile) : Type 0 where
  pub sound : standing file.label.name (slots_by file.is_master level seen.areas) ≡ Present file.label
  pub records : AreOf file.label seen.contents file.records
  pub master : file.is_master ≡ true → count_of file.records ≡ file.label.count

-- each file has its label on the pack, and no two have one label
pub record AreOpen (level : LevelId) (open_files : List OpenFile) (seen : Seen) : Type 0 where
  pub stands : (i : ℕ) (file : OpenFile) → slice_get open_files i ≡ Some file → Stands level seen file
  pub distinct : (i j : ℕ) (first second : OpenFile) → slice_get open_files i ≡ Some first → slice_get open_files j ≡ Some second
      → same_name first.label.name second.label.name ≡ true → i ≡ j

-- requests can be served
pub record IsReady (level : LevelId) (open_files : List OpenFile) (seen : Seen) : Type 0 where
  pub pack : IsPackReady seen.areas seen.contents
  pub files : AreOpen level open_files seen

-- ---- the abstraction relation
abbrev pub job_file_of : OpenFile → JobFile
job_file_of file =
    record { name = file.name; label = file.label.name; is_master = file.is_master; is_made = file.is_made; read = file.read; chained = file.chained }

-- a file of the level's own is open under this label
abbrev pub is_open : Name → List OpenFile → Bool
is_open name files = list_any (λ file. not file.is_master && same_name file.label.name name) files

-- each file that isn't open has the records that the sectors have for its label
abbrev pub KeepsAll : List (List ℕ) → List OpenFile → Area → Type 0
KeepsAll contents files area =
    (label : FileLabel) → standing label.name area.slots ≡ Present label → is_open label.name files ≡ false → area.kept label.name ≡ kept_on label contents

pub record HoldsArea (region : Stretch) (slots : List Slot) (area : Area) : Type 0 where
  pub region_of_area : area.region ≡ region
  pub slots_of_area : area.slots ≡ slots

-- what is represented for an open file
pub record HoldsRecords (contents : List (List ℕ)) (file : OpenFile) (kept : Kept) : Type 0 where
  pub records : kept.records ≡ records_of file.records contents
  pub good : kept.has_good_index ≡ true

pub record HoldsFiles (level : LevelId) (open_files : List OpenFile) (seen : Seen) (files : Files) : Type 0 where
  pub format : files.format ≡ seen.areas.header.format
  pub own : HoldsArea (region_of level seen.areas.header) (slots_at level seen.areas) files.own
  pub masters : HoldsArea seen.areas.header.masters seen.areas.masters files.masters
  pub own_files : KeepsAll seen.contents open_files files.own
  -- no request changes the masters, so the open ones are represented by the sectors too
  pub master_files : KeepsAll seen.contents [] files.masters
  pub records : (i : ℕ) (file : OpenFile) → slice_get open_files i ≡ Some file
      → HoldsRecords seen.contents file ((area_by file.is_master files).kept file.label.name)

-- the files of a level, and those that its job uses
pub record Holds (level : LevelId) (open_files : List OpenFile) (seen : Seen) (in_use : FilesInUse) : Type 0 where
  pub files : HoldsFiles level open_files seen in_use.files
  pub job_files : in_use.job_files ≡ map job_file_of open_files

-- ---- what requests do
-- a request has this answer, and these files are represented afterwards
abbrev pub Meets : Answer → (FilesInUse → Type 0) → Option Served → Type 0
Meets answer new None = ⊥
Meets answer new (Some served) = (answer ≡ served.answer) × new served.in_use

-- for all represented files, the request to the file at this place is served with this answer
abbrev pub Serves : (FileAtWork → FilesInUse → Served) → (place : ℕ) → Answer → (old new : FilesInUse → Type 0) → Type 0
Serves serve place answer old new = (in_use : FilesInUse) → old in_use → Meets answer new (served_on serve (file_at in_use (Some place)) in_use)

-- A file is closed: it isn't open any more, and the represented files are then the same without it, closed.
pub record Closes (level : LevelId) (file : OpenFile) (old new : Seen) : Type 0 where
  pub ready : (rest : List OpenFile) → IsReady level (file ∷ rest) old → IsReady level rest new
  pub files : (rest : List OpenFile) (files : Files) → IsReady level (file ∷ rest) old → HoldsFiles level (file ∷ rest) old files
      → HoldsFiles level rest new (file_closed (job_file_of file) files)

-- the file at this place meets this predicate
abbrev pub AllAt : List OpenFile → (place : ℕ) → (OpenFile → Type 0) → Type 0
AllAt open_files place P = (file : OpenFile) → slice_get open_files place ≡ Some file → P file

-- a record of these bytes may be put into the file: the file is the level's own, and its records have this length
pub record TakesRecord (bytes : List ℕ) (file : OpenFile) : Type 0 where
  pub own : file.is_master ≡ false
  pub long : length bytes ≡ file.label.record_length

-- ---- what no request changes
-- the parts of an open file that never change: its name, its label as it was opened, and whether it is a master
pub record OpenedAs : Type 0 where
  pub name : Name
  pub label : FileLabel
  pub is_master : Bool

abbrev pub opened_as : OpenFile → OpenedAs
opened_as file = record { name = file.name; label = file.label; is_master = file.is_master }

-- ---- what a level can't reach
-- a sector that is neither of the labels nor of the region of a level
pub record IsOutOfReach (level : LevelId) (header : Header) (n : ℕ) : Type 0 where
  pub labels : IsLabelSector (area_of level) n → ⊥
  pub region : IsIn (region_of level header) n → ⊥
