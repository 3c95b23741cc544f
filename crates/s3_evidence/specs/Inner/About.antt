-- What a halt is shown with is of its own level: of files that its job has in use, of its own area and of the masters.
use Rattle.std.specs.Prelude.{◌≡◌, ℕ, Bool, true, false, ◌&&◌, List, slice_range, Option, Some, None, nat_eq}
use Rattle.std.specs.Global.{Vec}
use Rattle.std.specs.Bool.{beq}
use Rattle.std.specs.List.{All, list_any}
use Rattle.s3_cards.specs.declared.levels.LevelId.{LevelId}
use Rattle.s3_cards.specs.declared.name.Name.{Name}
use Rattle.s3_cards.specs.Names.{same_name}
use Rattle.s3_store.specs.Bytes.{bytes_at}
use Rattle.s3_slots.specs.declared.label.FileLabel.{FileLabel}
use Rattle.s3_slots.specs.declared.slot.Standing.TheVariants.{Present}
use Rattle.s3_slots.specs.Labels.{is_indexed, sectors_of}
use Rattle.s3_slots.specs.Slots.{standing}
use Rattle.s3_labels.specs.Inner.Areas.{Areas}
use Rattle.s3_labels.specs.declared.area.Area.{Area}
use Rattle.s3_labels.specs.declared.area.Area.TheVariants.{Level, Masters}
use Rattle.s3_job_files.specs.Files.{JobFile}
use Rattle.s3_job_files.specs.Inner.Holds.{slots_by}
use Rattle.s3_solo.specs.World.{World}
use Rattle.s3_level.specs.Inner.Queries.{files_of}
use Rattle.s3_bureau.specs.Inner.Held.{HoldsFor, State}
use Rattle.s3_evidence.specs.declared.at_fault.Found.{Found}
use Rattle.s3_evidence.specs.declared.at_fault.Found.TheVariants as found
use Rattle.s3_evidence.specs.declared.evidence.Evidence.{Evidence}
use Rattle.s3_evidence.specs.declared.evidence.Evidence.TheVariants as evidence
use Rattle.s3_evidence.specs.declared.evidence.RecordRead.{RecordRead}
use Rattle.s3_evidence.specs.declared.wanted.Wanted.{Wanted}
use Rattle.s3_evidence.specs.declared.wanted.Wanted.TheVariants as wanted

-- ---- files
-- a job has a file in use under this label, its own or one of the masters
abbrev pub has_in_use : (is_master : Bool) → Name → JobFile → Bool
has_in_use is_master name file = beq file.is_master is_master && same_name file.label name

-- the label is that of a file which the level's job uses, as the pack has it
pub record IsInUse (level : LevelId) (bureau : State) (label : FileLabel) : Type 0 where
  pub is_master : Bool
  pub name : Name
  pub stands : standing name (slots_by is_master level bureau.beside.areas) ≡ Present label
  pub in_use : (w : World) → HoldsFor level bureau w → list_any (has_in_use is_master name) (files_of w.job) ≡ true

-- a label of the level's own area, or of the masters, is that of this file, which has an index
pub record HasIndex (level : LevelId) (areas : Areas) (name : Name) (label : FileLabel) : Type 0 where
  pub is_master : Bool
  pub stands : standing name (slots_by is_master level areas) ≡ Present label
  pub indexed : is_indexed label.organization ≡ true

-- ---- areas
-- the masters, or the level's own area
abbrev pub area_by : (is_master : Bool) → LevelId → Area
area_by true level = Masters
area_by false level = Level level

-- an area is the level's own, or the masters'
abbrev pub IsOwnArea : LevelId → Area → Type 0
IsOwnArea level area = (is_master : Bool) × (area ≡ area_by is_master level)

-- what a level finds under a label in the slots of the pack
abbrev pub IsFound : LevelId → Areas → Name → Found → Type 0
IsFound level areas name found.Nothing = Unit {0}
IsFound level areas name (found.Damage area) = IsOwnArea level area
IsFound level areas name (found.File label area) = (is_master : Bool) × ((area ≡ area_by is_master level) × (standing name (slots_by is_master level areas) ≡ Present label))

-- ---- what is to be read
abbrev pub IsWanted : LevelId → State → Wanted → Type 0
IsWanted level bureau wanted.Nothing = Unit {0}
IsWanted level bureau (wanted.Records label last before) = IsInUse level bureau label
IsWanted level bureau (wanted.Totals records) = All (λ one. IsInUse level bureau one.label) records.items
IsWanted level bureau (wanted.Slots places) = All (λ place. IsOwnArea level place.area) places.items
IsWanted level bureau (wanted.Indexes files) = All (λ file. HasIndex level bureau.beside.areas file.0 file.1) files.items

-- ---- what was read
-- these bytes are what the pack has in some of these sectors, end to end
pub record AreOfSectors (sectors : List ℕ) (contents : List (List ℕ)) (bytes : List ℕ) : Type 0 where
  pub numbers : List ℕ
  pub own : All (λ n. list_any (nat_eq n) sectors ≡ true) numbers
  pub whole : bytes ≡ bytes_at numbers contents

-- these bytes are a part of that
pub record IsPartOf (sectors : List ℕ) (contents : List (List ℕ)) (bytes : List ℕ) : Type 0 where
  pub all : List ℕ
  pub read : AreOfSectors sectors contents all
  pub from : ℕ
  pub to : ℕ
  pub part : bytes ≡ slice_range all from to

-- a record that is shown is of the file
abbrev pub IsRecordOf : FileLabel → (contents : List (List ℕ)) → Option (Vec ℕ) → Type 0
IsRecordOf label contents None = Unit {0}
IsRecordOf label contents (Some bytes) = IsPartOf (sectors_of label) contents bytes.items

-- a record that was read is of a file that the level's job has in use
abbrev pub IsReadInUse : LevelId → State → RecordRead → Type 0
IsReadInUse level bureau read = (label : FileLabel) × (IsInUse level bureau label × IsRecordOf label bureau.beside.state.contents (Some read.bytes))

-- What a halt of a level is shown with: records of files that the level's job has in use; slots of its own area or of the masters; indexes
-- of files of these.
abbrev pub IsAbout : LevelId → State → Evidence → Type 0
IsAbout level bureau evidence.Nothing = Unit {0}
IsAbout level bureau (evidence.Records last before) =
    (label : FileLabel) × (IsInUse level bureau label × (IsRecordOf label bureau.beside.state.contents last × IsRecordOf label bureau.beside.state.contents before))
IsAbout level bureau (evidence.Totals records) = All (IsReadInUse level bureau) records.items
IsAbout level bureau (evidence.Slots slots) = All (λ slot. IsOwnArea level slot.area) slots.items
IsAbout level bureau (evidence.Indexes indexes) = All (λ index. (label : FileLabel) × HasIndex level bureau.beside.areas index.label label) indexes.items
