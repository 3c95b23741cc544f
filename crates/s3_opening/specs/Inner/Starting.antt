-- Making and opening a job's files, one after another, once all tests have passed.
use Rattle.std.specs.Prelude.{◌≡◌, ◌≤◌, ℕ, true, false, List, [], ◌∷◌, ◌++◌, map, length, slice_get, is_some, option_map, Option, Some, None, Result, Ok, ⊤}
use Rattle.std.specs.List.{Contains, list_any}
use Rattle.s3_cards.specs.declared.levels.LevelId.{LevelId}
use Rattle.s3_cards.specs.declared.name.Name.{Name}
use Rattle.s3_cards.specs.Names.{same_name}
use Rattle.s3_lines.specs.declared.sheet.FileLine.{FileLine}
use Rattle.s3_ocl.specs.declared.contents.FileStatement.{FileStatement}
use Rattle.s3_operator.specs.declared.halt_code.HaltCode.{HaltCode}
use Rattle.s3_slots.specs.Inner.Kept.{IsOfPack}
use Rattle.s3_slots.specs.Labels.{is_indexed, sectors_of}
use Rattle.s3_slots.specs.Making.{made, new_label}
use Rattle.s3_slots.specs.Slots.{standing}
use Rattle.s3_slots.specs.declared.label.FileLabel.{FileLabel}
use Rattle.s3_slots.specs.declared.making.NewFile.{NewFile}
use Rattle.s3_slots.specs.declared.slot.Standing.TheVariants.{Present}
use Rattle.s3_labels.specs.Inner.Areas.{Areas, region_at, slots_at, with_slots, IsReady as IsPackReady}
use Rattle.s3_job_files.specs.Kept.{kept_on}
use Rattle.s3_job_files.specs.Files.{FilesInUse, area_by}
use Rattle.s3_job_files.specs.Inner.Holds.{Seen, AreOf, IsReady, Stands, Holds, HoldsRecords, job_file_of}
use Rattle.s3_job_files.specs.declared.file.OpenFile.{OpenFile}
use Rattle.s3_opening.specs.declared.starts.Start.{Start}
use Rattle.s3_opening.specs.declared.starts.Start.TheVariants.{Opened, ToMake}
use Rattle.s3_opening.specs.Asked.{key_length_of, key_start_of}
use Rattle.s3_opening.specs.Opening.{first_kept, statement_of, with_file}
use Rattle.s3_opening.specs.Inner.Tests.{label_of, taken, taken_one}
use Rattle.s3_opening.specs.Inner.Starts.{step_in, AreRight, IsPlanned}
use Rattle.s3_opening.specs.Inner.OpenFiles.{HoldsStarted, IsOfLine}

-- ---- making one file
-- A file is made: in the regions only its own sectors have changed, it has its label, and its records are those of a new file.
pub record IsMade (level : LevelId) (new : NewFile) (label : FileLabel) (areas new_areas : Areas) (old fresh : List (List ℕ)) : Type 0 where
  pub slots : made areas.header.format (region_at level areas) areas.masters new (slots_at level areas) ≡ Ok (slots_at level new_areas)
  pub alone : new_areas ≡ with_slots level (slots_at level new_areas) areas
  pub ready : IsPackReady new_areas fresh
  pub count : length fresh ≡ length old
  pub on_pack : IsOfPack (length fresh) label
  pub fresh_label : label ≡ new_label new label.extents
  pub stands : standing label.name (slots_at level new_areas) ≡ Present label
  pub same : (n : ℕ) → 168 ≤ n → ¬ Contains (sectors_of label) n → slice_get fresh n ≡ slice_get old n
  pub kept : kept_on label fresh ≡ first_kept new

-- the new file is opened
pub record IsOpenedNew (name : Name) (label : FileLabel) (contents : List (List ℕ)) (file : OpenFile) : Type 0 where
  pub is : file ≡ record file { name = name; label = label; is_master = false; is_made = true; read = 0; updates = 0; chained = None }
  pub of_label : AreOf label contents file.records
  pub holds : HoldsRecords contents file (kept_on label contents)

-- ---- the file of a step
-- the file was opened, or it is the new file that was made
abbrev pub IsFrom : Start → OpenFile → Type 0
IsFrom (Opened file) opened = opened ≡ file
IsFrom (ToMake name new) opened = (opened.name ≡ name) × ((opened.is_master ≡ false) × (opened.label ≡ new_label new opened.label.extents))

-- the files of these steps, one by one
abbrev pub AreFrom : List Start → List OpenFile → Type 0
AreFrom [] [] = ⊤
AreFrom (start ∷ starts) (file ∷ files) = IsFrom start file × AreFrom starts files
AreFrom [] (file ∷ files) = ⊥
AreFrom (start ∷ starts) [] = ⊥

-- the files of these steps are appended to the open files
pub record AddsFiles (starts : List Start) (old new : List OpenFile) : Type 0 where
  pub more : List OpenFile
  pub behind : new ≡ old ++ more
  pub from : AreFrom starts more

-- ---- the remaining steps
-- none of these names is among those before it
abbrev pub AreNew : (before : List Name) → List Name → Type 0
AreNew before [] = ⊤
AreNew before (name ∷ names) = (list_any (λ one. same_name one name) before ≡ false) × AreNew (before ++ name ∷ []) names

abbrev pub labels_open : List OpenFile → List Name
labels_open files = map (λ file. file.label.name) files

abbrev pub labels_left : List Start → List Name
labels_left starts = map (λ start. label_of (step_in start)) starts

-- with these files open, the remaining steps meet no refusal
pub record CanStart (level : LevelId) (open_files : List OpenFile) (seen : Seen) (starts : List Start) : Type 0 where
  pub ready : IsReady level open_files seen
  pub right : AreRight level seen starts
  pub planned : IsPlanned level seen.areas (map step_in starts)
  pub new : AreNew (labels_open open_files) (labels_left starts)

-- ---- one step
-- the open files represent the files of the step, except the step's own file, which isn't appended yet
pub record IsHeldFor (level : LevelId) (open_files : List OpenFile) (seen : Seen) (file : OpenFile) (came : Result FilesInUse HaltCode) : Type 0 where
  pub before : FilesInUse
  pub is : came ≡ Ok (with_file (job_file_of file) before)
  pub holds : Holds level open_files seen before
  pub records : HoldsRecords seen.contents file ((area_by file.is_master before.files).kept file.label.name)

-- the file of a step can be appended
pub record Readies (level : LevelId) (start : Start) (file : OpenFile) (old new : Seen) : Type 0 where
  pub from : IsFrom start file
  pub stands : Stands level new file
  pub label : file.label.name ≡ label_of (step_in start)
  pub ready : (items : List OpenFile) → CanStart level items old (start ∷ []) → IsReady level items new
  pub left : (items : List OpenFile) (rest : List Start) → CanStart level items old (start ∷ rest)
      → AreRight level new rest × IsPlanned level new.areas (map step_in rest)
  pub holds : (items : List OpenFile) (in_use : FilesInUse) → CanStart level items old (start ∷ []) → Holds level items old in_use
      → IsHeldFor level items new file (taken_one (step_in start) in_use)

-- the file of a step is appended
pub record Starts (level : LevelId) (start : Start) (old_files new_files : List OpenFile) (old new : Seen) : Type 0 where
  pub adds : AddsFiles (start ∷ []) old_files new_files
  pub can : (rest : List Start) → CanStart level old_files old (start ∷ rest) → CanStart level new_files new rest
  pub holds : (in_use : FilesInUse) → CanStart level old_files old (start ∷ []) → Holds level old_files old in_use
      → HoldsStarted level new_files new (taken_one (step_in start) in_use)

-- ---- steps one after another
-- each state that was represented by some files is represented by those and the files of these steps
abbrev pub HoldsAll : LevelId → List Start → (items later : List OpenFile) → (old new : Seen) → Type 0
HoldsAll level starts items later old new = (in_use : FilesInUse) → Holds level items old in_use → HoldsStarted level later new (taken (map step_in starts) in_use)

-- the files of all steps are appended
pub record StartsAll (level : LevelId) (starts : List Start) (old_files new_files : List OpenFile) (old new : Seen) : Type 0 where
  pub adds : AddsFiles starts old_files new_files
  pub ready : IsReady level new_files new
  pub holds : HoldsAll level starts old_files new_files old new

-- ---- of which lines the steps are
-- the new file that a line asks for
pub record IsAskedBy (line : FileLine) (new : NewFile) : Type 0 where
  pub record_length : new.record_length ≡ line.record_length
  pub indexed : is_indexed new.organization ≡ is_some line.key
  pub key_length : new.key_length ≡ key_length_of line.key
  pub key_start : new.key_start ≡ key_start_of line.key

abbrev pub SuitsLine : FileLine → Start → Type 0
SuitsLine line (Opened file) = IsOfLine line file
SuitsLine line (ToMake name new) = (name ≡ line.name) × IsAskedBy line new

-- the label that the FILE statement of a name gives
abbrev pub label_by : List FileStatement → Name → Option Name
label_by statements name = option_map (λ (statement : FileStatement). statement.label) (statement_of name statements)

pub record IsStartOf (statements : List FileStatement) (line : FileLine) (start : Start) : Type 0 where
  pub suits : SuitsLine line start
  pub stated : label_by statements line.name ≡ Some (label_of (step_in start))

-- the steps of these lines, one by one
abbrev pub AreStartsOf : List FileStatement → List FileLine → List Start → Type 0
AreStartsOf statements [] [] = ⊤
AreStartsOf statements (line ∷ lines) (start ∷ starts) = IsStartOf statements line start × AreStartsOf statements lines starts
AreStartsOf statements [] (start ∷ starts) = ⊥
AreStartsOf statements (line ∷ lines) [] = ⊥
