-- The open files at the start of a job: which files they represent, and that they are those of the F lines.
use Rattle.std.specs.Prelude.{◌≡◌, ℕ, true, false, List, [], ◌∷◌, filter, slice_get, is_some, Some, Result, Ok, Err, ⊤}
use Rattle.s3_lines.specs.Files.{is_only_read}
use Rattle.s3_cards.specs.declared.levels.LevelId.{LevelId}
use Rattle.s3_cards.specs.Names.{same_name}
use Rattle.s3_lines.specs.declared.sheet.FileLine.{FileLine}
use Rattle.s3_operator.specs.declared.halt_code.HaltCode.{HaltCode}
use Rattle.s3_slots.specs.Labels.{is_indexed}
use Rattle.s3_slots.specs.declared.label.FileLabel.{FileLabel}
use Rattle.s3_job_files.specs.Files.{FilesInUse}
use Rattle.s3_job_files.specs.Inner.Holds.{Holds, Seen}
use Rattle.s3_job_files.specs.declared.file.OpenFile.{OpenFile}
use Rattle.s3_job_files.specs.declared.job_files.JobFiles.{JobFiles}
use Rattle.s3_opening.specs.declared.fault.OpeningFault.{OpeningFault}
use Rattle.s3_opening.specs.declared.fault.OpeningFault.TheVariants.{Halted, Sectors}
use Rattle.s3_opening.specs.Asked.{is_used, key_length_of, key_start_of}

-- ---- what the open files represent
-- the start gives files, and the open files represent them
abbrev pub HoldsStarted : LevelId → List OpenFile → Seen → Result FilesInUse HaltCode → Type 0
HoldsStarted level open_files pack (Ok in_use) = Holds level open_files pack in_use
HoldsStarted level open_files pack (Err code) = ⊥

-- the open files represent the files that the start gives, or the start halts as meant
abbrev pub StartsAs : LevelId → Seen → Result FilesInUse HaltCode → Result JobFiles OpeningFault → Type 0
StartsAs level pack meant (Ok job_files) = HoldsStarted level job_files.files.items pack meant
StartsAs level pack meant (Err (Halted code)) = meant ≡ Err code
StartsAs level pack meant (Err (Sectors fault)) = ⊤

-- what follows if the fault is a halt
abbrev pub IfHalted : OpeningFault → Type 0 → Type 0
IfHalted (Halted code) P = P
IfHalted (Sectors fault) P = ⊤

-- ---- of which lines the files are
-- how a file agrees with its F line, before any request to it and after
pub record IsLaidOutAs (line : FileLine) (label : FileLabel) : Type 0 where
  pub record_length : label.record_length ≡ line.record_length
  pub indexed : is_indexed label.organization ≡ is_some line.key
  pub key_length : label.key_length ≡ key_length_of line.key
  pub key_start : label.key_start ≡ key_start_of line.key

-- the file of an F line; it may be a master's if the line only reads it
pub record IsOfLine (line : FileLine) (file : OpenFile) : Type 0 where
  pub name : file.name ≡ line.name
  pub layout : IsLaidOutAs line file.label
  pub own : is_only_read line ≡ false → file.is_master ≡ false

-- the files of these lines, one by one
abbrev pub AreOfEach : List FileLine → List OpenFile → Type 0
AreOfEach [] [] = ⊤
AreOfEach (line ∷ lines) (file ∷ files) = IsOfLine line file × AreOfEach lines files
AreOfEach [] (file ∷ files) = ⊥
AreOfEach (line ∷ lines) [] = ⊥

-- the files are those of the lines that the job uses, in order, and no two have one name
pub record AreOfLines (switches : ℕ) (lines : List FileLine) (files : List OpenFile) : Type 0 where
  pub each : AreOfEach (filter (is_used switches) lines) files
  pub distinct : (i j : ℕ) (first second : OpenFile) → slice_get files i ≡ Some first → slice_get files j ≡ Some second
      → same_name first.name second.name ≡ true → i ≡ j
