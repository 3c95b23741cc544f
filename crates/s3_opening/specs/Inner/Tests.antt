-- The tests of a job's files, by the slots and the sectors of a pack alone.
use Rattle.std.specs.Prelude.{ℕ, Bool, false, not, ◌&&◌, List, [], ◌∷◌, ◌++◌, Option, Some, None, Result, Ok, Err, filter_map, if◌then◌else◌}
use Rattle.std.specs.List.{list_any}
use Rattle.s3_lines.specs.Files.{is_only_read}
use Rattle.s3_cards.specs.declared.levels.LevelId.{LevelId}
use Rattle.s3_cards.specs.declared.name.Name.{Name}
use Rattle.s3_cards.specs.Names.{same_name}
use Rattle.s3_lines.specs.declared.sheet.FileLine.{FileLine}
use Rattle.s3_ocl.specs.declared.contents.FileStatement.{FileStatement}
use Rattle.s3_operator.specs.declared.halt_code.HaltCode.{HaltCode}
use Rattle.s3_operator.specs.declared.halt_code.HaltCode.TheVariants.{NoLabel, DamagedLabel, DuplicateLabel, MasterForUpdate, LabelMismatch}
use Rattle.s3_slots.specs.Inner.Making.{found}
use Rattle.s3_slots.specs.declared.label.FileLabel.{FileLabel}
use Rattle.s3_slots.specs.declared.making.LabelFault.{LabelFault}
use Rattle.s3_slots.specs.declared.making.LabelFault.TheVariants.{NotFound}
use Rattle.s3_slots.specs.declared.making.NewFile.{NewFile}
use Rattle.s3_labels.specs.Inner.Areas.{slots_at}
use Rattle.s3_job_files.specs.Kept.{kept_on}
use Rattle.s3_job_files.specs.Files.{JobFile, FilesInUse}
use Rattle.s3_job_files.specs.Inner.Holds.{Seen}
use Rattle.s3_opening.specs.Asked.{is_used, is_new, is_of_layout, new_file}
use Rattle.s3_opening.specs.Opening.{Settings, job_file, with_file, make_file, refusal_of, statement_of, unless_halted}

-- the step for a file: it is opened, or it is made with the name by which the program knows it
pub data Step : Type 0 where
  Opens : JobFile → Step
  Makes : (name : Name) → NewFile → Step

abbrev pub label_of : Step → Name
label_of (Opens file) = file.label
label_of (Makes name new) = new.name

-- ---- the files after the steps
abbrev pub taken_one : Step → FilesInUse → Result FilesInUse HaltCode
taken_one (Opens file) so_far = Ok (with_file file so_far)
taken_one (Makes name new) so_far = make_file name new so_far

-- the steps one after another, up to the first halt
unfoldable pub taken : List Step → FilesInUse → Result FilesInUse HaltCode
taken [] so_far = Ok so_far
taken (step ∷ steps) so_far = unless_halted (taken_one step so_far) (taken steps)

-- ---- tests of one file
-- what a line refuses in an existing file, apart from its index
unfoldable pub line_refusal : FileLine → (is_master : Bool) → FileLabel → Option HaltCode
line_refusal line is_master label =
    if is_master && not (is_only_read line) then Some MasterForUpdate
    else (if not (is_of_layout line label) then Some LabelMismatch else None)

abbrev pub tested : Option HaltCode → JobFile → Result JobFile HaltCode
tested (Some code) file = Err code
tested None file = Ok file

abbrev pub tested_standing : FileLine → (is_master : Bool) → FileLabel → List (List ℕ) → Result JobFile HaltCode
tested_standing line is_master label contents =
    tested (refusal_of line is_master label (kept_on label contents).has_good_index) (job_file line.name label.name is_master false)

abbrev pub halt_of_find : LabelFault → HaltCode
halt_of_find NotFound = NoLabel
halt_of_find _ = DamagedLabel

abbrev pub tested_found : FileLine → List (List ℕ) → Result (FileLabel × Bool) LabelFault → Result JobFile HaltCode
tested_found line contents (Ok found) = tested_standing line found.1 found.0 contents
tested_found line contents (Err fault) = Err (halt_of_find fault)

-- a file that is to be opened
abbrev pub tested_file : LevelId → Seen → FileLine → Name → Result JobFile HaltCode
tested_file level seen line label = tested_found line seen.contents (found label (slots_at level seen.areas) seen.areas.masters)

abbrev pub opening : Result JobFile HaltCode → Result Step HaltCode
opening (Ok file) = Ok (Opens file)
opening (Err code) = Err code

-- an earlier file has this label
abbrev pub is_label_of : Name → List Step → Bool
is_label_of label steps = list_any (λ step. same_name (label_of step) label) steps

abbrev pub step_stated : LevelId → Seen → List ℕ → List Step → FileLine → Option FileStatement → Result Step HaltCode
step_stated level seen date steps line None = Err NoLabel
step_stated level seen date steps line (Some statement) =
    if is_label_of statement.label steps then Err DuplicateLabel
    else (if is_new line then Ok (Makes line.name (new_file date line statement)) else opening (tested_file level seen line statement.label))

-- the step of a file that the job uses, after these steps
unfoldable pub step_of : LevelId → Seen → Settings → List Step → FileLine → Result Step HaltCode
step_of level seen settings steps line = step_stated level seen settings.date steps line (statement_of line.name settings.statements)

-- ---- all files
-- the steps up to the first refusal, and that refusal
pub record Tested : Type 0 where
  pub steps : List Step
  pub refused : Option HaltCode

abbrev pub passed : List Step → Tested
passed steps = record { steps = steps; refused = None }

abbrev pub refused_at : List Step → HaltCode → Tested
refused_at steps code = record { steps = steps; refused = Some code }

abbrev pub behind : List Step → Result Step HaltCode → (List Step → Tested) → Tested
behind steps (Ok step) go = go (steps ++ step ∷ [])
behind steps (Err code) go = refused_at steps code

unfoldable pub tested_lines : LevelId → Seen → Settings → List FileLine → List Step → Tested
tested_lines level seen settings [] steps = passed steps
tested_lines level seen settings (line ∷ lines) steps =
    if is_used settings.switches line
    then behind steps (step_of level seen settings steps line) (tested_lines level seen settings lines)
    else tested_lines level seen settings lines steps

-- the files to be made
abbrev pub new_of : Step → Option NewFile
new_of (Opens file) = None
new_of (Makes name new) = Some new

abbrev pub news_of : List Step → List NewFile
news_of steps = filter_map new_of steps

-- the steps over files, and then the refusal
abbrev pub ending : Option HaltCode → FilesInUse → Result FilesInUse HaltCode
ending None so_far = Ok so_far
ending (Some code) so_far = Err code

abbrev pub finished : Tested → FilesInUse → Result FilesInUse HaltCode
finished tested so_far = unless_halted (taken tested.steps so_far) (ending tested.refused)
