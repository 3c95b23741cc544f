-- The files of a job at its start: which are made and which opened, or the first halt.
use Rattle.std.specs.Prelude.{ℕ, Bool, true, false, not, ◌&&◌, List, [], ◌∷◌, ◌++◌, replicate, find, Option, Some, None, Result, Ok, Err, if◌then◌else◌}
use Rattle.std.specs.List.{list_any}
use Rattle.s3_lines.specs.Files.{is_only_read}
use Rattle.s3_cards.specs.declared.name.Name.{Name}
use Rattle.s3_cards.specs.declared.ebcdic.TheConstants.{BLANK}
use Rattle.s3_cards.specs.Names.{same_name}
use Rattle.s3_lines.specs.declared.sheet.FileLine.{FileLine}
use Rattle.s3_ocl.specs.declared.contents.FileStatement.{FileStatement}
use Rattle.s3_operator.specs.declared.halt_code.HaltCode.{HaltCode}
use Rattle.s3_operator.specs.declared.halt_code.HaltCode.TheVariants.{NoLabel, DamagedLabel, MasterForUpdate, NoSpace, RetainedFile, DuplicateLabel, LabelMismatch, BadIndex}
use Rattle.s3_slots.specs.Labels.{is_direct}
use Rattle.s3_slots.specs.Making.{made, capacity_of}
use Rattle.s3_slots.specs.Slots.{standing}
use Rattle.s3_slots.specs.declared.label.FileLabel.{FileLabel}
use Rattle.s3_slots.specs.declared.making.LabelFault.{LabelFault}
use Rattle.s3_slots.specs.declared.making.LabelFault.TheVariants.{Master, DamagedLabel as DamagedFault, Retained}
use Rattle.s3_slots.specs.declared.making.NewFile.{NewFile}
use Rattle.s3_slots.specs.declared.slot.Slot.{Slot}
use Rattle.s3_slots.specs.declared.slot.Standing.{Standing}
use Rattle.s3_slots.specs.declared.slot.Standing.TheVariants.{Absent, Blocked, Present}
use Rattle.s3_job_files.specs.Kept.{Kept, nothing_kept}
use Rattle.s3_job_files.specs.Files.{Files, JobFile, FilesInUse, put_kept}
use Rattle.s3_opening.specs.Asked.{is_used, is_new, is_of_layout, new_file}

-- a file of the job before any request to it
abbrev pub job_file : Name → (label : Name) → (is_master is_made : Bool) → JobFile
job_file name label is_master is_made =
    record { name = name; label = label; is_master = is_master; is_made = is_made; read = 0; chained = None }

abbrev pub with_file : JobFile → FilesInUse → FilesInUse
with_file file so_far = record so_far { job_files = so_far.job_files ++ file ∷ [] }

-- ---- a file that is made
-- what a new file has: a direct file is full of blank records
abbrev pub first_kept : NewFile → Kept
first_kept new = if is_direct new.organization then record nothing_kept { records = replicate (capacity_of new) (replicate new.record_length BLANK) } else nothing_kept

-- the halt for a file that can't be made
abbrev pub halt_of_make : LabelFault → HaltCode
halt_of_make Master = MasterForUpdate
halt_of_make DamagedFault = DamagedLabel
halt_of_make Retained = RetainedFile
halt_of_make _ = NoSpace

abbrev pub with_new : NewFile → List Slot → Files → Files
with_new new slots files = record files { own = put_kept new.name (first_kept new) (record files.own { slots = slots }) }

abbrev pub after_make : Name → NewFile → FilesInUse → Result (List Slot) LabelFault → Result FilesInUse HaltCode
after_make name new so_far (Err fault) = Err (halt_of_make fault)
after_make name new so_far (Ok slots) =
    Ok (with_file (job_file name new.name false true) (record so_far { files = with_new new slots so_far.files }))

-- the new file replaces the level's old file of its label
unfoldable pub make_file : Name → NewFile → FilesInUse → Result FilesInUse HaltCode
make_file name new so_far =
    after_make name new so_far (made so_far.files.format so_far.files.own.region so_far.files.masters.slots new so_far.files.own.slots)

-- ---- a file that is opened
-- why an existing file can't be opened: a master may only be read, the layout must be the line's, and the index must be good
unfoldable pub refusal_of : FileLine → (is_master : Bool) → FileLabel → (has_good_index : Bool) → Option HaltCode
refusal_of line is_master label has_good_index =
    if is_master && not (is_only_read line) then Some MasterForUpdate
    else (if not (is_of_layout line label) then Some LabelMismatch
    else (if not has_good_index then Some BadIndex else None))

abbrev pub unless_refused : Option HaltCode → FilesInUse → Result FilesInUse HaltCode
unless_refused (Some code) so_far = Err code
unless_refused None so_far = Ok so_far

abbrev pub open_standing : FileLine → (is_master : Bool) → FileLabel → Kept → FilesInUse → Result FilesInUse HaltCode
open_standing line is_master label kept so_far =
    unless_refused (refusal_of line is_master label kept.has_good_index) (with_file (job_file line.name label.name is_master false) so_far)

abbrev pub open_master : FileLine → Name → FilesInUse → Standing → Result FilesInUse HaltCode
open_master line name so_far Blocked = Err DamagedLabel
open_master line name so_far Absent = Err NoLabel
open_master line name so_far (Present label) = open_standing line true label (so_far.files.masters.kept name) so_far

abbrev pub open_own : FileLine → Name → FilesInUse → Standing → Result FilesInUse HaltCode
open_own line name so_far Blocked = Err DamagedLabel
open_own line name so_far Absent = open_master line name so_far (standing name so_far.files.masters.slots)
open_own line name so_far (Present label) = open_standing line false label (so_far.files.own.kept name) so_far

-- a label is looked up in the level's area, then in the masters' area
unfoldable pub open_file : FileLine → Name → FilesInUse → Result FilesInUse HaltCode
open_file line name so_far = open_own line name so_far (standing name so_far.files.own.slots)

-- ---- the files of a job
-- the settings of a job: FILE statements, switches, date
pub record Settings : Type 0 where
  pub statements : List FileStatement
  pub switches : ℕ
  pub date : List ℕ

-- an earlier file of the job has this label
abbrev pub is_taken : Name → List JobFile → Bool
is_taken label files = list_any (λ file. same_name file.label label) files

abbrev pub open_stated : List ℕ → FileLine → FilesInUse → Option FileStatement → Result FilesInUse HaltCode
open_stated date line so_far None = Err NoLabel
open_stated date line so_far (Some statement) =
    if is_taken statement.label so_far.job_files then Err DuplicateLabel
    else (if is_new line then make_file line.name (new_file date line statement) so_far else open_file line statement.label so_far)

-- the FILE statement of a file
abbrev pub statement_of : Name → List FileStatement → Option FileStatement
statement_of name statements = find (λ statement. same_name statement.name name) statements

abbrev pub open_line : Settings → FileLine → FilesInUse → Result FilesInUse HaltCode
open_line settings line so_far =
    if is_used settings.switches line
    then open_stated settings.date line so_far (statement_of line.name settings.statements)
    else Ok so_far

abbrev pub unless_halted : Result FilesInUse HaltCode → (FilesInUse → Result FilesInUse HaltCode) → Result FilesInUse HaltCode
unless_halted (Ok so_far) go = go so_far
unless_halted (Err code) go = Err code

-- the files of the F lines, in order, up to the first halt
unfoldable pub open_lines : Settings → List FileLine → FilesInUse → Result FilesInUse HaltCode
open_lines settings [] so_far = Ok so_far
open_lines settings (line ∷ lines) so_far = unless_halted (open_line settings line so_far) (open_lines settings lines)

-- no file of the job is in use yet
abbrev pub none_in_use : Files → FilesInUse
none_in_use files = record { files = files; job_files = [] }

-- all files of a job; nothing is made unless all files pass
abbrev pub opened : Settings → List FileLine → Files → Result FilesInUse HaltCode
opened settings lines files = open_lines settings lines (none_in_use files)
