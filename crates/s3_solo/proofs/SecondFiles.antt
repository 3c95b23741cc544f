-- What the files of a job come to is the same on a pack of the second format, unless one wasn't made for want of space.
use Rattle.std.proofs.Common.{◌≡◌, ℕ, Bool, true, false, List, [], ◌∷◌, slice_get, Option, Some, None, Result, Ok, Err, if◌then◌else◌, refl, ap, ◌∙◌}
use Rattle.s3_cards.specs.declared.name.Name.{Name}
use Rattle.s3_lines.specs.declared.sheet.FileLine.{FileLine}
use Rattle.s3_ocl.specs.declared.contents.FileStatement.{FileStatement}
use Rattle.s3_operator.specs.declared.halt_code.HaltCode.{HaltCode}
use Rattle.s3_operator.specs.declared.halt_code.HaltCode.TheVariants.{DuplicateLabel}
use Rattle.s3_operator.specs.declared.halt_code.HaltCode.TheVariants as halt
use Rattle.s3_meaning.specs.Requests.{Request, Card, Read, Chain, Append, Add, Update, Print, Jump, Ask, End}
use Rattle.s3_slots.specs.Making.{made}
use Rattle.s3_slots.specs.Slots.{standing}
use Rattle.s3_slots.proofs.SecondFormat.{made_same}
use Rattle.s3_slots.specs.declared.header.Format.TheVariants.{Second}
use Rattle.s3_slots.specs.declared.label.FileLabel.{FileLabel}
use Rattle.s3_slots.specs.declared.making.LabelFault.{LabelFault}
use Rattle.s3_slots.specs.declared.making.NewFile.{NewFile}
use Rattle.s3_slots.specs.declared.slot.Slot.{Slot}
use Rattle.s3_slots.specs.declared.slot.Standing.{Standing}
use Rattle.s3_slots.specs.declared.slot.Standing.TheVariants.{Absent, Blocked, Present}
use Rattle.s3_job_files.specs.Closing.{closed_by, file_closed, files_closed}
use Rattle.s3_job_files.specs.Files.{Area, FileAtWork, Files, FilesInUse, JobFile, area_by, as_it_stands, file_at, file_at_work, labelled, place_named}
use Rattle.s3_job_files.specs.Records.{added, appended, place_current, updated}
use Rattle.s3_job_files.specs.Requests.{Served, record_added, record_appended, record_chained, record_put, record_read, record_updated, served, served_named, served_on}
use Rattle.s3_opening.specs.Asked.{is_new, is_used, new_file}
use Rattle.s3_opening.specs.Opening.{Settings, after_make, is_taken, job_file, make_file, none_in_use, open_file, open_line, open_lines, open_master, open_own, open_stated, opened, refusal_of, statement_of, unless_halted, unless_refused, with_file}

-- ---- the files of a level and of its job
abbrev pub second : Files → Files
second files = record files { format = Second }

abbrev pub second_in_use : FilesInUse → FilesInUse
second_in_use so_far = record so_far { files = second so_far.files }

abbrev second_opened : Result FilesInUse HaltCode → Result FilesInUse HaltCode
second_opened (Ok so_far) = Ok (second_in_use so_far)
second_opened (Err code) = Err code

-- the other world is the same apart from the format, unless space was lacking
abbrev pub Opens : (one other : Result FilesInUse HaltCode) → Type 0
Opens one other = (one ≡ Err halt.NoSpace → ⊥) → other ≡ second_opened one

made_opens : (name : Name) (new : NewFile) (so_far : FilesInUse) → Opens (make_file name new so_far) (make_file name new (second_in_use so_far))
unfolding make_file
made_opens name new so_far room =
    ap (after_make name new (second_in_use so_far)) (made_same so_far.files.format so_far.files.own.region so_far.files.masters.slots new so_far.files.own.slots (λ full. room (ap (after_make name new so_far) full)))
    ∙ by (made so_far.files.format so_far.files.own.region so_far.files.masters.slots new so_far.files.own.slots)
  where
    by : (slots : Result (List Slot) LabelFault) → after_make name new (second_in_use so_far) slots ≡ second_opened (after_make name new so_far slots)
    by (Ok slots) = refl
    by (Err fault) = refl

refused_opens : (code : Option HaltCode) (so_far : FilesInUse) → Opens (unless_refused code so_far) (unless_refused code (second_in_use so_far))
refused_opens None so_far room = refl
refused_opens (Some code) so_far room = refl

standing_opens : (line : FileLine) (is_master good : Bool) (label : FileLabel) (file : JobFile) (so_far : FilesInUse)
    → Opens (unless_refused (refusal_of line is_master label good) (with_file file so_far)) (unless_refused (refusal_of line is_master label good) (with_file file (second_in_use so_far)))
standing_opens line is_master good label file so_far = refused_opens (refusal_of line is_master label good) (with_file file so_far)

file_opens : (line : FileLine) (name : Name) (so_far : FilesInUse) → Opens (open_file line name so_far) (open_file line name (second_in_use so_far))
unfolding open_file
file_opens line name so_far = own (standing name so_far.files.own.slots)
  where
    master : (is : Standing) → Opens (open_master line name so_far is) (open_master line name (second_in_use so_far) is)
    master Blocked room = refl
    master Absent room = refl
    master (Present label) room = standing_opens line true (so_far.files.masters.kept name).has_good_index label (job_file line.name label.name true false) so_far room

    own : (is : Standing) → Opens (open_own line name so_far is) (open_own line name (second_in_use so_far) is)
    own Blocked room = refl
    own Absent room = master (standing name so_far.files.masters.slots) room
    own (Present label) room = standing_opens line false (so_far.files.own.kept name).has_good_index label (job_file line.name label.name false false) so_far room

stated_opens : (date : List ℕ) (line : FileLine) (so_far : FilesInUse) (statement : Option FileStatement) → Opens (open_stated date line so_far statement) (open_stated date line (second_in_use so_far) statement)
stated_opens date line so_far None room = refl
stated_opens date line so_far (Some statement) room = taken (is_taken statement.label so_far.job_files) room
  where
    new : (b : Bool) → Opens (if b then make_file line.name (new_file date line statement) so_far else open_file line statement.label so_far)
        (if b then make_file line.name (new_file date line statement) (second_in_use so_far) else open_file line statement.label (second_in_use so_far))
    new true = made_opens line.name (new_file date line statement) so_far
    new false = file_opens line statement.label so_far

    taken : (b : Bool) → Opens
        (if b then Err DuplicateLabel else (if is_new line then make_file line.name (new_file date line statement) so_far else open_file line statement.label so_far))
        (if b then Err DuplicateLabel else (if is_new line then make_file line.name (new_file date line statement) (second_in_use so_far) else open_file line statement.label (second_in_use so_far)))
    taken true room = refl
    taken false room = new (is_new line) room

line_opens : (settings : Settings) (line : FileLine) (so_far : FilesInUse) → Opens (open_line settings line so_far) (open_line settings line (second_in_use so_far))
line_opens settings line so_far = by (is_used settings.switches line)
  where
    by : (b : Bool) → Opens (if b then open_stated settings.date line so_far (statement_of line.name settings.statements) else Ok so_far)
        (if b then open_stated settings.date line (second_in_use so_far) (statement_of line.name settings.statements) else Ok (second_in_use so_far))
    by true room = stated_opens settings.date line so_far (statement_of line.name settings.statements) room
    by false room = refl

opens_behind : (one other : Result FilesInUse HaltCode) (go : FilesInUse → Result FilesInUse HaltCode) → Opens one other → ((so_far : FilesInUse) → Opens (go so_far) (go (second_in_use so_far)))
    → Opens (unless_halted one go) (unless_halted other go)
opens_behind (Ok so_far) other go first rest room = ap (λ (r : Result FilesInUse HaltCode). unless_halted r go) (first (λ e. cc)) ∙ rest so_far room
opens_behind (Err code) other go first rest room = ap (λ (r : Result FilesInUse HaltCode). unless_halted r go) (first room)

lines_open : (settings : Settings) (lines : List FileLine) (so_far : FilesInUse) → Opens (open_lines settings lines so_far) (open_lines settings lines (second_in_use so_far))
unfolding open_lines
lines_open settings [] so_far room = refl
lines_open settings (line ∷ lines) so_far room =
    opens_behind (open_line settings line so_far) (open_line settings line (second_in_use so_far)) (open_lines settings lines) (line_opens settings line so_far) (lines_open settings lines) room

-- all files of a job
pub opened_same : (settings : Settings) (lines : List FileLine) (files : Files) → Opens (opened settings lines files) (opened settings lines (second files))
opened_same settings lines files = lines_open settings lines (none_in_use files)

-- ---- requests
at_same : (name : Name) (in_use : FilesInUse) → file_at_work name (second_in_use in_use) ≡ file_at_work name in_use
at_same name in_use = by (place_named name in_use.job_files)
  where
    area_same : (is_master : Bool) → area_by is_master (second in_use.files) ≡ area_by is_master in_use.files
    area_same true = refl
    area_same false = refl

    stands : (place : ℕ) (file : Option JobFile) → as_it_stands (second in_use.files) place file ≡ as_it_stands in_use.files place file
    stands place None = refl
    stands place (Some file) = ap (λ (area : Area). labelled place file (area.kept file.label).records (standing file.label area.slots)) (area_same file.is_master)

    by : (place : Option ℕ) → file_at (second_in_use in_use) place ≡ file_at in_use place
    by None = refl
    by (Some place) = stands place (slice_get in_use.job_files place)

abbrev second_served : Served → Served
second_served served = record served { in_use = second_in_use served.in_use }

abbrev pub second_answered : Option Served → Option Served
second_answered None = None
second_answered (Some served) = Some (second_served served)

-- a way to serve that doesn't read the format
abbrev IsServing : (FileAtWork → FilesInUse → Served) → Type 0
IsServing serve = (at : FileAtWork) (in_use : FilesInUse) → serve at (second_in_use in_use) ≡ second_served (serve at in_use)

named_same : (name : Name) (serve : FileAtWork → FilesInUse → Served) (in_use : FilesInUse) → IsServing serve
    → served_named name serve (second_in_use in_use) ≡ second_answered (served_named name serve in_use)
named_same name serve in_use each = ap (λ (at : Option FileAtWork). served_on serve at (second_in_use in_use)) (at_same name in_use) ∙ by (file_at_work name in_use)
  where
    by : (at : Option FileAtWork) → served_on serve at (second_in_use in_use) ≡ second_answered (served_on serve at in_use)
    by None = refl
    by (Some at) = ap (λ (s : Served). Some s) (each at in_use)

put_serves : (result : Result (List (List ℕ)) HaltCode) (at : FileAtWork) (in_use : FilesInUse) → record_put result at (second_in_use in_use) ≡ second_served (record_put result at in_use)
put_serves (Ok records) at in_use = refl
put_serves (Err code) at in_use = refl

pub served_same : (request : Request) (in_use : FilesInUse) → served request (second_in_use in_use) ≡ second_answered (served request in_use)
unfolding served
served_same (Read file record_length) in_use = named_same file record_read in_use (λ at u. refl)
served_same (Chain file record_length sought) in_use = named_same file (record_chained sought) in_use (λ at u. refl)
served_same (Append file bytes) in_use = named_same file (record_appended bytes) in_use (λ at u. put_serves (appended at.label bytes at.records) at u)
served_same (Add file bytes) in_use = named_same file (record_added bytes) in_use (λ at u. put_serves (added at.label bytes at.records) at u)
served_same (Update file current changes) in_use =
    named_same file (record_updated current changes) in_use (λ at u. put_serves (updated at.label changes (place_current at.label at.records at.file.chained current) at.records) at u)
served_same Card in_use = refl
served_same (Print page line text) in_use = refl
served_same Jump in_use = refl
served_same (Ask code) in_use = refl
served_same (End at_once) in_use = refl

-- ---- the end of a job
pub closed_same : (job_files : List JobFile) (files : Files) → files_closed job_files (second files) ≡ second (files_closed job_files files)
unfolding files_closed
closed_same [] files = refl
closed_same (file ∷ more) files = ap (files_closed more) (one file.is_master) ∙ closed_same more (file_closed file files)
  where
    one : (is_master : Bool) → closed_by is_master file (second files) ≡ second (closed_by is_master file files)
    one true = refl
    one false = refl
