-- The answers to requests to files, and the files after them.
use Rattle.std.specs.Prelude.{ℕ, ◌+◌, List, slice_get, Option, Some, None, Result, Ok, Err}
use Rattle.s3_cards.specs.declared.name.Name.{Name}
use Rattle.s3_operator.specs.declared.halt_code.HaltCode.{HaltCode}
use Rattle.s3_meaning.specs.Requests.{Sought, Request, Card, Read, Chain, Append, Add, Update, Print, Jump, Ask, End, Answer, Found, Nothing, Done, Refused}
use Rattle.s3_meaning.specs.declared.current.Current.{Current}
use Rattle.s3_job_files.specs.Files.{Files, JobFile, FilesInUse, FileAtWork, file_at_work, with_job_file, put_records}
use Rattle.s3_job_files.specs.Records.{place_read, place_sought, place_current, appended, added, updated}

-- the answer to a request, and the files after it
pub record Served : Type 0 where
  pub answer : Answer
  pub in_use : FilesInUse

abbrev pub answer_with : Option (List ℕ) → Answer
answer_with None = Nothing
answer_with (Some bytes) = Found bytes

abbrev pub answer_at : List (List ℕ) → Option ℕ → Answer
answer_at records None = Nothing
answer_at records (Some place) = answer_with (slice_get records place)

-- ---- records that are read
-- one record more was read, if there was one
abbrev pub with_read : Option ℕ → JobFile → JobFile
with_read None file = file
with_read (Some place) file = record file { read = file.read + 1 }

abbrev pub record_read_at : FileAtWork → Option ℕ → FilesInUse → Served
record_read_at at place in_use = record { answer = answer_at at.records place; in_use = with_job_file at.place (with_read place at.file) in_use }

abbrev pub record_read : FileAtWork → FilesInUse → Served
record_read at in_use = record_read_at at (place_read at.label at.records at.file.read) in_use

abbrev pub with_chained : Option ℕ → JobFile → JobFile
with_chained place file = record file { chained = place }

abbrev pub record_chained_at : FileAtWork → Option ℕ → FilesInUse → Served
record_chained_at at place in_use = record { answer = answer_at at.records place; in_use = with_job_file at.place (with_chained place at.file) in_use }

abbrev pub record_chained : Sought → FileAtWork → FilesInUse → Served
record_chained sought at in_use = record_chained_at at (place_sought at.label at.records sought) in_use

-- ---- records that are written
abbrev pub answer_of_put : Result (List (List ℕ)) HaltCode → Answer
answer_of_put (Ok records) = Done
answer_of_put (Err code) = Refused code

-- the files after a put; no request changes the masters
abbrev pub files_after_put : Name → Result (List (List ℕ)) HaltCode → Files → Files
files_after_put label (Ok records) files = record files { own = put_records label records files.own }
files_after_put label (Err code) files = files

abbrev pub record_put : Result (List (List ℕ)) HaltCode → FileAtWork → FilesInUse → Served
record_put result at in_use = record { answer = answer_of_put result; in_use = record in_use { files = files_after_put at.file.label result in_use.files } }

abbrev pub record_appended : List ℕ → FileAtWork → FilesInUse → Served
record_appended bytes at in_use = record_put (appended at.label bytes at.records) at in_use

abbrev pub record_added : List ℕ → FileAtWork → FilesInUse → Served
record_added bytes at in_use = record_put (added at.label bytes at.records) at in_use

abbrev pub record_updated : Option Current → List (Option ℕ) → FileAtWork → FilesInUse → Served
record_updated current changes at in_use =
    record_put (updated at.label changes (place_current at.label at.records at.file.chained current) at.records) at in_use

-- ---- requests
-- a request to this file, if there is one
abbrev pub served_on : (FileAtWork → FilesInUse → Served) → Option FileAtWork → FilesInUse → Option Served
served_on serve None in_use = None
served_on serve (Some at) in_use = Some (serve at in_use)

abbrev pub served_named : Name → (FileAtWork → FilesInUse → Served) → FilesInUse → Option Served
served_named name serve in_use = served_on serve (file_at_work name in_use) in_use

-- a request to a file that the job uses; for any other request there is no answer
unfoldable pub served : Request → FilesInUse → Option Served
served (Read file record_length) in_use = served_named file record_read in_use
served (Chain file record_length sought) in_use = served_named file (record_chained sought) in_use
served (Append file bytes) in_use = served_named file (record_appended bytes) in_use
served (Add file bytes) in_use = served_named file (record_added bytes) in_use
served (Update file current changes) in_use = served_named file (record_updated current changes) in_use
served Card in_use = None
served (Print page line text) in_use = None
served Jump in_use = None
served (Ask code) in_use = None
served (End at_once) in_use = None
