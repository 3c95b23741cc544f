-- What an event says: its values, without the memory that holds its texts.
use Rattle.std.specs.Prelude.{ℕ, List, String, Option, option_map, map}
use Rattle.std.specs.String.{string_bytes}
use Rattle.std.specs.Global.{Vec}
use Rattle.s3_cards.specs.declared.levels.LevelId.{LevelId}
use Rattle.s3_day_log.specs.declared.event.NamedFile.{NamedFile}
use Rattle.s3_day_log.specs.declared.event.Begun.{Begun}
use Rattle.s3_day_log.specs.declared.event.JobKind.{JobKind}
use Rattle.s3_day_log.specs.declared.event.JobOver.{JobOver}
use Rattle.s3_day_log.specs.declared.event.LoggedHalt.{LoggedHalt}
use Rattle.s3_day_log.specs.declared.event.LoggedReply.{LoggedReply}
use Rattle.s3_day_log.specs.declared.event.Event.{Event}
use Rattle.s3_day_log.specs.declared.event.Event.TheVariants as event

-- a file, by its name and its checksum
pub record File : Type 0 where
  pub name : List ℕ
  pub sha256 : List ℕ

-- what a day was begun with
pub record Day : Type 0 where
  pub words : List (List ℕ)
  pub pack : Option File
  pub deck1 : List File
  pub deck2 : List File

-- a job that has begun
pub record Job : Type 0 where
  pub level : LevelId
  pub job : ℕ
  pub kind : Option JobKind
  pub program : Option (List ℕ)
  pub card : ℕ

-- what is left of a level that isn't done
pub record Left : Type 0 where
  pub level : LevelId
  pub job : Option ℕ
  pub from : Option (List ℕ)

pub data Said : Type 0 where
  begins : Day → Said
  job_begins : Job → Said
  job_ends : JobOver → Said
  halts : LoggedHalt → Said
  replies : LoggedReply → Said
  is_cut : LevelId → Said
  stops : Said
  is_left : Left → Said
  declines : Said
  saves : File → Said
  ends : (status : ℕ) → Option File → Said
  is_refused : (status : ℕ) → (line : List ℕ) → Said

-- ---- of the code's types
abbrev pub file_of : NamedFile → File
file_of file = record { name = string_bytes file.name; sha256 = string_bytes file.sha256 }

abbrev pub files_of : Vec NamedFile → List File
files_of files = map file_of files.items

abbrev pub texts_of : {Z : Type 0} → Vec (String Z) → List (List ℕ)
texts_of texts = map string_bytes texts.items

abbrev pub day_of : Begun → Day
day_of day = record { words = texts_of day.words; pack = option_map file_of day.pack; deck1 = files_of day.deck1; deck2 = files_of day.deck2 }

abbrev pub said_of : Event → Said
said_of (event.Begin day) = begins (day_of day)
said_of (event.JobBegins job) = job_begins (record { level = job.level; job = job.job; kind = job.kind; program = option_map string_bytes job.program; card = job.card })
said_of (event.JobEnds job) = job_ends job
said_of (event.Halt halt) = halts halt
said_of (event.Reply reply) = replies reply
said_of (event.Cut level) = is_cut level
said_of event.Stop = stops
said_of (event.Left left) = is_left (record { level = left.level; job = left.job; from = option_map string_bytes left.from })
said_of event.Declined = declines
said_of (event.Saving pack) = saves (file_of pack)
said_of (event.End day) = ends day.status (option_map file_of day.saved)
said_of (event.Refused day) = is_refused day.status (string_bytes day.line)
