-- What a whole log says: its day, the replies of each level, and how the day ended.
use Rattle.std.specs.Prelude.{◌≡◌, ℕ, ◌+◌, ◌-◌, ◌==◌, nat_le, nat_eq, List, [], ◌∷◌, ◌++◌, Bool, true, false, not, ◌&&◌, ◌||◌, length, take, map, Option, Some, None, is_some, option_map, Result, Ok, Err, if◌then◌else◌}
use Rattle.std.specs.List.{list_all, slice_split}
use Rattle.std.specs.String.{string_bytes}
use Rattle.s3_cards.specs.declared.levels.LevelId.{LevelId}
use Rattle.s3_cards.specs.declared.levels.LevelId.TheVariants.{One, Two}
use Rattle.s3_operator.specs.Replies.{is_allowed}
use Rattle.s3_operator.specs.Inner.Codes.{is_shown}
use Rattle.s3_day_log.specs.declared.day_log.DayLog.{DayLog}
use Rattle.s3_day_log.specs.declared.day_log.LogFault.{LogFault}
use Rattle.s3_day_log.specs.declared.day_log.LogFault.TheVariants.{NoMemory, Line}
use Rattle.s3_day_log.specs.declared.event.AnsweredHalt.{AnsweredHalt}
use Rattle.s3_day_log.specs.declared.event.LoggedHalt.{LoggedHalt}
use Rattle.s3_day_log.specs.declared.event.LoggedReply.{LoggedReply}
use Rattle.s3_day_log.specs.Inner.Events.{File, Day, Said, begins, job_begins, job_ends, halts, replies, is_cut, stops, is_left, declines, saves, ends, is_refused, day_of}
use Rattle.s3_day_log.specs.Inner.Lines.{said_on, line_of, is_time, byte_most, short_most, long_most}

-- ---- the events of a text
abbrev pub is_line_end : ℕ → Bool
is_line_end byte = byte == 10

abbrev pub all_but_last : {X : Type 0} → List X → List X
all_but_last xs = take (length xs - 1) xs

-- the lines that end; what follows the last line end is no line
unfoldable pub lines_ended : List ℕ → List (List ℕ)
lines_ended text = all_but_last (slice_split is_line_end text)

-- what each line says
abbrev pub events_in : List ℕ → List (Option Said)
events_in text = map said_on (lines_ended text)

-- ---- the log that events make
pub record Log : Type 0 where
  pub begun : Day
  pub replies1 : List AnsweredHalt
  pub replies2 : List AnsweredHalt
  pub waits1 : Option LoggedHalt
  pub waits2 : Option LoggedHalt
  pub saved : Option (List ℕ)
  pub is_declined : Bool
  pub status : Option ℕ

abbrev pub is_hexadecimal : ℕ → Bool
is_hexadecimal byte = (nat_le 48 byte && nat_le byte 57) || (nat_le 97 byte && nat_le byte 102)

-- 64 hexadecimal digits, with small letters
abbrev pub is_checksum : List ℕ → Bool
is_checksum text = nat_eq (length text) 64 && list_all is_hexadecimal text

abbrev pub has_checksum : File → Bool
has_checksum file = is_checksum file.sha256

abbrev pub has_checksum_if_any : Option File → Bool
has_checksum_if_any None = true
has_checksum_if_any (Some file) = has_checksum file

abbrev pub is_sound : Day → Bool
is_sound day = has_checksum_if_any day.pack && list_all has_checksum day.deck1 && list_all has_checksum day.deck2

abbrev pub started : Day → Log
started day = record { begun = day; replies1 = []; replies2 = []; waits1 = None; waits2 = None; saved = None; is_declined = false; status = None }

-- a halt of a level, which its next reply is to
abbrev pub with_halt : LevelId → LoggedHalt → Log → Log
with_halt One halt log = record log { waits1 = Some halt }
with_halt Two halt log = record log { waits2 = Some halt }

-- a reply to the halt of its level that has none yet, if the log has such a halt
abbrev pub with_reply : LevelId → LoggedReply → Log → Log
with_reply One reply log = record log { replies1 = log.replies1 ++ record { reply = reply; halt = log.waits1 } ∷ []; waits1 = None }
with_reply Two reply log = record log { replies2 = log.replies2 ++ record { reply = reply; halt = log.waits2 } ∷ []; waits2 = None }

-- the log with the pack that the day saves, if it has a checksum
abbrev pub with_pack : File → Log → Option Log
with_pack file log = if has_checksum file then Some (record log { saved = Some file.sha256 }) else None

-- the last event
abbrev pub ended : (status : ℕ) → Option File → Log → Option Log
ended status None log = Some (record log { status = Some status })
ended status (Some file) log = if log.is_declined then None else with_pack file (record log { status = Some status })

-- a reply that its halt allows
abbrev pub answered : LoggedReply → Log → Option Log
answered reply log = if is_allowed reply.code reply.digit then Some (with_reply reply.level reply log) else None

-- an event between the first and the last
abbrev pub continued : Said → Log → Option Log
continued (begins day) log = None
continued (job_begins job) log = Some log
continued (job_ends job) log = Some log
continued (halts halt) log = Some (with_halt halt.level halt log)
continued (replies reply) log = answered reply log
continued (is_cut level) log = Some log
continued stops log = Some log
continued (is_left left) log = Some log
continued declines log = Some (record log { is_declined = true })
continued (saves file) log = with_pack file log
continued (ends status saved) log = None
continued (is_refused status line) log = None

-- after the answer to the question about saving only the last event follows
abbrev pub taken : Said → Log → Option Log
taken (ends status saved) log = ended status saved log
taken (begins day) log = if is_some log.saved || log.is_declined then None else continued (begins day) log
taken (job_begins job) log = if is_some log.saved || log.is_declined then None else continued (job_begins job) log
taken (job_ends job) log = if is_some log.saved || log.is_declined then None else continued (job_ends job) log
taken (halts halt) log = if is_some log.saved || log.is_declined then None else continued (halts halt) log
taken (replies reply) log = if is_some log.saved || log.is_declined then None else continued (replies reply) log
taken (is_cut level) log = if is_some log.saved || log.is_declined then None else continued (is_cut level) log
taken stops log = if is_some log.saved || log.is_declined then None else continued stops log
taken (is_left left) log = if is_some log.saved || log.is_declined then None else continued (is_left left) log
taken declines log = if is_some log.saved || log.is_declined then None else continued declines log
taken (saves file) log = if is_some log.saved || log.is_declined then None else continued (saves file) log
taken (is_refused status line) log = if is_some log.saved || log.is_declined then None else continued (is_refused status line) log

-- after the last event no line follows
abbrev pub taken_if_said : Option Said → Log → Option Log
taken_if_said None log = None
taken_if_said (Some said) log = if is_some log.status then None else taken said log

-- what follows an event that was taken, or the number of its line
abbrev pub or_refused : (number : ℕ) → Option Log → (Log → Result Log ℕ) → Result Log ℕ
or_refused number None more = Err number
or_refused number (Some log) more = more log

-- the log after the events from the line of a number on, or the number of the first line that is refused
unfoldable pub follow : (number : ℕ) → List (Option Said) → Log → Result Log ℕ
follow number [] log = Ok log
follow number (said ∷ rest) log = or_refused number (taken_if_said said log) (follow (number + 1) rest)

-- the first event begins the day
abbrev pub begun_by : Option Said → Option Day
begun_by None = None
begun_by (Some (begins day)) = if is_sound day then Some day else None
begun_by (Some _) = None

abbrev pub from_day : Option Day → List (Option Said) → Result Log ℕ
from_day None rest = Err 1
from_day (Some day) rest = follow 2 rest (started day)

abbrev pub log_of : List (Option Said) → Result Log ℕ
log_of [] = Err 1
log_of (first ∷ rest) = from_day (begun_by first) rest

-- ---- the code's log
abbrev pub log_in : DayLog → Log
log_in log = record { begun = day_of log.begun; replies1 = log.replies1.items; replies2 = log.replies2.items; waits1 = log.waits1; waits2 = log.waits2; saved = option_map string_bytes log.saved; is_declined = log.is_declined; status = log.status }

-- a text is read as the log of its events, or refused by the first line that is refused, or where memory runs out
abbrev pub IsRead : (text : List ℕ) → Result DayLog LogFault → Type 0
IsRead text (Ok log) = log_of (events_in text) ≡ Ok (log_in log)
IsRead text (Err NoMemory) = Unit {0}
IsRead text (Err (Line number)) = log_of (events_in text) ≡ Err number

abbrev pub IsReadAfter : Day → (text : List ℕ) → Result DayLog LogFault → Type 0
IsReadAfter day text (Ok log) = follow 2 (events_in text) (started day) ≡ Ok (log_in log)
IsReadAfter day text (Err NoMemory) = Unit {0}
IsReadAfter day text (Err (Line number)) = follow 2 (events_in text) (started day) ≡ Err number

-- events are taken, or the first that is refused is this line
abbrev pub Follows : (number : ℕ) → List (Option Said) → (old new : DayLog) → Result (Unit {0}) LogFault → Type 0
Follows number events old new (Ok done) = follow number events (log_in old) ≡ Ok (log_in new)
Follows number events old new (Err NoMemory) = Unit {0}
Follows number events old new (Err (Line line)) = follow number events (log_in old) ≡ Err line

-- an event is taken, or refused as this line
abbrev pub Takes : (number : ℕ) → Option Log → (new : DayLog) → Result (Unit {0}) LogFault → Type 0
Takes number after new (Ok done) = after ≡ Some (log_in new)
Takes number after new (Err NoMemory) = Unit {0}
Takes number after new (Err (Line line)) = (after ≡ None) × (line ≡ number)

-- a log's replies to the halts of a level, in their order
abbrev pub replies_at : LevelId → DayLog → List AnsweredHalt
replies_at One log = log.replies1.items
replies_at Two log = log.replies2.items

-- ---- what is written is read back
abbrev pub card_fits : Option ℕ → Bool
card_fits None = true
card_fits (Some card) = nat_le card short_most

-- the numbers of an event fit their types, and its halt is one that a level can show
abbrev pub fits : Said → Bool
fits (begins day) = true
fits (job_begins job) = nat_le job.job short_most && nat_le job.card short_most
fits (job_ends job) = nat_le job.job short_most && nat_le job.lines long_most
fits (halts halt) = nat_le halt.job short_most && is_shown halt.code && card_fits halt.card
fits (replies reply) = is_shown reply.code && nat_le reply.digit byte_most
fits (is_cut level) = true
fits stops = true
fits (is_left left) = card_fits left.job
fits declines = true
fits (saves file) = true
fits (ends status saved) = nat_le status byte_most
fits (is_refused status line) = nat_le status byte_most

-- an event with the time at which it is written
pub record Timed : Type 0 where
  pub at : List ℕ
  pub said : Said

abbrev pub can_be_read : Timed → Bool
can_be_read event = is_time event.at && fits event.said

abbrev pub text_of : List Timed → List ℕ
text_of [] = []
text_of (event ∷ rest) = line_of event.at event.said ++ text_of rest

abbrev pub said_at : Timed → Option Said
said_at event = Some event.said

-- the lines of events, and after them what was written of a further line, are read as these events
abbrev pub ReadsBack : Type 0
ReadsBack =
    (written : List Timed) (begun_line : List ℕ) → list_all can_be_read written ≡ true → list_all (λ byte. not (is_line_end byte)) begun_line ≡ true
    → events_in (text_of written ++ begun_line) ≡ map said_at written
