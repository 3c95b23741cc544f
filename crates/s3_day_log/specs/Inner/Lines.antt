-- What a line of the log says, and which line is written of an event.
use Rattle.std.specs.Prelude.{ℕ, Bool, List, [], ◌∷◌, ◌++◌, Option, Some, None, option_map, option_and_then, is_ok, codes, decimal, if◌then◌else◌}
use Rattle.std.specs.Str.{bytes_eq as word_is}
use Rattle.json.specs.Json.{Json, null, number, string, array, object, Items, no_items, item, Members, no_members, member, document}
use Rattle.json.specs.Find.{as_str, as_object}
use Rattle.json.specs.Print.{print}
use Rattle.json.specs.Tree.{json_tokens}
use Rattle.jiff.specs.Words.{parse_timestamp}
use Rattle.s3_cards.specs.declared.levels.LevelId.{LevelId}
use Rattle.s3_cards.specs.Inner.Levels.{level_number}
use Rattle.s3_operator.specs.declared.halt_code.HaltCode.{HaltCode}
use Rattle.s3_operator.specs.Table.{letters_of}
use Rattle.s3_day_log.specs.declared.event.JobEnd.{JobEnd}
use Rattle.s3_day_log.specs.declared.event.JobEnd.TheVariants.{Ended, Replied, PassedOver}
use Rattle.s3_day_log.specs.declared.event.JobKind.{JobKind}
use Rattle.s3_day_log.specs.declared.event.JobKind.TheVariants.{Compile, Run, Faulty}
use Rattle.s3_day_log.specs.declared.event.Replier.{Replier}
use Rattle.s3_day_log.specs.declared.event.Replier.TheVariants as by
use Rattle.s3_day_log.specs.declared.words.EventKind.{EventKind}
use Rattle.s3_day_log.specs.declared.words.EventKind.TheVariants as event
use Rattle.s3_day_log.specs.declared.event.JobOver.{JobOver}
use Rattle.s3_day_log.specs.declared.event.LoggedHalt.{LoggedHalt}
use Rattle.s3_day_log.specs.declared.event.LoggedReply.{LoggedReply}
use Rattle.s3_day_log.specs.Inner.Events.{File, Day, Job, Left, Said, begins, job_begins, job_ends, halts, replies, is_cut, stops, is_left, declines, saves, ends, is_refused}
use Rattle.s3_day_log.specs.Inner.Members.{text_in, whole_in, number_in, object_in, list_in, level_in, halt_in, optional_text_in, optional_number_in, optional_object_in, read_each}

abbrev pub byte_most : ℕ
byte_most = 255

abbrev pub short_most : ℕ
short_most = 65535

abbrev pub long_most : ℕ
long_most = 18446744073709551615

-- ---- words
abbrev pub job_kind_word : JobKind → List ℕ
job_kind_word Compile = codes "compile"
job_kind_word Run = codes "run"
job_kind_word Faulty = codes "faulty"

abbrev pub job_kind_named : List ℕ → Option JobKind
job_kind_named word =
    if word_is word (codes "compile") then Some Compile
    else if word_is word (codes "run") then Some Run
    else if word_is word (codes "faulty") then Some Faulty
    else None

abbrev pub end_word : JobEnd → List ℕ
end_word Ended = codes "ended"
end_word Replied = codes "replied"
end_word PassedOver = codes "passed_over"

abbrev pub end_named : List ℕ → Option JobEnd
end_named word =
    if word_is word (codes "ended") then Some Ended
    else if word_is word (codes "replied") then Some Replied
    else if word_is word (codes "passed_over") then Some PassedOver
    else None

abbrev pub replier_word : Replier → List ℕ
replier_word by.Rule = codes "rule"
replier_word by.Line = codes "line"
replier_word by.Operator = codes "operator"
replier_word by.Log = codes "log"

abbrev pub replier_named : List ℕ → Option Replier
replier_named word =
    if word_is word (codes "rule") then Some by.Rule
    else if word_is word (codes "line") then Some by.Line
    else if word_is word (codes "operator") then Some by.Operator
    else if word_is word (codes "log") then Some by.Log
    else None

abbrev pub kind_named : List ℕ → Option EventKind
kind_named word =
    if word_is word (codes "begin") then Some event.Begin
    else if word_is word (codes "job_begins") then Some event.JobBegins
    else if word_is word (codes "job_ends") then Some event.JobEnds
    else if word_is word (codes "halt") then Some event.Halt
    else if word_is word (codes "reply") then Some event.Reply
    else if word_is word (codes "cut") then Some event.Cut
    else if word_is word (codes "stop") then Some event.Stop
    else if word_is word (codes "left") then Some event.Left
    else if word_is word (codes "declined") then Some event.Declined
    else if word_is word (codes "saving") then Some event.Saving
    else if word_is word (codes "end") then Some event.End
    else if word_is word (codes "refused") then Some event.Refused
    else None

-- ---- what the members of an object say
abbrev pub file_in : Members → Option File
file_in members =
    option_and_then (λ name. option_map (λ sha256. record { name = name; sha256 = sha256 })
    (text_in (codes "sha256") members)) (text_in (codes "name") members)

abbrev pub file_at : Json → Option File
file_at json = option_and_then file_in (as_object json)

-- a file that there is, or none
abbrev pub file_if_any : Option Members → Option (Option File)
file_if_any None = Some None
file_if_any (Some members) = option_map Some (file_in members)

abbrev pub optional_file_in : (name : List ℕ) → Members → Option (Option File)
optional_file_in name members = option_and_then file_if_any (optional_object_in name members)

abbrev pub files_in : (name : List ℕ) → Members → Option (List File)
files_in name members = option_and_then (read_each file_at) (list_in name members)

abbrev pub texts_in : (name : List ℕ) → Members → Option (List (List ℕ))
texts_in name members = option_and_then (read_each as_str) (list_in name members)

-- a day, if each of its parts is there
abbrev pub day_if_whole : Option (List (List ℕ)) → Option (Option File) → (deck1 deck2 : Option (List File)) → Option Day
day_if_whole words pack deck1 deck2 =
    option_and_then (λ named. option_and_then (λ file. option_and_then (λ one. option_map (λ two.
    record { words = named; pack = file; deck1 = one; deck2 = two }) deck2) deck1) pack) words

abbrev pub day_in : Members → Option Day
day_in members =
    day_if_whole (texts_in (codes "words") members) (optional_file_in (codes "pack") members) (files_in (codes "deck1") members) (files_in (codes "deck2") members)

-- what a job is for, or that a line of an earlier program doesn't have it
abbrev pub job_kind_if_any : Option (List ℕ) → Option (Option JobKind)
job_kind_if_any None = Some None
job_kind_if_any (Some word) = option_map Some (job_kind_named word)

abbrev pub job_kind_in : Members → Option (Option JobKind)
job_kind_in members = option_and_then job_kind_if_any (optional_text_in (codes "kind") members)

abbrev pub job_in : Members → Option Job
job_in members =
    option_and_then (λ level. option_and_then (λ job. option_and_then (λ what. option_and_then (λ card. option_map (λ program.
    record { level = level; job = job; kind = what; program = program; card = card })
    (optional_text_in (codes "program") members)) (number_in (codes "card") short_most members)) (job_kind_in members)) (number_in (codes "job") short_most members)) (level_in members)

abbrev pub job_over_in : Members → Option JobOver
job_over_in members =
    option_and_then (λ level. option_and_then (λ job. option_and_then (λ lines. option_map (λ over.
    record { level = level; job = job; lines = lines; end = over })
    (option_and_then end_named (text_in (codes "end") members))) (whole_in (codes "lines") members)) (number_in (codes "job") short_most members)) (level_in members)

abbrev pub halt_said : Members → Option LoggedHalt
halt_said members =
    option_and_then (λ level. option_and_then (λ job. option_and_then (λ code. option_map (λ card.
    record { level = level; job = job; code = code; card = card })
    (optional_number_in (codes "card") short_most members)) (halt_in members)) (number_in (codes "job") short_most members)) (level_in members)

abbrev pub reply_said : Members → Option LoggedReply
reply_said members =
    option_and_then (λ level. option_and_then (λ code. option_and_then (λ digit. option_map (λ who.
    record { level = level; code = code; digit = digit; by = who })
    (option_and_then replier_named (text_in (codes "by") members))) (number_in (codes "digit") byte_most members)) (halt_in members)) (level_in members)

abbrev pub left_in : Members → Option Left
left_in members =
    option_and_then (λ level. option_and_then (λ job. option_map (λ from.
    record { level = level; job = job; from = from })
    (optional_text_in (codes "from") members)) (optional_number_in (codes "job") short_most members)) (level_in members)

abbrev pub refusal_said : Members → Option Said
refusal_said members =
    option_and_then (λ status. option_map (λ line. is_refused status line)
    (text_in (codes "line") members)) (number_in (codes "status") byte_most members)

abbrev pub end_said : Members → Option Said
end_said members =
    option_and_then (λ status. option_map (λ saved. ends status saved)
    (optional_file_in (codes "saved") members)) (number_in (codes "status") byte_most members)

-- what an object says, by the kind of its event
abbrev pub said_as : EventKind → Members → Option Said
said_as event.Begin line = option_map begins (option_and_then day_in (object_in (codes "day") line))
said_as event.JobBegins line = option_map job_begins (job_in line)
said_as event.JobEnds line = option_map job_ends (job_over_in line)
said_as event.Halt line = option_map halts (halt_said line)
said_as event.Reply line = option_map replies (reply_said line)
said_as event.Cut line = option_map is_cut (level_in line)
said_as event.Stop line = Some stops
said_as event.Left line = option_map is_left (left_in line)
said_as event.Declined line = Some declines
said_as event.Saving line = option_map saves (option_and_then file_in (object_in (codes "pack") line))
said_as event.End line = end_said line
said_as event.Refused line = refusal_said line

abbrev pub said_by : (word : List ℕ) → Members → Option Said
said_by word members = option_and_then (λ kind. said_as kind members) (kind_named word)

-- a text is a time, as the library for times reads one
unfoldable pub is_time : List ℕ → Bool
is_time text = is_ok (parse_timestamp text)

abbrev pub timed : (at : List ℕ) → Members → Option Said
timed at members = if is_time at then option_and_then (λ word. said_by word members) (text_in (codes "event") members) else None

-- an object says an event if it has a time
abbrev pub said_in : Members → Option Said
said_in members = option_and_then (λ at. timed at members) (text_in (codes "at") members)

-- the event that a line says, without its line end, if it says one
unfoldable pub said_on : (line : List ℕ) → Option Said
said_on line = option_and_then said_in (option_and_then as_object (document line))

-- ---- the object of an event
abbrev pub Pairs : Type 0
Pairs = List (List ℕ × Json)

abbrev pub members_of : Pairs → Members
members_of [] = no_members
members_of ((name, json) ∷ rest) = member name json (members_of rest)

abbrev pub whole : ℕ → Json
whole n = number (decimal n)

abbrev pub level_pair : LevelId → List ℕ × Json
level_pair level = (codes "level", whole (level_number level))

abbrev pub code_pair : HaltCode → List ℕ × Json
code_pair code = (codes "code", string (letters_of code))

abbrev pub text_or_null : Option (List ℕ) → Json
text_or_null None = null
text_or_null (Some text) = string text

abbrev pub job_kind_or_null : Option JobKind → Json
job_kind_or_null None = null
job_kind_or_null (Some what) = string (job_kind_word what)

abbrev pub whole_or_null : Option ℕ → Json
whole_or_null None = null
whole_or_null (Some n) = whole n

abbrev pub file_pairs : File → Pairs
file_pairs file = (codes "name", string file.name) ∷ (codes "sha256", string file.sha256) ∷ []

abbrev pub file_tree : File → Json
file_tree file = object (members_of (file_pairs file))

abbrev pub file_or_null : Option File → Json
file_or_null None = null
file_or_null (Some file) = file_tree file

abbrev pub files_tree : List File → Items
files_tree [] = no_items
files_tree (file ∷ files) = item (file_tree file) (files_tree files)

abbrev pub texts_tree : List (List ℕ) → Items
texts_tree [] = no_items
texts_tree (text ∷ texts) = item (string text) (texts_tree texts)

abbrev pub pack_pair : Option File → Pairs
pack_pair None = []
pack_pair (Some pack) = (codes "pack", file_tree pack) ∷ []

abbrev pub deck_pairs : List File → List File → Pairs
deck_pairs deck1 deck2 = (codes "deck1", array (files_tree deck1)) ∷ (codes "deck2", array (files_tree deck2)) ∷ []

abbrev pub day_pairs : Day → Pairs
day_pairs day = (codes "words", array (texts_tree day.words)) ∷ (pack_pair day.pack ++ deck_pairs day.deck1 day.deck2)

abbrev pub kind : List ℕ → List ℕ × Json
kind word = (codes "event", string word)

abbrev pub pairs_of : Said → Pairs
pairs_of (begins day) = kind (codes "begin") ∷ (codes "day", object (members_of (day_pairs day))) ∷ []
pairs_of (job_begins job) = kind (codes "job_begins") ∷ level_pair job.level ∷ (codes "job", whole job.job) ∷ (codes "kind", job_kind_or_null job.kind) ∷ (codes "program", text_or_null job.program) ∷ (codes "card", whole job.card) ∷ []
pairs_of (job_ends job) = kind (codes "job_ends") ∷ level_pair job.level ∷ (codes "job", whole job.job) ∷ (codes "lines", whole job.lines) ∷ (codes "end", string (end_word job.end)) ∷ []
pairs_of (halts halt) = kind (codes "halt") ∷ level_pair halt.level ∷ (codes "job", whole halt.job) ∷ code_pair halt.code ∷ (codes "card", whole_or_null halt.card) ∷ []
pairs_of (replies reply) = kind (codes "reply") ∷ level_pair reply.level ∷ code_pair reply.code ∷ (codes "digit", whole reply.digit) ∷ (codes "by", string (replier_word reply.by)) ∷ []
pairs_of (is_cut level) = kind (codes "cut") ∷ level_pair level ∷ []
pairs_of stops = kind (codes "stop") ∷ []
pairs_of (is_left left) = kind (codes "left") ∷ level_pair left.level ∷ (codes "job", whole_or_null left.job) ∷ (codes "from", text_or_null left.from) ∷ []
pairs_of declines = kind (codes "declined") ∷ []
pairs_of (saves file) = kind (codes "saving") ∷ (codes "pack", file_tree file) ∷ []
pairs_of (ends status saved) = kind (codes "end") ∷ (codes "status", whole status) ∷ (codes "saved", file_or_null saved) ∷ []
pairs_of (is_refused status line) = kind (codes "refused") ∷ (codes "status", whole status) ∷ (codes "line", string line) ∷ []

-- an event at a time, as one object
unfoldable pub tree_of : (at : List ℕ) → Said → Json
tree_of at said = object (members_of ((codes "at", string at) ∷ pairs_of said))

-- .. as a line, with its line end
unfoldable pub line_of : (at : List ℕ) → Said → List ℕ
line_of at said = print (json_tokens (tree_of at said)) ++ 10 ∷ []
