-- The objects of a deck in JSON: their members, in order. docs/schemas says what they mean.
use Rattle.std.specs.Prelude.{ℕ, ◌==◌, List, [], ◌∷◌, ◌++◌, Bool, codes, length, map, Option, Some, None, if◌then◌else◌}
use Rattle.std.specs.String.{string_bytes}
use Rattle.json.specs.Json.{Json, Members, null, string}
use Rattle.s3_cards.specs.Printed.{trimmed}
use Rattle.s3_cards.specs.declared.levels.LevelId.{LevelId}
use Rattle.s3_cards.specs.declared.name.Name.{Name}
use Rattle.s3_cards.specs.Inner.Levels.{level_number}
use Rattle.s3_decks.specs.Inner.Decks.{Assembled, FileLine, line_of}
use Rattle.s3_json_lines.specs.Inner.Characters.{text_of}
use Rattle.s3_json_lines.specs.Inner.Values.{array_of, json_of, numbers_json, object_named, whole, with_member}
use Rattle.s3_lines.specs.declared.sheet.KeyField.{KeyField}
use Rattle.s3_lines.specs.declared.sheet.Shape.{Shape}
use Rattle.s3_lines.specs.declared.sheet.Shape.TheVariants.{Alphanumeric, Numeric}
use Rattle.s3_source_listing.specs.declared.cards.Cards.{Cards}
use Rattle.s3_source_listing.specs.declared.deck_messages.CardMessage.{CardMessage}
use Rattle.s3_source_listing.specs.declared.deck_messages.Severity.{Severity}
use Rattle.s3_source_listing.specs.declared.deck_messages.Severity.TheVariants.{Error, Warning}
use Rattle.s3_ocl.specs.declared.contents.FileStatement.{FileStatement}
use Rattle.s3_deck_json.specs.declared.places.JobPlace.{JobPlace}
use Rattle.s3_deck_json.specs.declared.places.JobSpan.{JobSpan}
use Rattle.s3_deck_json.specs.declared.tables.Tables.{Tables}

-- ---- names and places
-- the characters of a name
abbrev pub name_text : Name → List ℕ
name_text name = text_of (trimmed name.codes)

abbrev pub file_json : Option FileLine → Json
file_json None = null
file_json (Some place) = string place.0

abbrev pub line_json : Option FileLine → Json
line_json None = null
line_json (Some place) = whole place.1

-- ---- messages
abbrev pub severity_word : Severity → List ℕ
severity_word Error = codes "error"
severity_word Warning = codes "warning"

-- null in the place of an empty reason
abbrev pub reason_json : List ℕ → Json
reason_json reason = if length reason == 0 then null else string reason

abbrev pub message_at : CardMessage → Option FileLine → Json
message_at message place = object_named (
    (codes "severity", string (severity_word message.severity)) ∷ (codes "number", whole message.number)
    ∷ (codes "text", string (string_bytes message.words)) ∷ (codes "reason", reason_json (string_bytes message.reason))
    ∷ (codes "card", whole message.card) ∷ (codes "file", file_json place) ∷ (codes "line", line_json place)
    ∷ (codes "from", whole message.columns.from) ∷ (codes "to", whole message.columns.to) ∷ [])

-- a message about a card of a deck
abbrev pub message_json : Assembled → CardMessage → Json
message_json deck message = message_at message (line_of message.card deck)

-- ---- what a program has
abbrev pub length_json : Option Shape → Json
length_json None = null
length_json (Some (Alphanumeric length)) = whole length
length_json (Some (Numeric digits decimals)) = whole digits

abbrev pub decimals_json : Option Shape → Json
decimals_json None = null
decimals_json (Some (Alphanumeric length)) = null
decimals_json (Some (Numeric digits decimals)) = whole decimals

abbrev pub field_json : (name : List ℕ) → Option Shape → Cards → Json
field_json name shape cards = object_named (
    (codes "name", string name) ∷ (codes "length", length_json shape) ∷ (codes "decimals", decimals_json shape)
    ∷ (codes "defined", numbers_json cards.defining.items) ∷ (codes "used", numbers_json cards.using.items) ∷ [])

abbrev pub indicator_json : (name : List ℕ) → Cards → Json
indicator_json name cards = object_named (
    (codes "name", string name) ∷ (codes "set", numbers_json cards.defining.items) ∷ (codes "tested", numbers_json cards.using.items) ∷ [])

abbrev pub label_json : (name kind : List ℕ) → Cards → Json
label_json name kind cards = object_named (
    (codes "name", string name) ∷ (codes "kind", string kind) ∷ (codes "defined", numbers_json cards.defining.items)
    ∷ (codes "used", numbers_json cards.using.items) ∷ [])

abbrev pub key_start_json : Option KeyField → Json
key_start_json None = null
key_start_json (Some key) = whole key.start

abbrev pub key_length_json : Option KeyField → Json
key_length_json None = null
key_length_json (Some key) = whole key.length

abbrev pub file_object_json : (name words_of_use : List ℕ) (record_length : ℕ) → Option KeyField → (cards : List ℕ) → Json
file_object_json name words_of_use record_length key cards = object_named (
    (codes "name", string name) ∷ (codes "use", string words_of_use) ∷ (codes "record_length", whole record_length)
    ∷ (codes "key_start", key_start_json key) ∷ (codes "key_length", key_length_json key) ∷ (codes "cards", numbers_json cards) ∷ [])

-- ---- the lines
-- members with more of them at their end
abbrev pub with_members : Members → List (List ℕ × Json) → Members
with_members members [] = members
with_members members ((name, json) ∷ more) = with_members (with_member members name json) more

-- the members of a program before its messages
abbrev pub program_head : JobPlace → (program : Json) → Option FileLine → List (List ℕ × Json)
program_head job program place =
    (codes "job", whole job.number) ∷ (codes "program", program) ∷ (codes "card", whole job.card) ∷ (codes "file", file_json place)
    ∷ (codes "line", line_json place) ∷ []

-- the members of a program after its messages
abbrev pub table_members : Tables → List (List ℕ × Json)
table_members tables =
    (codes "files", array_of (map json_of tables.files.items)) ∷ (codes "fields", array_of (map json_of tables.fields.items))
    ∷ (codes "indicators", array_of (map json_of tables.indicators.items)) ∷ (codes "labels", array_of (map json_of tables.labels.items)) ∷ []

abbrev pub program_json : Assembled → JobPlace → (program messages : Json) → Tables → Json
program_json deck job program messages tables = object_named (
    program_head job program (line_of job.card deck) ++ (codes "messages", messages) ∷ table_members tables)

-- what a job does with the program that it loads
abbrev pub kind_word : (is_compile : Bool) → List ℕ
kind_word is_compile = if is_compile then codes "compile" else codes "run"

-- .. or why it does nothing
abbrev pub faulty_word : List ℕ
faulty_word = codes "faulty"

-- a file of a job, with its label on the pack
abbrev pub used_file_json : (name label : List ℕ) → Json
used_file_json name label = object_named ((codes "name", string name) ∷ (codes "label", string label) ∷ [])

-- the file of a FILE statement
abbrev pub statement_json : FileStatement → Json
statement_json statement = used_file_json (name_text statement.name) (name_text statement.label)

-- the members of a job before its files: `first` and `last` are the lines of its first and its last card
abbrev pub job_head : LevelId → JobSpan → (program kind : Json) → (first last : Option FileLine) → List (List ℕ × Json)
job_head level job program kind first last =
    (codes "level", whole (level_number level)) ∷ (codes "job", whole job.start.number) ∷ (codes "program", program) ∷ (codes "kind", kind)
    ∷ (codes "card", whole job.start.card) ∷ (codes "file", file_json first) ∷ (codes "line", line_json first)
    ∷ (codes "last_card", whole job.last) ∷ (codes "last_file", file_json last) ∷ (codes "last_line", line_json last) ∷ []

abbrev pub job_json : Assembled → LevelId → JobSpan → (program kind files error : Json) → Json
job_json deck level job program kind files error = object_named (
    job_head level job program kind (line_of job.start.card deck) (line_of job.last deck)
    ++ (codes "files", files) ∷ (codes "error", error) ∷ [])
