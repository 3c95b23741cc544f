-- What a line of the journal says, and which line is written of a day.
use Rattle.std.specs.Prelude.{ℕ, List, [], ◌∷◌, ◌++◌, Option, Some, None, option_map, option_and_then, codes, decimal, if◌then◌else◌}
use Rattle.std.specs.Str.{bytes_eq as word_is}
use Rattle.json.specs.Json.{Json, null, number, string, object, Members, no_members, member, document}
use Rattle.json.specs.Find.{as_object}
use Rattle.json.specs.Print.{print}
use Rattle.json.specs.Tree.{json_tokens}
use Rattle.s3_journal.specs.declared.day.LevelCount.{LevelCount}
use Rattle.s3_journal.specs.Inner.Days.{Did, operates, runs, appends, loads, sorts, deletes, copies, amends, restores, Day}
use Rattle.s3_journal.specs.Inner.Digests.{digest_of}
use Rattle.s3_journal.specs.Inner.Members.{text_in, whole_in, number_in, object_in, optional_text_in}

abbrev pub byte_most : ℕ
byte_most = 255

abbrev pub long_most : ℕ
long_most = 18446744073709551615

-- the name of the command, as a line has it
abbrev pub command_word : Did → List ℕ
command_word (operates day) = codes "operate"
command_word (runs deck1 deck2 script) = codes "run"
command_word (appends table file) = codes "load"
command_word loads = codes "load"
command_word sorts = codes "sort"
command_word deletes = codes "delete"
command_word copies = codes "copy"
command_word amends = codes "amend"
command_word restores = codes "restore"

-- ---- what the members of an object say
abbrev pub count_in : Members → Option LevelCount
count_in members = option_and_then (λ jobs. option_map (λ lines. record { jobs = jobs; lines = lines }) (whole_in (codes "lines") members)) (whole_in (codes "jobs") members)

abbrev pub level_in : (name : List ℕ) → Members → Option LevelCount
level_in name members = option_and_then count_in (object_in name members)

abbrev pub operated_in : Members → Option Did
operated_in members =
    option_and_then (λ deck1. option_and_then (λ deck2. option_and_then (λ rules. option_and_then (λ replies. option_and_then (λ one. option_map (λ two.
    operates (record { deck1 = deck1; deck2 = deck2; rules = rules; replies = replies; one = one; two = two }))
    (level_in (codes "level2") members)) (level_in (codes "level1") members)) (text_in (codes "replies") members)) (optional_text_in (codes "rules") members)) (text_in (codes "deck2") members)) (text_in (codes "deck1") members)

abbrev pub ran_in : Members → Option Did
ran_in members =
    option_and_then (λ deck1. option_and_then (λ deck2. option_map (λ script. runs deck1 deck2 script)
    (text_in (codes "script") members)) (text_in (codes "deck2") members)) (text_in (codes "deck1") members)

-- a table that was added, if there is one
abbrev pub appended_if : Option (List ℕ) → Members → Option Did
appended_if None _ = Some loads
appended_if (Some table) members = option_map (λ file. appends table file) (text_in (codes "file") members)

abbrev pub loaded_in : Members → Option Did
loaded_in members = option_and_then (λ table. appended_if table members) (optional_text_in (codes "table") members)

abbrev pub did_by : (word : List ℕ) → Members → Option Did
did_by word members =
    if word_is word (codes "operate") then operated_in members
    else if word_is word (codes "run") then ran_in members
    else if word_is word (codes "load") then loaded_in members
    else if word_is word (codes "sort") then Some sorts
    else if word_is word (codes "delete") then Some deletes
    else if word_is word (codes "copy") then Some copies
    else if word_is word (codes "amend") then Some amends
    else if word_is word (codes "restore") then Some restores
    else None

-- a line without a command is of `operate`
abbrev pub did_if : Option (List ℕ) → Members → Option Did
did_if None members = operated_in members
did_if (Some word) members = did_by word members

abbrev pub did_in : Members → Option Did
did_in members = option_and_then (λ command. did_if command members) (optional_text_in (codes "command") members)

abbrev pub day_in : Members → Option Day
day_in members =
    option_and_then (λ number. option_and_then (λ at. option_and_then (λ before. option_and_then (λ after. option_and_then (λ status. option_map (λ did.
    record { number = number; at = at; before = before; after = after; status = status; did = did })
    (did_in members)) (number_in (codes "status") byte_most members)) (text_in (codes "after") members)) (text_in (codes "before") members)) (text_in (codes "at") members)) (whole_in (codes "day") members)

-- a day, the digest of the line before its own, and that of its own line, if it has one
pub record Said : Type 0 where
  pub day : Day
  pub previous : List ℕ
  pub sum : Option (List ℕ)

abbrev pub said_in : Members → Option Said
said_in members =
    option_and_then (λ previous. option_and_then (λ sum. option_map (λ day. record { day = day; previous = previous; sum = sum })
    (day_in members)) (optional_text_in (codes "sum") members)) (text_in (codes "previous") members)

-- what a line says, without its line end, if it is a line of a journal
unfoldable pub said_on : (line : List ℕ) → Option Said
said_on line = option_and_then said_in (option_and_then as_object (document line))

-- ---- the object of a day
abbrev pub Pairs : Type 0
Pairs = List (List ℕ × Json)

abbrev pub members_of : Pairs → Members
members_of [] = no_members
members_of ((name, json) ∷ rest) = member name json (members_of rest)

abbrev pub whole : ℕ → Json
whole n = number (decimal n)

abbrev pub text_or_null : Option (List ℕ) → Json
text_or_null None = null
text_or_null (Some text) = string text

abbrev pub level_tree : LevelCount → Json
level_tree count = object (members_of ((codes "jobs", whole count.jobs) ∷ (codes "lines", whole count.lines) ∷ []))

abbrev pub day_pairs : Day → Pairs
day_pairs day =
    (codes "day", whole day.number) ∷ (codes "at", string day.at) ∷ (codes "command", string (command_word day.did)) ∷ (codes "before", string day.before) ∷ (codes "after", string day.after)
    ∷ (codes "status", whole day.status) ∷ []

abbrev pub did_pairs : Did → Pairs
did_pairs (operates day) =
    (codes "deck1", string day.deck1) ∷ (codes "deck2", string day.deck2) ∷ (codes "rules", text_or_null day.rules) ∷ (codes "replies", string day.replies)
    ∷ (codes "level1", level_tree day.one) ∷ (codes "level2", level_tree day.two) ∷ []
did_pairs (runs deck1 deck2 script) = (codes "deck1", string deck1) ∷ (codes "deck2", string deck2) ∷ (codes "script", string script) ∷ []
did_pairs (appends table file) = (codes "table", string table) ∷ (codes "file", string file) ∷ []
did_pairs loads = []
did_pairs sorts = []
did_pairs deletes = []
did_pairs copies = []
did_pairs amends = []
did_pairs restores = []

-- the digests of the line before, and of the line itself, if it has one
abbrev pub digest_pairs : (previous : List ℕ) → (sum : Option (List ℕ)) → Pairs
digest_pairs previous None = (codes "previous", string previous) ∷ []
digest_pairs previous (Some sum) = (codes "previous", string previous) ∷ (codes "sum", string sum) ∷ []

-- a day as one object, given these digests
unfoldable pub tree_of : Day → (previous : List ℕ) → (sum : Option (List ℕ)) → Json
tree_of day previous sum = object (members_of (day_pairs day ++ (did_pairs day.did ++ digest_pairs previous sum)))

abbrev pub text_with : Day → (previous : List ℕ) → (sum : Option (List ℕ)) → List ℕ
text_with day previous sum = print (json_tokens (tree_of day previous sum))

-- .. as the text of a line, without its line end: the digest of the line is that of its text without this digest
abbrev pub text_of_line : Day → (previous : List ℕ) → List ℕ
text_of_line day previous = text_with day previous (Some (digest_of (text_with day previous None)))

-- .. with its line end
unfoldable pub line_of : Day → (previous : List ℕ) → List ℕ
line_of day previous = text_of_line day previous ++ 10 ∷ []
