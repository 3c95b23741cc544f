-- Where the reply to a halt comes from: the log of a day that is done again, a rule, or a line that was read.
use Rattle.std.specs.Prelude.{◌≡◌, ◌⊎◌, ◌+◌, ◌-◌, ◌^◌, min, ℕ, Bool, true, false, ◌&&◌, List, [], ◌∷◌, Option, Some, None, option_map, slice_get, Result, Ok, Err, ⊤, if◌then◌else◌}
use Rattle.std.specs.List.{list_any}
use Rattle.std.specs.Option.{option_and_then, option_or}
use Rattle.s3_cards.specs.declared.levels.LevelId.{LevelId}
use Rattle.s3_cards.specs.declared.levels.LevelId.TheVariants.{One, Two}
use Rattle.s3_cards.specs.declared.name.Name.{Name}
use Rattle.s3_operator.specs.declared.halt_code.HaltCode.{HaltCode}
use Rattle.s3_operator.specs.Replies.{is_allowed}
use Rattle.s3_replies.specs.declared.listed.Listed.TheVariants.{Line}
use Rattle.s3_replies.specs.declared.rule.Rule.{Rule}
use Rattle.s3_replies.specs.declared.typed.Typed.{Typed}
use Rattle.s3_replies.specs.declared.typed.Typed.TheVariants as typed
use Rattle.s3_replies.specs.Inner.Listed.{GivesNext}
use Rattle.s3_replies.specs.Inner.Rules.{reply_for, same_level}
use Rattle.s3_day_log.specs.declared.event.AnsweredHalt.{AnsweredHalt}
use Rattle.s3_day_log.specs.declared.event.LoggedHalt.{LoggedHalt}
use Rattle.s3_day_log.specs.Inner.Answering.{answer_in}
use Rattle.s3_day_log.specs.Inner.Logged.{replies_at}
use Rattle.s3_desk.specs.Inner.Events.{Event, Followed, Shown, Asked}
use Rattle.s3_operating.specs.declared.levels.Said.{Said}
use Rattle.s3_operating.specs.declared.levels.Said.TheVariants as outcome
use Rattle.s3_operating.specs.declared.answers.Answer.{Answer}
use Rattle.s3_operating.specs.declared.answers.Question.{Question}
use Rattle.s3_operating.specs.declared.replies.AtHalt.{AtHalt}
use Rattle.s3_operating.specs.declared.replies.Sources.{Sources}

-- ---- without a question
abbrev pub at_level : LevelId → Sources → AtHalt
at_level One sources = sources.one
at_level Two sources = sources.two

-- the halt that waits in a level, as the log has it
abbrev pub halt_at : LevelId → HaltCode → Sources → LoggedHalt
halt_at level code sources = record { level = level; job = (at_level level sources).job; code = code; card = (at_level level sources).card }

-- the log's next reply for a level
abbrev pub next_logged : LevelId → Sources → Option AnsweredHalt
next_logged level sources = option_and_then (λ log. slice_get (replies_at level log.now) (at_level level sources).replies) sources.logged

-- the digit of that reply, if it is one to this halt
abbrev pub logged_for : LevelId → HaltCode → Sources → Option ℕ
logged_for level code sources = answer_in (next_logged level sources) (halt_at level code sources)

-- the digit of the first rule that fits
abbrev pub ruled_for : LevelId → HaltCode → Sources → Option ℕ
ruled_for level code sources = option_map (λ (rule : Rule). rule.digit) (reply_for level code (at_level level sources).program sources.rules.now)

-- the reply that needs no question: by the log, or else by a rule
abbrev pub given_to : LevelId → HaltCode → Sources → Option ℕ
given_to level code sources = option_or (logged_for level code sources) (ruled_for level code sources)

-- the digit that a line gave for this level while the other one was asked, if the halt allows it
abbrev pub ahead_for : LevelId → HaltCode → Option (LevelId × ℕ) → Option ℕ
ahead_for level code None = None
ahead_for level code (Some (to, digit)) = if same_level to level && is_allowed code digit then Some digit else None

-- ---- by a line
-- the question about a level's halt
abbrev pub question_of : LevelId → HaltCode → Sources → Question
question_of level code sources = record { level = level; code = code; to_person = sources.asks_person }

-- a line gives this digit to the halt of this level; a digit alone is for the level that is asked
abbrev pub SaysReply : Question → (to : LevelId) → (digit : ℕ) → Typed → Type 0
SaysReply question to digit (typed.Reply None said) = (to ≡ question.level) × (digit ≡ said)
SaysReply question to digit (typed.Reply (Some level) said) = (to ≡ level) × (digit ≡ said)
SaysReply question to digit _ = ⊥

-- the level and the digit of a reply
abbrev pub reply_in : Typed → Option (Option LevelId × ℕ)
reply_in (typed.Reply to digit) = Some (to, digit)
reply_in _ = None

-- a line gives the halt that is asked about a digit that it allows
abbrev pub answers : Question → Typed → Bool
answers question (typed.Reply None digit) = is_allowed question.code digit
answers question (typed.Reply (Some level) digit) = same_level level question.level && is_allowed question.code digit
answers question _ = false

-- these lines were read, one after the other
abbrev pub LinesAreRead : List Typed → (old new : Option (List ℕ)) → Type 0
LinesAreRead [] old new = new ≡ old
LinesAreRead (line ∷ rest) old new = (middle : Option (List ℕ)) × (GivesNext old middle (Line line) × LinesAreRead rest middle new)

-- lines were read that give no reply: only a person's, which answer other questions
pub record ReadsAside (asks_person : Bool) (old new : Option (List ℕ)) : Type 0 where
  pub lines : List Typed
  pub are_read : LinesAreRead lines old new
  pub are_persons : asks_person ≡ false → lines ≡ []

-- lines were read, of which none is the reply; a line of a list is passed over only if it doesn't answer the halt
pub record PassesOver (question : Question) (old new : Option (List ℕ)) : Type 0 where
  pub lines : List Typed
  pub are_read : LinesAreRead lines old new
  pub none : question.to_person ≡ false → list_any (answers question) lines ≡ false

-- lines were read, of which one gives this digit to the halt of this level
pub record ReadsReply (question : Question) (to : LevelId) (digit : ℕ) (old new : Option (List ℕ)) : Type 0 where
  pub before : Option (List ℕ)
  pub after : Option (List ℕ)
  pub line : Typed
  pub earlier : PassesOver question old before
  pub read : GivesNext before after (Line line)
  pub says : SaysReply question to digit line
  pub later : ReadsAside question.to_person after new

-- the next line was read, of which this is heard: what it says, or nothing if a person typed it before the question
pub record HearsLine (to_person : Bool) (old new : Option (List ℕ)) (heard : Typed) : Type 0 where
  pub line : Typed
  pub read : GivesNext old new (Line line)
  pub is : (heard ≡ line) ⊎ ((to_person ≡ true) × (heard ≡ typed.Nothing))

-- what is heard of the next line; at the end of the lines this is None
abbrev pub Hears : (to_person : Bool) → (old new : Option (List ℕ)) → (heard : Option Typed) → Type 0
Hears to_person old new None = ⊤
Hears to_person old new (Some heard) = HearsLine to_person old new heard

-- what comes of a line that is heard: a reply only if the line gives it, and the end of the day only if a person typed it; of a list's line,
-- nothing only if it doesn't answer the halt
abbrev pub ComesOfLine : Question → Typed → Said → Type 0
ComesOfLine question line (outcome.Reply to digit) = SaysReply question to digit line
ComesOfLine question line outcome.Over = question.to_person ≡ true
ComesOfLine question line outcome.Nothing = question.to_person ≡ false → answers question line ≡ false

-- what comes of a digit for a level
abbrev pub ComesOfDigit : Question → (to : LevelId) → (digit : ℕ) → Said → Type 0
ComesOfDigit question to digit (outcome.Reply level again) = (level ≡ to) × (again ≡ digit)
ComesOfDigit question to digit outcome.Over = ⊥
ComesOfDigit question to digit outcome.Nothing = question.to_person ≡ false → (same_level to question.level && is_allowed question.code digit) ≡ false

-- what comes of a line that is no reply
abbrev pub ComesOfCommand : Question → Said → Type 0
ComesOfCommand question (outcome.Reply to digit) = ⊥
ComesOfCommand question outcome.Over = question.to_person ≡ true
ComesOfCommand question outcome.Nothing = ⊤

-- what comes of lines
abbrev pub ComesOfLines : Question → (old new : Option (List ℕ)) → Said → Type 0
ComesOfLines question old new (outcome.Reply to digit) = ReadsReply question to digit old new
ComesOfLines question old new outcome.Over = ⊤
ComesOfLines question old new outcome.Nothing = PassesOver question old new

-- what comes of a person's line after a reply that is asked for once more
abbrev pub IsConfirmed : (to : LevelId) → (digit : ℕ) → (old new : Option (List ℕ)) → Said → Type 0
IsConfirmed to digit old new (outcome.Reply level again) = (level ≡ to) × ((again ≡ digit) × ReadsAside true old new)
IsConfirmed to digit old new outcome.Over = ⊤
IsConfirmed to digit old new outcome.Nothing = ReadsAside true old new

-- a reply, and the level whose halt it answers, if lines gave one
abbrev pub GivesReply : Question → (old new : Option (List ℕ)) → Option (LevelId × ℕ) → Type 0
GivesReply question old new None = ⊤
GivesReply question old new (Some (to, digit)) = ReadsReply question to digit old new

-- a person has agreed, by lines that were read
abbrev pub HasAgreed : (old new : Option (List ℕ)) → (has_agreed : Bool) → Type 0
HasAgreed old new true = ReadsAside true old new
HasAgreed old new false = ⊤

-- ---- what changes
abbrev pub with_level : LevelId → AtHalt → Sources → Sources
with_level One at sources = record sources { one = at }
with_level Two at sources = record sources { two = at }

-- what was given ahead for a level is forgotten
abbrev pub without_ahead : LevelId → Option (LevelId × ℕ) → Option (LevelId × ℕ)
without_ahead level None = None
without_ahead level (Some (to, digit)) = if same_level to level then None else Some (to, digit)

-- a halt of a level, of this job, card and program; what was given ahead for the level was for another halt
abbrev pub with_halt : LevelId → (job : ℕ) → (card : Option ℕ) → (program : Option Name) → Sources → Sources
with_halt level job card program sources =
    with_level level (record (at_level level sources) { job = job; card = card; program = program }) (record sources { ahead = without_ahead level sources.ahead })

-- a level was given a reply more
abbrev pub with_reply : LevelId → Sources → Sources
with_reply level sources =
    with_level level (record (at_level level sources) { replies = min ((at_level level sources).replies + 1) (2 ^ 64 - 1) }) (record sources { ahead = without_ahead level sources.ahead })

-- a level's halt is shown
pub record ShowsHalt (level : LevelId) (old new : Sources) : Type 0 where
  pub job : ℕ
  pub card : Option ℕ
  pub program : Option Name
  pub is : new ≡ with_halt level job card program old

-- a level was given a reply, unless the day was ended or memory ran out
abbrev pub TakesReply : {E : Type 0} → LevelId → Result (Unit {0}) E → (old new : Sources) → Type 0
TakesReply level (Ok _) old new = new ≡ with_reply level old
TakesReply level (Err e) old new = new ≡ old

-- by a question without a reply nothing is given ahead, or a line that was read gives this
pub record KeepsSources (question : Question) (old new : Sources) (from to : Option (List ℕ)) : Type 0 where
  pub whole : new ≡ record old { ahead = new.ahead }
  pub ahead : (new.ahead ≡ old.ahead) ⊎ ((level : LevelId) × ((digit : ℕ) × ((new.ahead ≡ Some (level, digit)) × ReadsReply question level digit from to)))

-- ---- a question
-- a halt gets this digit: the one that needs no question; or else the one that was given ahead; or else one that a line gives
abbrev pub Answers : (given ahead : Option ℕ) → (IsAside : Type 0) → (IsSaid : ℕ → Type 0) → (digit : ℕ) → Type 0
Answers (Some answer) ahead IsAside IsSaid digit = (digit ≡ answer) × IsAside
Answers None (Some answer) IsAside IsSaid digit = (digit ≡ answer) × IsAside
Answers None None IsAside IsSaid digit = IsSaid digit

-- so it is by these sources and lines, after this was given without a question
abbrev pub IsAnswer : (given : Option ℕ) → LevelId → HaltCode → (digit : ℕ) → Sources → (from to : Option (List ℕ)) → Type 0
IsAnswer given level code digit sources from to =
    Answers given (ahead_for level code sources.ahead) (ReadsAside sources.asks_person from to) (λ digit. ReadsReply (question_of level code sources) level digit from to) digit

-- a level's halt is asked about, after nothing was given without a question
abbrev pub IsQuestioned : {E : Type 0} → LevelId → HaltCode → Result (Option Answer) E → (old new : Sources) → (from to : Option (List ℕ)) → Type 0
IsQuestioned level code (Ok (Some answer)) old new from to = IsAnswer None level code answer.digit old from to × (new ≡ old)
IsQuestioned level code (Ok None) old new from to = KeepsSources (question_of level code old) old new from to
IsQuestioned level code (Err e) old new from to = new ≡ old

-- a level's halt gets this reply
pub record GetsReply (level : LevelId) (code : HaltCode) (digit : ℕ) (old new : Sources) (from to : Option (List ℕ)) : Type 0 where
  pub answers : IsAnswer (given_to level code old) level code digit old from to
  pub counted : new ≡ with_reply level old

-- it gets a reply; or none was given
abbrev pub HasReplied : {E : Type 0} → LevelId → HaltCode → Result (Option ℕ) E → (old new : Sources) → (from to : Option (List ℕ)) → Type 0
HasReplied level code (Ok (Some digit)) old new from to = GetsReply level code digit old new from to
HasReplied level code (Ok None) old new from to = (given_to level code old ≡ None) × KeepsSources (question_of level code old) old new from to
HasReplied level code (Err e) old new from to = KeepsSources (question_of level code old) old new from to

-- it gets a reply; or none: because none was given, or since the desk replies no more
abbrev pub IsAnswered : LevelId → HaltCode → (reply : Option ℕ) → (old new : Sources) → (from to : Option (List ℕ)) → (is_closed : Bool) → Type 0
IsAnswered level code (Some digit) old new from to is_closed = GetsReply level code digit old new from to
IsAnswered level code None old new from to is_closed = ((given_to level code old ≡ None) ⊎ (is_closed ≡ true)) × KeepsSources (question_of level code old) old new from to

-- a level's halt is shown, and lines are read only aside; or memory has run out, so that the desk replies no more
abbrev pub IsShown : LevelId → (old : Sources) → (from : Option (List ℕ)) → (new : Sources) → (to : Option (List ℕ)) → (is_closed : Bool) → Type 0
IsShown level old from new to is_closed = (is_closed ≡ true) ⊎ (ShowsHalt level old new × ReadsAside old.asks_person from to)

-- the operator meets an event
abbrev pub Meets : (old : Sources) → (from : Option (List ℕ)) → Event → (new : Sources) → (to : Option (List ℕ)) → (is_closed : Bool) → Type 0
Meets old from (Followed level one two is_one_over entries) new to is_closed = (new ≡ old) × ReadsAside old.asks_person from to
Meets old from (Shown level halt) new to is_closed = IsShown level old from new to is_closed
Meets old from (Asked level halt reply) new to is_closed = IsAnswered level halt.code reply old new from to is_closed
