-- A day at the desk as one list: what was performed and what the operator met, in order.
use Rattle.std.specs.Prelude.{◌≡◌, ◌⊎◌, ℕ, Bool, true, List, [], ◌∷◌, ◌++◌, map, Option, Some, None, is_some, if◌then◌else◌}
use Rattle.std.specs.List.{flat_map}
use Rattle.s3_cards.specs.Inner.Levels.{other}
use Rattle.s3_cards.specs.Printed.{Printed}
use Rattle.s3_cards.specs.declared.levels.LevelId.{LevelId}
use Rattle.s3_cards.specs.declared.levels.LevelId.TheVariants.{One, Two}
use Rattle.s3_operator.specs.declared.halt_code.HaltCode.{HaltCode}
use Rattle.s3_operator.specs.Halts.{ShownHalt, last_halt}
use Rattle.s3_operator.specs.Replies.{is_allowed}
use Rattle.s3_solo.specs.declared.action.Action.TheVariants.{Turn, Reply, Drain}
use Rattle.s3_solo.specs.Inner.Lines.{drained_lines}
use Rattle.s3_solo.specs.Solo.{solo}
use Rattle.s3_solo.specs.World.{World}
use Rattle.s3_bureau.specs.declared.entry.Entry.{Entry}
use Rattle.s3_bureau.specs.Entries.{own}
use Rattle.s3_desk.specs.Inner.Desk.{IsLeft, IsOver}
use Rattle.s3_desk.specs.Inner.Events.{Asked, Event, Followed, Shown}

pub data Moment : Type 0 where
  -- the level took a turn
  Turned : LevelId → Moment
  -- a line of the level was drained
  Drained : LevelId → Moment
  -- the operator met this; a reply that the halt allows was performed at once
  Met : Event → Moment

-- ---- what was performed
-- the entry of a reply that the halt allows; any other answer is no entry
abbrev pub reply_to : LevelId → HaltCode → Option ℕ → List Entry
reply_to level code None = []
reply_to level code (Some digit) = if is_allowed code digit then (record { level = level; action = Reply digit }) ∷ [] else []

abbrev pub performed_by : Event → List Entry
performed_by (Followed level one two is_one_over entries) = []
performed_by (Shown level halt) = []
performed_by (Asked level halt reply) = reply_to level halt.code reply

abbrev pub performed_at : Moment → List Entry
performed_at (Turned level) = (record { level = level; action = Turn }) ∷ []
performed_at (Drained level) = (record { level = level; action = Drain }) ∷ []
performed_at (Met event) = performed_by event

-- the entries of a day: turns, drains, and each reply at its own question
abbrev pub performed_in : List Moment → List Entry
performed_in day = flat_map performed_at day

-- ---- what the operator met
abbrev pub met_at : Moment → List Event
met_at (Turned level) = []
met_at (Drained level) = []
met_at (Met event) = event ∷ []

abbrev pub events_in : List Moment → List Event
events_in day = flat_map met_at day

-- a halt of this level, or of the other one
abbrev pub of_level : LevelId → LevelId → ShownHalt → List ShownHalt
of_level One One halt = halt ∷ []
of_level Two Two halt = halt ∷ []
of_level One Two halt = []
of_level Two One halt = []

abbrev pub shown_by : LevelId → Event → List ShownHalt
shown_by level (Followed from one two is_one_over entries) = []
shown_by level (Shown from halt) = of_level level from halt
shown_by level (Asked from halt reply) = []

abbrev pub shown_at : LevelId → Moment → List ShownHalt
shown_at level (Turned from) = []
shown_at level (Drained from) = []
shown_at level (Met event) = shown_by level event

-- the halts of a level that were shown, in order
abbrev pub shown_in : LevelId → List Moment → List ShownHalt
shown_in level day = flat_map (shown_at level) day

-- ---- what the operator has followed
abbrev pub turn_of : LevelId → Entry
turn_of level = record { level = level; action = Turn }

abbrev pub drain_of : LevelId → Entry
drain_of level = record { level = level; action = Drain }

abbrev pub due_by : Event → Option Entry → Option Entry
due_by (Followed level one two is_one_over entries) due = None
due_by (Shown level halt) due = due
due_by (Asked level halt reply) due = due

abbrev pub due_at : Moment → Option Entry → Option Entry
due_at (Turned level) due = Some (turn_of level)
due_at (Drained level) due = Some (drain_of level)
due_at (Met event) due = due_by event due

-- the last turn or drain that the operator hasn't followed, if there is one
abbrev pub due_in : Option Entry → List Moment → Option Entry
due_in due [] = due
due_in due (moment ∷ day) = due_in (due_at moment due) day

-- the operator has followed each turn and each drain of a day
abbrev pub IsFollowed : List Moment → Type 0
IsFollowed day = due_in None day ≡ None

-- ---- each moment in its time
-- each moment fits what was before it
abbrev pub EachFits : (Fits : List Moment → Moment → Type 0) → (before day : List Moment) → Type 0
EachFits Fits before [] = Unit {0}
EachFits Fits before (moment ∷ day) = Fits before moment × EachFits Fits (before ++ moment ∷ []) day

-- halts as they were when they were shown, without a reply
abbrev pub as_shown : List ShownHalt → List ShownHalt
as_shown halts = map (λ (halt : ShownHalt). record halt { reply = None }) halts

-- the halt is the last one of these, and waits
pub record Waits (halts : List ShownHalt) (halt : ShownHalt) : Type 0 where
  pub last : last_halt halts ≡ Some halt
  pub unanswered : halt.reply ≡ None

-- the halt waits, and was not shown, as those before it were
pub record IsNew (halts shown : List ShownHalt) (halt : ShownHalt) : Type 0 where
  pub waits : Waits halts halt
  pub others : as_shown halts ≡ shown ++ halt ∷ []

-- `starts` has the world of each level before the day
module _ (starts : LevelId → World) where
  -- a level's world after its own entries of a day so far
  abbrev pub world_after : List Moment → LevelId → World
  world_after day level = solo (starts level) (own level (performed_in day))

  -- all halts of a level were shown, each once, in their order
  abbrev pub AllShown : List Moment → LevelId → Type 0
  AllShown day level = as_shown (world_after day level).halts ≡ shown_in level day

  -- the operator is given what each level has printed by then, in the level's own world, and all that was performed
  pub record FollowedInTime (before : List Moment) (one two : List Printed) (is_one_over : Bool) (entries : List Entry) : Type 0 where
    pub one_printed : one ≡ drained_lines (world_after before One).lines
    pub two_printed : two ≡ drained_lines (world_after before Two).lines
    pub one_over : is_one_over ≡ true → IsOver (world_after before One)
    pub only_over : IsOver (world_after before One) → is_one_over ≡ true
    pub performed : entries ≡ performed_in before

  -- what the operator hasn't followed before a drain are drains of the same level
  abbrev pub MayDrain : List Moment → LevelId → Type 0
  MayDrain before level = IsFollowed before ⊎ (due_in None before ≡ Some (drain_of level))

  -- These say of a level and of the entries so far: the last one isn't its first turn after a reply (`IsPast`); it has come to a limit
  -- (`IsCut`).
  module _ (IsPast IsCut : LevelId → List Entry → Type 0) where
    -- What the operator hasn't followed before a turn are turns of the same level, none of which has ended a job, or was its first turn
    -- after a reply.
    abbrev pub MayTurn : List Moment → LevelId → Type 0
    MayTurn before level = IsFollowed before ⊎ ((due_in None before ≡ Some (turn_of level)) × ((is_some (world_after before level).job ≡ true) × IsPast level (performed_in before)))

    -- a reply is asked for when the halt waits and was shown, its level is at rest, and the other level is at rest or at a limit
    pub record AskedInTime (before : List Moment) (level : LevelId) (halt : ShownHalt) : Type 0 where
      pub waits : Waits (world_after before level).halts halt
      pub shown : AllShown before level
      pub rests : IsLeft (world_after before level)
      pub other_rests : IsLeft (world_after before (other level)) ⊎ IsCut (other level) (performed_in before)
      pub followed : IsFollowed before

    abbrev pub MetInTime : List Moment → Event → Type 0
    MetInTime before (Followed level one two is_one_over entries) = FollowedInTime before one two is_one_over entries
    MetInTime before (Shown level halt) = IsNew (world_after before level).halts (shown_in level before) halt × IsFollowed before
    MetInTime before (Asked level halt reply) = AskedInTime before level halt

    -- a moment came in its time
    abbrev pub InTime : List Moment → Moment → Type 0
    InTime before (Turned level) = MayTurn before level
    InTime before (Drained level) = MayDrain before level
    InTime before (Met event) = MetInTime before event

-- ---- a level that ends at a halt
-- the level's last question was put after all entries, and got no reply that the halt allows
pub record AskedInVain (level : LevelId) (day : List Moment) : Type 0 where
  pub before : List Moment
  pub halt : ShownHalt
  pub reply : Option ℕ
  pub later : List Moment
  pub whole : day ≡ before ++ Met (Asked level halt reply) ∷ later
  pub vain : performed_in (Met (Asked level halt reply) ∷ later) ≡ []
