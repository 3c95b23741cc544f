-- What is done at a desk.
use Rattle.std.specs.Prelude.{◌≡◌, ◌≢◌, ◌⊎◌, ◌+◌, ◌*◌, ◌-◌, ◌≤◌, ◌<◌, ℕ, zero, suc, Bool, true, false, List, [], ◌∷◌, ◌++◌, length, filter, replicate, Option, Some, None, Result, Ok, Err}
use Rattle.std.specs.List.{list_all}
use Rattle.s3_cards.specs.Inner.Levels.{other}
use Rattle.s3_cards.specs.Printed.{Printed}
use Rattle.s3_cards.specs.declared.levels.LevelId.{LevelId}
use Rattle.s3_cards.specs.declared.levels.LevelId.TheVariants.{One, Two}
use Rattle.s3_operator.specs.Halts.{is_waiting}
use Rattle.s3_solo.specs.declared.action.Action.{Action}
use Rattle.s3_solo.specs.declared.action.Action.TheVariants.{Turn, Reply, Drain}
use Rattle.s3_solo.specs.declared.action.Did.TheVariants.{Acted}
use Rattle.s3_solo.specs.Inner.Lines.{drained_lines}
use Rattle.s3_solo.specs.Lines.{is_queued}
use Rattle.s3_solo.specs.Solo.{solo, step_of}
use Rattle.s3_solo.specs.World.{World}
use Rattle.s3_time.specs.Inner.Moves.{IsAtRest}
use Rattle.s3_level.specs.Inner.Holds.{StopsAtEnd}
use Rattle.s3_level.specs.Inner.Queries.{has_work}
use Rattle.s3_bureau.specs.declared.entry.Entry.{Entry}
use Rattle.s3_bureau.specs.declared.stop.Stop.{Stop}
use Rattle.s3_bureau.specs.Entries.{own}
use Rattle.s3_bureau.specs.Inner.Underway.{Performs}
use Rattle.s3_desk.specs.declared.ends.Bounds.{Bounds}
use Rattle.s3_desk.specs.declared.ends.End.{End}
use Rattle.s3_desk.specs.declared.ends.End.TheVariants.{Done, Halted, OutOfReplies, Cut as CutOff}
use Rattle.s3_desk.specs.declared.ends.Ends.{Ends}
use Rattle.s3_desk.specs.declared.desk.Seat.{Seat}
use Rattle.s3_desk.specs.declared.desk.Went.{Went}
use Rattle.s3_desk.specs.declared.desk.Went.TheVariants.{On, Rests, Cut}
use Rattle.s3_desk.specs.Inner.Events.{Event, Followed}

-- ---- replies
abbrev pub is_reply : Action → Bool
is_reply (Reply digit) = true
is_reply _ = false

-- the replies among entries
abbrev pub replies_in : List Entry → List Entry
replies_in entries = filter (λ entry. is_reply entry.action) entries

-- these events were met, one after the other, by which an operator came from one state to another
abbrev pub AreMet : {O : Type 0} → (O → Event → O → Type 0) → O → List Event → O → Type 0
AreMet meets old [] new = new ≡ old
AreMet {O} meets old (event ∷ events) new = (middle : O) × (meets old event middle × AreMet meets middle events new)

-- ---- what a level takes of what is left to it
abbrev pub is_turn : Action → Bool
is_turn Turn = true
is_turn _ = false

abbrev pub is_drain : Action → Bool
is_drain Drain = true
is_drain _ = false

-- how many turns a level takes by entries
abbrev pub turns_in : LevelId → List Entry → ℕ
turns_in level entries = length (filter is_turn (own level entries))

-- how many lines are drained in a level by entries
abbrev pub lines_in : LevelId → List Entry → ℕ
lines_in level entries = length (filter is_drain (own level entries))

-- The last entries of a level, after all that it had taken at first, are just so many replies: with no turn and no line between them.
pub record RepliesLast (level : LevelId) (first is : List Entry) (count : ℕ) : Type 0 where
  pub before : List Action
  pub replies : List Action
  pub whole : own level is ≡ own level first ++ (before ++ replies)
  pub are_replies : list_all is_reply replies ≡ true
  pub many : length replies ≡ count
  pub no_more : (actions : List Action) (digit : ℕ) → before ≢ actions ++ Reply digit ∷ []

-- the last entry of a level isn't its first turn after a reply
abbrev pub IsPastReply : (level : LevelId) (first is : List Entry) → Type 0
IsPastReply level first is = (actions : List Action) (digit : ℕ) → own level is ≢ own level first ++ (actions ++ Reply digit ∷ Turn ∷ [])

-- how many turns a level takes at most before the operator follows, by the replies that it took since it went on last
abbrev pub stride_of : (answers : ℕ) → ℕ
stride_of zero = 1000
stride_of (suc answers) = 1

-- if so many replies were the last entries of a level, so many are now
abbrev pub Counts : (level : LevelId) (was is : List Entry) (old new : ℕ) → Type 0
Counts level was is old new = (first : List Entry) → RepliesLast level first was old → RepliesLast level first is new

-- a reply more, if one was taken
abbrev pub with_reply : (is_taken : Bool) → ℕ → ℕ
with_reply true answers = answers + 1
with_reply false answers = answers

-- a level has drained so many lines, and done nothing else
pub record TakesLines (level : LevelId) (was is : List Entry) : Type 0 where
  pub times : ℕ
  pub whole : is ≡ was ++ replicate times (record { level = level; action = Drain })

-- a level has no turn left, or no line
abbrev pub IsSpent : Bounds → Type 0
IsSpent left = (left.turns ≡ 0) ⊎ (left.lines ≡ 0)

-- how many turns and lines are left
abbrev pub room : Bounds → ℕ
room left = left.turns + left.lines

-- what was taken of a level's turns and lines is no more left to it
pub record Spends (level : LevelId) (was is : List Entry) (old new : Bounds) : Type 0 where
  pub turns : turns_in level is + new.turns ≡ turns_in level was + old.turns
  pub lines : lines_in level is + new.lines ≡ lines_in level was + old.lines
  pub less : room new ≤ room old

-- and something was where it has gone on; nothing more is left where it is cut
pub record Uses (level : LevelId) (was is : List Entry) (old new : Bounds) (went : Went) : Type 0 where
  pub spends : Spends level was is old new
  pub some : went ≡ On → room new < room old
  pub all : went ≡ Cut → IsSpent new

-- a level has taken as many turns as it may, or as many lines were drained
abbrev pub HasReached : LevelId → (was is : List Entry) → Bounds → Type 0
HasReached level was is bounds = (turns_in level is ≡ turns_in level was + bounds.turns) ⊎ (lines_in level is ≡ lines_in level was + bounds.lines)

-- a level has taken so many replies, with no turn and no line between them, that the operator isn't asked again
abbrev pub HasReplied : LevelId → (was is : List Entry) → Type 0
HasReplied level was is = RepliesLast level was is 65535

-- how many replies may still be taken before the level goes on
abbrev pub replies_left : Seat → ℕ
replies_left seat = 65535 - seat.answers

-- what is left to do at a desk grows less by each round
abbrev pub work_left : Seat → Seat → ℕ
work_left one two = 131071 * (room one.left + room two.left) + (replies_left one + replies_left two)

-- ---- where a level is left
-- a world at rest, with no line queued
pub record IsLeft (w : World) : Type 0 where
  pub rests : IsAtRest w
  pub empty : is_queued w.lines ≡ false

-- where a level was left: at rest, if no halt waits, or one does, or one does that isn't asked about
abbrev pub EndsAs : End → World → Type 0
EndsAs Done w = IsLeft w × (is_waiting w.halts ≡ false)
EndsAs Halted w = IsLeft w × (is_waiting w.halts ≡ true)
EndsAs OutOfReplies w = IsLeft w × (is_waiting w.halts ≡ true)
EndsAs CutOff w = Unit {0}

-- a world that goes on no more: no job is at work or left, no line is queued, and no halt was shown
pub record IsOver (w : World) : Type 0 where
  pub no_work : has_work w ≡ false
  pub empty : is_queued w.lines ≡ false
  pub no_halts : w.halts ≡ []

-- ---- a level that goes on, over what holds worlds
module _ {M : Type 0} (holds : M → LevelId → World → Type 0) where
  -- these lines are those that a level has printed, in each world that is held for it
  abbrev pub HasDrained : LevelId → M → List Printed → Type 0
  HasDrained level now lines = (w : World) → holds now level w → lines ≡ drained_lines w.lines

  -- a level is reported as over exactly if it is so
  pub record TellsOver (level : LevelId) (now : M) (is_over : Bool) : Type 0 where
    pub so : is_over ≡ true → (w : World) → holds now level w → IsOver w
    pub only : (w : World) → holds now level w → IsOver w → is_over ≡ true

  -- an operator followed a level: it was given what both levels have printed, and what was performed
  pub record Follows {O : Type 0} (meets : O → Event → O → Type 0) (level : LevelId) (is : List Entry) (now : M) (from to : O) : Type 0 where
    pub one : List Printed
    pub two : List Printed
    pub is_one_over : Bool
    pub met : meets from (Followed level one two is_one_over is) to
    pub one_drained : HasDrained One now one
    pub two_drained : HasDrained Two now two
    pub one_over : TellsOver One now is_one_over

  -- it followed a level, or nothing was performed
  abbrev pub FollowsAll : {O : Type 0} → (O → Event → O → Type 0) → LevelId → (was is : List Entry) → M → O → O → Type 0
  FollowsAll meets level was is now old new = ((is ≡ was) × (new ≡ old)) ⊎ Follows meets level is now old new

  -- a level has taken so many turns, at most a stride, and done nothing else; and none of them but the last has ended a job
  pub record TakesStride (stride : ℕ) (level : LevelId) (was is : List Entry) (old : M) : Type 0 where
    pub times : ℕ
    pub few : times ≤ stride
    pub whole : is ≡ was ++ replicate times (record { level = level; action = Turn })
    pub at_work : StopsAtEnd Turn times (holds old level)

  -- a level has taken a stride of turns up to the end of a job, or drained lines, but not both
  abbrev pub StepsAlike : (stride : ℕ) → LevelId → (was is : List Entry) → (old : M) → Type 0
  StepsAlike stride level was is old = TakesStride stride level was is old ⊎ TakesLines level was is

  -- whatever was performed before, these entries have been performed now
  abbrev pub GoesOn : (was is : List Entry) → (old new : M) → Type 0
  GoesOn was is old new = (first : M) → Performs was (holds first) (holds old) → Performs is (holds first) (holds new)

  -- a level has gone on, with these replies, and the other level has no entry more
  pub record LevelGoes (level : LevelId) (replies was is : List Entry) (old new : M) : Type 0 where
    pub goes : GoesOn was is old new
    pub alone : own (other level) is ≡ own (other level) was
    pub more : List Entry
    pub whole : is ≡ was ++ more
    pub are : replies_in more ≡ replies

  -- what was held still is
  abbrev pub Keeps : (old new : M) → Type 0
  Keeps old new = (level : LevelId) (w : World) → holds old level w → holds new level w

  -- nothing was performed, and what was held still is
  pub record IsQuiet (was is : List Entry) (old new : M) : Type 0 where
    pub same : is ≡ was
    pub keeps : Keeps old new

  -- an entry did nothing in the worlds that were held
  pub record DidNothing (level : LevelId) (action : Action) (was is : List Entry) (old new : M) : Type 0 where
    pub quiet : IsQuiet was is old new
    pub nothing : (w : World) → holds old level w → (step_of w action).did ≢ Acted

  -- turns were taken; or the first of them did nothing; or no more may be
  abbrev pub TakesTurns : LevelId → (was is : List Entry) → (old new : M) → Result Went Stop → Type 0
  TakesTurns level was is old new (Ok On) = LevelGoes level [] was is old new
  TakesTurns level was is old new (Ok Rests) = DidNothing level Turn was is old new
  TakesTurns level was is old new (Ok Cut) = IsQuiet was is old new
  TakesTurns level was is old new (Err stop) = Unit {0}

  -- lines were drained so far, or none was
  abbrev pub DrainsSoFar : LevelId → (was is : List Entry) → (old new : M) → Went → Type 0
  DrainsSoFar level was is old new On = LevelGoes level [] was is old new
  DrainsSoFar level was is old new Rests = IsQuiet was is old new
  DrainsSoFar level was is old new Cut = LevelGoes level [] was is old new

  -- all queued lines were drained; or none was queued; or no more may be
  abbrev pub DrainsQueue : LevelId → (was is : List Entry) → (old new : M) → Result Went Stop → Type 0
  DrainsQueue level was is old new (Ok On) = LevelGoes level [] was is old new
  DrainsQueue level was is old new (Ok Rests) = DidNothing level Drain was is old new
  DrainsQueue level was is old new (Ok Cut) = LevelGoes level [] was is old new
  DrainsQueue level was is old new (Err stop) = Unit {0}

  -- the level was left at rest, with no line queued
  pub record IsLeftAt (level : LevelId) (was is : List Entry) (old new : M) : Type 0 where
    pub quiet : IsQuiet was is old new
    pub left : (w : World) → holds old level w → IsLeft w

  -- a level has gone on; or it is left at rest; or no more turns or lines may be
  abbrev pub LevelGoesOn : LevelId → (was is : List Entry) → (old new : M) → Result Went Stop → Type 0
  LevelGoesOn level was is old new (Ok On) = LevelGoes level [] was is old new
  LevelGoesOn level was is old new (Ok Rests) = IsLeftAt level was is old new
  LevelGoesOn level was is old new (Ok Cut) = LevelGoes level [] was is old new
  LevelGoesOn level was is old new (Err stop) = Unit {0}

  -- a reply was taken; or none was
  abbrev pub AsksLevel : LevelId → (was is : List Entry) → (old new : M) → Result Bool Stop → Type 0
  AsksLevel level was is old new (Ok true) = (replies : List Entry) × LevelGoes level replies was is old new
  AsksLevel level was is old new (Ok false) = IsQuiet was is old new
  AsksLevel level was is old new (Err stop) = Unit {0}

  -- the reply is the one entry that was performed
  pub record TakesReply (level : LevelId) (digit : ℕ) (was is : List Entry) (old new : M) : Type 0 where
    pub goes : LevelGoes level (record { level = level; action = Reply digit } ∷ []) was is old new
    pub whole : is ≡ was ++ record { level = level; action = Reply digit } ∷ []

  -- a reply was given, and taken or not
  abbrev pub GivesReply : LevelId → (digit : ℕ) → (was is : List Entry) → (old new : M) → Result Bool Stop → Type 0
  GivesReply level digit was is old new (Ok true) = TakesReply level digit was is old new
  GivesReply level digit was is old new (Ok false) = IsQuiet was is old new
  GivesReply level digit was is old new (Err stop) = Unit {0}

  -- ---- a day
  -- each world that was held at first has come to its end by the level's own entries
  abbrev pub EndedAt : End → LevelId → List Entry → M → Type 0
  EndedAt end level entries first = (w : World) → holds first level w → EndsAs end (solo w (own level entries))

  -- a level is at rest by its own entries
  abbrev pub RestsAt : LevelId → List Entry → M → Type 0
  RestsAt level entries first = (w : World) → holds first level w → IsLeft (solo w (own level entries))

  -- both levels have come to their ends
  pub record BothEnd (was is : List Entry) (old new : M) (ends : Ends) : Type 0 where
    pub goes : GoesOn was is old new
    pub one : (first : M) → Performs was (holds first) (holds old) → EndedAt ends.one One is first
    pub two : (first : M) → Performs was (holds first) (holds old) → EndedAt ends.two Two is first

  abbrev pub RoundEnds : (was is : List Entry) → (old new : M) → Result (Option Ends) Stop → Type 0
  RoundEnds was is old new (Ok None) = GoesOn was is old new
  RoundEnds was is old new (Ok (Some ends)) = BothEnd was is old new ends
  RoundEnds was is old new (Err stop) = Unit {0}

  abbrev pub DayEnds : (was is : List Entry) → (old new : M) → Result Ends Stop → Type 0
  DayEnds was is old new (Ok ends) = BothEnd was is old new ends
  DayEnds was is old new (Err stop) = Unit {0}
