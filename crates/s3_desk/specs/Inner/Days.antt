-- What comes of a day at the desk over a pack.
use Rattle.std.specs.Prelude.{◌≡◌, ℕ, List, [], Option, Result, Ok, Err}
use Rattle.s3_cards.specs.declared.levels.LevelId.{LevelId}
use Rattle.s3_cards.specs.declared.levels.LevelId.TheVariants.{One, Two}
use Rattle.s3_slots.specs.declared.header.Header.{Header}
use Rattle.s3_solo.specs.Inner.Lines.{drained_lines}
use Rattle.s3_solo.specs.Solo.{closed, solo}
use Rattle.s3_solo.specs.World.{World, at_start}
use Rattle.s3_bureau.specs.declared.entry.Entry.{Entry}
use Rattle.s3_bureau.specs.declared.outcome.RunLines.{RunLines}
use Rattle.s3_bureau.specs.declared.run_fault.RunFault.{RunFault}
use Rattle.s3_bureau.specs.Entries.{own}
use Rattle.s3_bureau.specs.Inner.Held.{HoldsFor, State, lines_at}
use Rattle.s3_bureau.specs.Texts.{halt_text_of}
use Rattle.s3_desk.specs.declared.day.Day.{Day}
use Rattle.s3_desk.specs.declared.ends.Bounds.{Bounds}
use Rattle.s3_desk.specs.declared.ends.End.TheVariants.{Halted}
use Rattle.s3_desk.specs.declared.ends.Ends.{Ends}
use Rattle.s3_desk.specs.Inner.Desk.{AreMet, EndsAs, HasReached, IsPastReply}
use Rattle.s3_desk.specs.Inner.Events.{Event}
use Rattle.s3_desk.specs.Inner.Moments.{AllShown, AskedInVain, EachFits, InTime, IsFollowed, Moment, events_in, performed_in}

-- what a day leaves, as a run leaves it
abbrev pub run_of : Result Day RunFault → Result RunLines RunFault
run_of (Ok day) = Ok day.run
run_of (Err fault) = Err fault

-- the world of each level before its first entry, over a mounted pack and its own deck
abbrev pub starts_in : Header → (contents cards1 cards2 : List (List ℕ)) → LevelId → World
starts_in header contents cards1 cards2 One = at_start One header contents cards1
starts_in header contents cards1 cards2 Two = at_start Two header contents cards2

-- A day has printed what each level's world has after its own entries, closed; and level 1's halt text is that of its world, after the
-- line of a deck that was refused.
pub record HasPrinted (starts : LevelId → World) (refusal : Option (ℕ × ℕ)) (entries : List Entry) (run : RunLines) : Type 0 where
  pub one : run.one.lines.items ≡ drained_lines (closed (solo (starts One) (own One entries))).lines
  pub two : run.two.lines.items ≡ drained_lines (closed (solo (starts Two) (own Two entries))).lines
  pub halts : run.one.halts.items ≡ halt_text_of refusal (closed (solo (starts One) (own One entries))).halts

-- so it is in a bureau that was finished
pub record LeavesLines (refusal : Option (ℕ × ℕ)) (entries : List Entry) (old new : State) (halts : List ℕ) : Type 0 where
  pub one : (w : World) → HoldsFor One old w → lines_at One new ≡ drained_lines (closed (solo w (own One entries))).lines
  pub two : (w : World) → HoldsFor Two old w → lines_at Two new ≡ drained_lines (closed (solo w (own Two entries))).lines
  pub text : (w : World) → HoldsFor One old w → halts ≡ halt_text_of refusal (closed (solo w (own One entries))).halts

-- by its own entries each level comes from its world at the start to where it was left
pub record EndSo (starts : LevelId → World) (entries : List Entry) (ends : Ends) : Type 0 where
  pub one : EndsAs ends.one (solo (starts One) (own One entries))
  pub two : EndsAs ends.two (solo (starts Two) (own Two entries))

-- The day as one list, by which an operator came from one state to another. Its entries are those that were performed. Each moment came
-- in its time, each halt was shown, and the operator has followed all. A level that was left halted was asked in vain.
pub record IsAnswered {O : Type 0} (meets : O → Event → O → Type 0) (starts : LevelId → World) (bounds : Bounds) (entries : List Entry) (ends : Ends) (from to : O) : Type 0 where
  pub day : List Moment
  pub whole : entries ≡ performed_in day
  pub met : AreMet meets from (events_in day) to
  pub fits : EachFits (InTime starts (λ level entries. IsPastReply level [] entries) (λ level entries. HasReached level [] entries bounds)) [] day
  pub shown : (level : LevelId) → AllShown starts day level
  pub followed : IsFollowed day
  pub one_halted : ends.one ≡ Halted → AskedInVain One day
  pub two_halted : ends.two ≡ Halted → AskedInVain Two day
