-- Reports that are written while a day goes on.
use Rattle.std.specs.Prelude.{◌≡◌, ◌⊎◌, ◌++◌, ℕ, Bool, true, List, [], Option}
use Rattle.s3_cards.specs.Printed.{Printed}
use Rattle.s3_cards.specs.declared.levels.LevelId.{LevelId}
use Rattle.s3_cards.specs.declared.levels.LevelId.TheVariants.{One, Two}
use Rattle.s3_solo.specs.Inner.Lines.{drained_lines}
use Rattle.s3_solo.specs.Solo.{closed}
use Rattle.s3_solo.specs.World.{World}
use Rattle.s3_reports.specs.declared.place.Place.{Place}
use Rattle.s3_reports.specs.Inner.Reports.{IsOneWritten, IsTwoWritten, written_at}
use Rattle.s3_reports.specs.Inner.Written.{Moves}
use Rattle.s3_desk.specs.Inner.Events.{Asked, Event, Followed, Shown}
use Rattle.s3_desk.specs.Inner.Moments.{Moment, world_after}

-- what is known of reports: the bytes of their writer, whether a write has failed, and how far they are written
pub record Sheet : Type 0 where
  pub contents : Option (List ℕ)
  pub has_failed : Bool
  pub place : Place

-- Reports have come from one place to another. The day ends with these lines of both levels, and this halt text of level 1.
abbrev pub Goes : (old new : Sheet) (one two : List Printed) (halts : List ℕ) → Type 0
Goes old new one two halts = Moves old.contents new.contents old.has_failed new.has_failed (written_at old.place one two halts) (written_at new.place one two halts)

-- What is written of the lines that both levels have printed: all of level 1's, and level 2's once level 1 is over and its deck was
-- read.
pub record PrintsLines (is_read is_one_over : Bool) (one two : List Printed) (old new : Sheet) : Type 0 where
  pub goes : (later_one later_two : List Printed) (halts : List ℕ) → (is_one_over ≡ true → is_read ≡ true → (later_one ≡ []) × (halts ≡ [])) → Goes old new (one ++ later_one) (two ++ later_two) halts
  pub level_one : IsOneWritten new.place one
  pub level_two : is_one_over ≡ true → is_read ≡ true → (two ≡ []) ⊎ IsTwoWritten new.place two

-- What is written when the operator meets something. `is_read` says that level 1's deck was read.
abbrev pub Prints : (is_read : Bool) → Event → (old new : Sheet) → Type 0
Prints is_read (Followed level one two is_one_over entries) old new = PrintsLines is_read is_one_over one two old new
Prints is_read (Shown level halt) old new = new ≡ old
Prints is_read (Asked level halt reply) old new = new ≡ old

-- an operator with reports meets something: the operator has met it, and the reports are written
abbrev pub MeetsPrinting : (met : Type 0) → (was_read is_read : Bool) → Event → (old new : Sheet) → Type 0
MeetsPrinting met was_read is_read event old new = met × ((is_read ≡ was_read) × Prints was_read event old new)

-- A day ends with these lines of both levels, and with this halt text of level 1, which is empty if the deck was read and no halt was
-- shown.
pub record IsWhole (starts : LevelId → World) (day : List Moment) (is_read : Bool) (all_one all_two : List Printed) (text : List ℕ) : Type 0 where
  pub one : all_one ≡ drained_lines (closed (world_after starts day One)).lines
  pub two : all_two ≡ drained_lines (closed (world_after starts day Two)).lines
  pub halts : is_read ≡ true → (closed (world_after starts day One)).halts ≡ [] → text ≡ []
