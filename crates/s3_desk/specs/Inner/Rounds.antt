-- What the desk does with an operator, and the day that comes of it.
use Rattle.std.specs.Prelude.{◌≡◌, ◌≢◌, ◌⊎◌, ℕ, Bool, true, false, List, [], ◌++◌, Option, Some, None}
use Rattle.s3_cards.specs.declared.levels.LevelId.{LevelId}
use Rattle.s3_cards.specs.declared.levels.LevelId.TheVariants.{One, Two}
use Rattle.s3_operator.specs.declared.halt_code.HaltCode.{HaltCode}
use Rattle.s3_operator.specs.Halts.{ShownHalt, is_waiting}
use Rattle.s3_operator.specs.Replies.{is_allowed}
use Rattle.s3_solo.specs.World.{World}
use Rattle.s3_bureau.specs.declared.entry.Entry.{Entry}
use Rattle.s3_bureau.specs.Inner.Underway.{Performs}
use Rattle.s3_desk.specs.declared.ends.End.TheVariants.{Halted}
use Rattle.s3_desk.specs.declared.ends.Ends.{Ends}
use Rattle.s3_desk.specs.declared.desk.Went.{Went}
use Rattle.s3_desk.specs.declared.desk.Went.TheVariants.{Rests}
use Rattle.s3_desk.specs.Inner.Desk.{AreMet, FollowsAll, GoesOn, Keeps, StepsAlike, stride_of}
use Rattle.s3_desk.specs.Inner.Events.{Asked, Event, Shown}
use Rattle.s3_desk.specs.Inner.Moments.{AllShown, AskedInVain, EachFits, InTime, IsFollowed, IsNew, Moment, Waits, as_shown, events_in, performed_in, reply_to, shown_in, world_after}

-- ---- the halts of a level, those of them that were shown, and the mark that the last one was
-- all were shown; the mark says whether the last one waits
pub record ShowsAll (halts shown : List ShownHalt) (is_shown : Bool) : Type 0 where
  pub all : as_shown halts ≡ shown
  pub mark : is_shown ≡ is_waiting halts

-- all but a halt that has come
pub record HasNew (halts shown : List ShownHalt) (is_shown : Bool) : Type 0 where
  pub mark : is_shown ≡ false
  pub halt : ShownHalt
  pub new : IsNew halts shown halt

abbrev pub Shows : (halts shown : List ShownHalt) (is_shown : Bool) → Type 0
Shows halts shown is_shown = ShowsAll halts shown is_shown ⊎ HasNew halts shown is_shown

abbrev pub at_level : {A : Type 0} → (one two : A) → LevelId → A
at_level one two One = one
at_level one two Two = two

-- ---- a part of a day, which comes after what was before
pub record Passes {O : Type 0} (meets : O → Event → O → Type 0) (Fits : List Moment → Moment → Type 0) (before day : List Moment) (is : List Entry) (from to : O) : Type 0 where
  pub whole : is ≡ performed_in (before ++ day)
  pub met : AreMet meets from (events_in day) to
  pub fits : EachFits Fits before day

-- the halts of both levels, where the day goes on; and where it is over, each was shown, and a level that is halted was asked in vain
abbrev pub IsLeftSo : (starts : LevelId → World) (day : List Moment) (one two : Bool) → Option Ends → Type 0
IsLeftSo starts day one two None = Shows (world_after starts day One).halts (shown_in One day) one × Shows (world_after starts day Two).halts (shown_in Two day) two
IsLeftSo starts day one two (Some ends) =
    ((level : LevelId) → AllShown starts day level) × ((ends.one ≡ Halted → AskedInVain One day) × (ends.two ≡ Halted → AskedInVain Two day))

-- ---- a day goes on, or is over
pub record Sits {O : Type 0} (meets : O → Event → O → Type 0) (starts : LevelId → World) (IsPast IsCut : LevelId → List Entry → Type 0) (before : List Moment) (is : List Entry) (from to : O) (one two : Bool) (ends : Option Ends) : Type 0 where
  pub day : List Moment
  pub passes : Passes meets (InTime starts IsPast IsCut) before day is from to
  pub left : IsLeftSo starts (before ++ day) one two ends
  pub followed : IsFollowed (before ++ day)

-- a reply was taken, which the halt allows; or none was, which it does
abbrev pub IsTaken : Bool → LevelId → HaltCode → Option ℕ → Type 0
IsTaken true level code reply = (digit : ℕ) × ((reply ≡ Some digit) × (is_allowed code digit ≡ true))
IsTaken false level code reply = reply_to level code reply ≡ []

module _ {M : Type 0} (holds : M → LevelId → World → Type 0) where
  -- a first state held these worlds, and the entries of the moments before were performed and followed
  pub record Begun (first : M) (starts : LevelId → World) (before : List Moment) (was : List Entry) (old : M) : Type 0 where
    pub held : (level : LevelId) → holds first level (starts level)
    pub performed : Performs was (holds first) (holds old)
    pub whole : was ≡ performed_in before
    pub followed : IsFollowed before

  module _ {O : Type 0} (meets : O → Event → O → Type 0) where
    -- ---- a halt is shown
    -- none is: that which waits was shown, or none waits
    pub record ShowsNone (level : LevelId) (old : M) (from to : O) (was_shown is_shown : Bool) : Type 0 where
      pub same : to ≡ from
      pub why : (w : World) → holds old level w → (is_shown ≡ was_shown) × ((was_shown ≡ true) ⊎ (is_waiting w.halts ≡ false))

    -- that which waits is
    pub record ShowsOne (level : LevelId) (old : M) (from to : O) (was_shown is_shown : Bool) : Type 0 where
      pub halt : ShownHalt
      pub met : meets from (Shown level halt) to
      pub waits : (w : World) → holds old level w → Waits w.halts halt
      pub was_not : was_shown ≡ false
      pub is_now : is_shown ≡ true

    abbrev pub ShowsHalt : (level : LevelId) (old : M) (from to : O) (was_shown is_shown : Bool) → Type 0
    ShowsHalt level old from to was_shown is_shown = ShowsNone level old from to was_shown is_shown ⊎ ShowsOne level old from to was_shown is_shown

    -- a level that had taken so many replies has gone on, the operator has followed that, and a halt that has come was shown
    pub record Serves (level : LevelId) (answers : ℕ) (was is : List Entry) (old new : M) (from to : O) (was_shown is_shown : Bool) : Type 0 where
      pub middle : M
      pub half : O
      pub goes : GoesOn holds was is old middle
      pub keeps : Keeps holds middle new
      pub alike : StepsAlike holds (stride_of answers) level was is old
      pub followed : FollowsAll holds meets level was is middle from half
      pub shows : ShowsHalt level middle half to was_shown is_shown

    -- ---- a halt is asked about
    -- none is: the level isn't at rest, it has taken too many replies, or no halt waits
    pub record AsksNone (level : LevelId) (went : Went) (answers : ℕ) (was is : List Entry) (old : M) (from to : O) (is_taken : Bool) : Type 0 where
      pub same : to ≡ from
      pub none : is ≡ was
      pub not_taken : is_taken ≡ false
      pub why : ((went ≢ Rests) ⊎ (answers ≡ 65535)) ⊎ ((w : World) → holds old level w → is_waiting w.halts ≡ false)

    -- that which waits is, at rest; and what was performed is the reply, if the halt allows it
    pub record AsksOne (level : LevelId) (went : Went) (was is : List Entry) (old : M) (from to : O) (is_taken : Bool) : Type 0 where
      pub rests : went ≡ Rests
      pub halt : ShownHalt
      pub reply : Option ℕ
      pub met : meets from (Asked level halt reply) to
      pub waits : (w : World) → holds old level w → Waits w.halts halt
      pub entries : (w : World) → holds old level w → is ≡ was ++ reply_to level halt.code reply
      pub taken : (w : World) → holds old level w → IsTaken is_taken level halt.code reply

    abbrev pub Asks : (level : LevelId) (went : Went) (answers : ℕ) (was is : List Entry) (old : M) (from to : O) (is_taken : Bool) → Type 0
    Asks level went answers was is old from to is_taken =
        AsksNone level went answers was is old from to is_taken ⊎ AsksOne level went was is old from to is_taken

    -- whatever the day was before, by the entries that were performed then
    abbrev pub SitsFrom : (IsPast IsCut : LevelId → List Entry → Type 0) (was is : List Entry) (old : M) (from to : O) (one_was two_was one two : Bool) → Option Ends → Type 0
    SitsFrom IsPast IsCut was is old from to one_was two_was one two ends =
        (first : M) (starts : LevelId → World) (before : List Moment) → Begun first starts before was old
        → Shows (world_after starts before One).halts (shown_in One before) one_was → Shows (world_after starts before Two).halts (shown_in Two before) two_was
        → Sits meets starts IsPast IsCut before is from to one two ends
