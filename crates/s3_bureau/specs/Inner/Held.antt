-- When a bureau represents a level's world, and its representation invariant.
use Rattle.std.specs.Prelude.{◌≡◌, ◌⊎◌, ℕ, Bool, true, false, List, [], None}
use Rattle.s3_cards.specs.declared.levels.LevelId.{LevelId}
use Rattle.s3_cards.specs.declared.levels.LevelId.TheVariants.{One, Two}
use Rattle.s3_cards.specs.Inner.Levels.{other}
use Rattle.s3_cards.specs.Printed.{Printed}
use Rattle.s3_slots.specs.declared.header.Header.{Header}
use Rattle.s3_labels.specs.Inner.Labelled.{SaysSlots}
use Rattle.s3_spool.specs.Inner.Queues.{blocks_of}
use Rattle.s3_job_files.specs.Inner.Holds.{seen}
use Rattle.s3_operator.specs.Halts.{ShownHalt}
use Rattle.s3_solo.specs.World.{World}
use Rattle.s3_level.specs.declared.level.Level.{Level}
use Rattle.s3_level.specs.Inner.Holds.{AreAll, Around, Holds, IsReady}
use Rattle.s3_bureau.specs.declared.bureau.Phase.{Phase}
use Rattle.s3_bureau.specs.declared.bureau.Phase.TheVariants.{Open, Finished, Stopped}
use Rattle.s3_bureau.specs.Sharing.{IsOwn, IsCommon}

-- what a contract sees of a bureau: the pack and the queues, both levels, and whether it is open, finished or stopped
pub record State : Type 0 where
  pub beside : Around
  pub one : Level
  pub two : Level
  pub phase : Phase

-- one of the two levels
abbrev pub level_of : LevelId → State → Level
level_of One bureau = bureau.one
level_of Two bureau = bureau.two

-- the lines that a level has drained
abbrev pub lines_at : LevelId → State → List Printed
lines_at level bureau = (level_of level bureau).lines.items

-- the halts that a level has shown
abbrev pub halts_at : LevelId → State → List ShownHalt
halts_at level bureau = (level_of level bureau).halts

abbrev pub takes_entries : Phase → Bool
takes_entries Open = true
takes_entries Finished = false
takes_entries Stopped = false

abbrev pub has_worlds : Phase → Bool
has_worlds Open = true
has_worlds Finished = true
has_worlds Stopped = false

-- the bureau takes entries: it is neither finished nor stopped
abbrev pub is_open : State → Bool
is_open bureau = takes_entries bureau.phase

-- The bureau represents this world for the level. A stopped bureau represents none.
pub record HoldsFor (level : LevelId) (bureau : State) (w : World) : Type 0 where
  pub goes_on : has_worlds bureau.phase ≡ true
  pub world : Holds (level_of level bureau) bureau.beside w

-- the worlds that a bureau represents, by level
abbrev pub held_by : State → LevelId → World → Type 0
held_by bureau level w = HoldsFor level bureau w

-- ---- the representation invariant
-- both levels can take entries, each in its own part of the pack and the queues
pub record IsReadyFor (one two : Level) (beside : Around) : Type 0 where
  pub one_is : one.id ≡ One
  pub two_is : two.id ≡ Two
  pub one_ready : IsReady one (seen beside.areas beside.state.contents)
  pub two_ready : IsReady two (seen beside.areas beside.state.contents)
  pub blocks : AreAll beside.blocks

-- a bureau that takes entries can perform them
abbrev pub IsLaidOut : State → Type 0
IsLaidOut bureau = is_open bureau ≡ true → IsReadyFor bureau.one bureau.two bureau.beside

-- no job runs in the level
abbrev pub rests : LevelId → State → Type 0
rests level bureau = (level_of level bureau).job ≡ None

-- a level has no work left: no job runs and no line is queued
abbrev pub IsDone : LevelId → Level → Around → Type 0
IsDone level held beside = (held.job ≡ None) × (blocks_of level beside.blocks ≡ [])

abbrev pub HasNoWork : LevelId → State → Type 0
HasNoWork level bureau = IsDone level (level_of level bureau) bureau.beside

-- the labels of a level give its slots, each by itself
abbrev pub IsSaid : LevelId → State → Type 0
IsSaid level bureau = SaysSlots level bureau.beside.areas bureau.beside.state.contents

-- a sector of the header, of the masters or of the other level, or an unused one
abbrev pub IsForeign : LevelId → Header → ℕ → Type 0
IsForeign level header n = IsCommon header n ⊎ IsOwn (other level) header n

-- the header that the pack was mounted with
abbrev pub header_of : State → Header
header_of bureau = bureau.beside.areas.header
