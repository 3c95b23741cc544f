-- When a level represents a world, with its part of the pack and of the spool.
use Rattle.std.specs.Prelude.{◌≡◌, ◌≢◌, ℕ, ◌≤◌, ◌<◌, true, List, [], ◌++◌, length, map, replicate, slice_range, Option, Some, None, is_some, Result, Ok, Err}
use Rattle.indexmap.specs.IndexMap.{get}
use Rattle.s3_cards.specs.declared.levels.LevelId.{LevelId}
use Rattle.s3_cards.specs.Inner.Levels.{other}
use Rattle.s3_cards.specs.declared.name.Name.{Name}
use Rattle.s3_cards.specs.Names.{same_name}
use Rattle.s3_cards.specs.Printed.{Printed}
use Rattle.s3_store.specs.Inner.State.{PoolState, KeepsInStep}
use Rattle.s3_store.specs.declared.sector_fault.SectorFault.{SectorFault}
use Rattle.s3_slots.specs.declared.header.Header.{Header}
use Rattle.s3_slots.specs.Header.{quota_of as header_quota}
use Rattle.s3_labels.specs.Inner.Areas.{Areas, areas_on, slots_at, with_slots, IsReady as IsPackReady}
use Rattle.s3_spool.specs.Inner.Queues.{Blocks, AreBlocks, block_sector, blocks_of, queue_of, quota_of, times}
use Rattle.s3_job_files.specs.Files.{place_named}
use Rattle.s3_job_files.specs.declared.file.OpenFile.{OpenFile}
use Rattle.s3_job_files.specs.Inner.Holds.{Seen, seen, HoldsFiles, IsOutOfReach, job_file_of, IsReady as AreFilesReady}
use Rattle.s3_meaning.specs.Source.{Source}
use Rattle.s3_program.specs.Inner.Stands.{Stands}
use Rattle.s3_program.specs.declared.program.Program.{Program}
use Rattle.s3_cycle.specs.Inner.Following.{Follows, files}
use Rattle.s3_lines.specs.declared.sheet.FileLine.{FileLine}
use Rattle.s3_ocl.specs.Streams.{jobs_from}
use Rattle.s3_opening.specs.Inner.OpenFiles.{AreOfLines}
use Rattle.s3_solo.specs.declared.action.Action.{Action}
use Rattle.s3_solo.specs.declared.action.Did.{Did}
use Rattle.s3_solo.specs.declared.action.Did.TheVariants.{Acted}
use Rattle.s3_solo.specs.Inner.Asked.{IsAsked}
use Rattle.s3_solo.specs.Lines.{Lines}
use Rattle.s3_solo.specs.Solo.{solo, step_of}
use Rattle.s3_solo.specs.World.{World, JobAtWork}
use Rattle.s3_level.specs.declared.job.OpenJob.{OpenJob}
use Rattle.s3_level.specs.declared.level.Level.{Level}
use Rattle.s3_level.specs.declared.taken.Taken.{Taken}
use Rattle.s3_level.specs.Inner.Library.{IsOfLibrary}

-- ---- what a level can see
-- the slots and sectors of the pack, the level's queue of printed lines, and how many lines it may queue
pub record Shown : Type 0 where
  pub seen : Seen
  pub queue : List Printed
  pub quota : ℕ

abbrev pub with_seen : Seen → Shown → Shown
with_seen pack shown = record shown { seen = pack }

-- the pack and the queues, which both levels share
pub record Around : Type 0 where
  pub areas : Areas
  pub state : PoolState
  pub blocks : Blocks

abbrev pub around : Areas → PoolState → Blocks → Around
around areas state blocks = record { areas = areas; state = state; blocks = blocks }

abbrev pub shown : LevelId → Around → Shown
shown level beside =
    record {
      seen = seen beside.areas beside.state.contents;
      queue = queue_of level beside.blocks beside.state.contents;
      quota = quota_of level beside.blocks;
    }

-- every block is free or in one queue
abbrev pub AreAll : Blocks → Type 0
AreAll blocks = AreBlocks blocks.free blocks.one blocks.two

-- a pack as it was mounted, with empty queues and the quotas of its header
pub record IsFresh (beside : Around) : Type 0 where
  pub areas : beside.areas ≡ areas_on beside.areas.header beside.state.contents
  pub pack : IsPackReady beside.areas beside.state.contents
  pub queues : (level : LevelId) → blocks_of level beside.blocks ≡ []
  pub quotas : (level : LevelId) → quota_of level beside.blocks ≡ header_quota level beside.areas.header

-- ---- the abstraction relation
-- a program represents the source of its name in the world, if there is one
abbrev pub Stocks : Option Program → Option Source → Type 0
Stocks None None = Unit {0}
Stocks (Some program) (Some source) = Stands program source
Stocks _ _ = ⊥

-- the files of the open job, if there is one
abbrev pub open_files : Option OpenJob → List OpenFile
open_files None = []
open_files (Some job) = job.files.files.items

-- An open job represents the world's running job. No answer is stored: its cycle continues as the whole run does after the past answers.
pub record HoldsJob (deck : List (List ℕ)) (job : OpenJob) (w : World) (meant : JobAtWork) : Type 0 where
  pub number : meant.number ≡ job.number
  pub cards : meant.cards ≡ slice_range deck job.next job.end
  pub files : meant.files ≡ map job_file_of job.files.files.items
  pub follows : Follows meant.source w.switches w.date meant.past job.cycle

abbrev pub HoldsAtWork : List (List ℕ) → Option OpenJob → World → Option JobAtWork → Type 0
HoldsAtWork deck None w None = Unit {0}
HoldsAtWork deck (Some job) w (Some meant) = HoldsJob deck job w meant
HoldsAtWork _ _ _ _ = ⊥

-- the printed lines are those that the level has drained, followed by those in its queue
pub record HoldsLines (drained : List Printed) (shown : Shown) (lines : Lines) : Type 0 where
  pub printed : lines.printed ≡ drained ++ shown.queue
  pub drained_lines : lines.drained ≡ length drained
  pub quota : lines.quota ≡ shown.quota

-- The parts of a level represent those of the world. This is a relation, since programs and cycles represent sources and no answer is
-- stored.
pub record HoldsParts (level : Level) (shown : Shown) (w : World) : Type 0 where
  pub cards : w.deck.cards ≡ level.deck
  pub jobs : w.deck.jobs ≡ jobs_from level.deck level.next
  pub number : w.deck.number ≡ level.number
  pub library : (name : Name) → Stocks (get same_name level.library name) (w.library name)
  pub switches : w.switches ≡ level.switches
  pub date : w.date ≡ level.date
  pub pack : HoldsFiles level.id (open_files level.job) shown.seen w.pack
  pub job : HoldsAtWork level.deck level.job w w.job
  pub lines : HoldsLines level.lines.items shown w.lines
  pub halts : w.halts ≡ level.halts

-- the level, with the pack and the queues, represents the world
pub record Holds (level : Level) (beside : Around) (w : World) : Type 0 where
  pub parts : HoldsParts level (shown level.id beside) w
  pub asked : IsAsked w

-- ---- the representation invariant
-- for each F line, the place of its file among the open files
abbrev pub places_of : List FileLine → List OpenFile → List (Option ℕ)
places_of lines open_files = map (λ line. place_named line.name (map job_file_of open_files)) lines

-- The files of an open job are those of its program's F lines that the job uses. Each slot has the place of its file.
pub record IsJobReady (level : LevelId) (job : OpenJob) : Type 0 where
  pub level_of_files : job.files.level ≡ level
  -- the switches that were on when the job started
  pub switches : ℕ
  pub lines : AreOfLines switches (files job.cycle) job.files.files.items
  pub places : job.places.items ≡ places_of (files job.cycle) job.files.files.items

abbrev pub IsAtWorkReady : LevelId → Option OpenJob → Type 0
IsAtWorkReady level None = Unit {0}
IsAtWorkReady level (Some job) = IsJobReady level job

-- the level can take entries
pub record IsReady (level : Level) (pack : Seen) : Type 0 where
  pub files : AreFilesReady level.id (open_files level.job) pack
  pub job : IsAtWorkReady level.id level.job
  -- the cycle of the running job can be returned to the library
  pub of_library : IsOfLibrary level.library level.job

-- ---- what contracts state about calls
-- A contract of an entry relates two predicates on worlds: which worlds the level represented before the entry, and which it represents
-- after it.

-- each represented world becomes the result of this function
abbrev pub Becomes : (World → World) → (World → Type 0) → (World → Type 0) → Type 0
Becomes change old new = (w : World) → old w → new (change w)

-- each represented world takes one step of the reference model, with this answer
abbrev pub Steps : Action → Did → (World → Type 0) → (World → Type 0) → Type 0
Steps action did old new = (w : World) → old w → (did ≡ (step_of w action).did) × new (step_of w action).world

-- each represented world takes so many steps of the reference model, one after the other, each with this answer
abbrev pub Repeats : Action → (times : ℕ) → Did → (World → Type 0) → (World → Type 0) → Type 0
Repeats action times did old new =
    (w : World) → old w → ((n : ℕ) → n < times → did ≡ (step_of (solo w (replicate n action)) action).did) × new (solo w (replicate times action))

-- These entries stop when a job ends: after each of them except the last, a job is running.
abbrev pub StopsAtEnd : Action → (times : ℕ) → (World → Type 0) → Type 0
StopsAtEnd action times old = (w : World) → old w → (n : ℕ) → 1 ≤ n → n < times → is_some (solo w (replicate n action)).job ≡ true

-- one entry with this answer
abbrev pub once : Result Did SectorFault → Result Taken SectorFault
once (Ok did) = Ok (record { did = did; times = 1 })
once (Err fault) = Err fault

-- at least one, and at most so many
pub record IsUpTo (most : ℕ) (taken : Taken) : Type 0 where
  pub some : 1 ≤ taken.times
  pub few : taken.times ≤ most

-- the level keeps its identity, its deck and its drained lines
pub record Stays (old new : Level) : Type 0 where
  pub id : new.id ≡ old.id
  pub deck : new.deck ≡ old.deck
  pub drained : new.lines.items ≡ old.lines.items

-- the slots and the sectors of the pack are unchanged, in the store too
abbrev pub IsUntouched : (old new : Areas) → (s t : PoolState) → Type 0
IsUntouched old new s t = (new ≡ old) × (t ≡ s)

-- an entry that doesn't act leaves the pack unchanged
abbrev pub IsQuiet : Did → (old new : Areas) → (s t : PoolState) → Type 0
IsQuiet did old new s t = did ≢ Acted → IsUntouched old new s t

-- a sector outside of a level: not of its labels, of its region or of a spool block
pub record IsBeyond (level : LevelId) (header : Header) (n : ℕ) : Type 0 where
  pub files : IsOutOfReach level header n
  pub block : 25 ≤ n → n < 153 → ⊥

-- a sector of a block that has a line of the level's queue
pub record IsQueuedSector (level : LevelId) (blocks : Blocks) (n : ℕ) : Type 0 where
  pub block : ℕ
  pub place : n ≡ block_sector block
  pub queued : 0 < times block (blocks_of level blocks)

-- What a call of one level leaves unchanged, refused or not: the slots of the masters and of the other level, all sectors outside of the
-- level, and the other level's queue with the bytes of its blocks.
pub record Spares (level : LevelId) (old new : Around) : Type 0 where
  pub pack : IsPackReady new.areas new.state.contents
  pub areas : new.areas ≡ with_slots level (slots_at level new.areas) old.areas
  pub sectors : KeepsInStep (IsBeyond level old.areas.header) old.state new.state
  pub queue : queue_of (other level) new.blocks new.state.contents ≡ queue_of (other level) old.blocks old.state.contents
  pub queue_blocks : blocks_of (other level) new.blocks ≡ blocks_of (other level) old.blocks
  pub queue_sectors : KeepsInStep (IsQueuedSector (other level) old.blocks) old.state new.state
  pub quotas : (one_or_two : LevelId) → quota_of one_or_two new.blocks ≡ quota_of one_or_two old.blocks
  pub blocks : AreAll new.blocks
