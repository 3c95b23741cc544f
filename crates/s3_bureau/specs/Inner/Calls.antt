-- What calls on the parts of a bureau do, refused or not. Only contracts of private functions use these definitions.
use Rattle.std.specs.Prelude.{◌≡◌, ◌≢◌, ◌+◌, ℕ, true, None, Result, Ok, Err, IfOk, IsOk, OnOk, ⊤}
use Rattle.s3_cards.specs.Inner.Levels.{other}
use Rattle.s3_cards.specs.declared.levels.LevelId.{LevelId}
use Rattle.s3_cards.specs.declared.levels.LevelId.TheVariants.{One, Two}
use Rattle.s3_store.specs.Inner.Failures.{failed_transfers}
use Rattle.s3_store.specs.Inner.State.{KeepsContents, KeepsInStep}
use Rattle.s3_store.specs.declared.sector_fault.SectorFault.{SectorFault}
use Rattle.s3_store.specs.declared.sector_fault.SectorFault.TheVariants.{NoMemory}
use Rattle.s3_slots.specs.Header.{region_of}
use Rattle.s3_slots.specs.Slots.{slots_of}
use Rattle.s3_labels.specs.Areas.{area_of}
use Rattle.s3_labels.specs.Inner.Labelled.{KeepsSaid, SaysSlots}
use Rattle.s3_labels.specs.Untangled.{IsUntangled}
use Rattle.s3_job_files.specs.Inner.Holds.{seen}
use Rattle.s3_solo.specs.declared.action.Action.{Action}
use Rattle.s3_solo.specs.declared.action.Did.TheVariants.{Acted}
use Rattle.s3_solo.specs.Solo.{closed, step_of}
use Rattle.s3_solo.specs.World.{World}
use Rattle.s3_level.specs.declared.level.Level.{Level}
use Rattle.s3_level.specs.declared.taken.Taken.{Taken}
use Rattle.s3_level.specs.Inner.Holds.{Around, Becomes, Holds, IsReady, IsUpTo, Repeats, Spares, StopsAtEnd}
use Rattle.s3_bureau.specs.declared.bureau.Phase.TheVariants.{Open, Finished, Stopped}
use Rattle.s3_bureau.specs.Inner.Held.{HasNoWork, IsDone, IsReadyFor, State, header_of, is_open, level_of, rests}
use Rattle.s3_bureau.specs.Sharing.{IsCommon, IsOwn}

-- ---- one level with the rest of the bureau
-- The level performed an action so many times, or it stopped. If it stopped, the action would have changed the level, and the drained lines
-- are the same.
abbrev pub ActsTo : Action → Result Taken SectorFault → (old new : Level) → (before after : Around) → Type 0
ActsTo action (Ok taken) old new before after =
    IsReady new (seen after.areas after.state.contents) × Repeats action taken.times taken.did (Holds old before) (Holds new after)
    × StopsAtEnd action taken.times (Holds old before)
ActsTo action (Err fault) old new before after = (new.lines.items ≡ old.lines.items) × ((w : World) → Holds old before w → (step_of w action).did ≡ Acted)

pub record Acts (action : Action) (most : ℕ) (result : Result Taken SectorFault) (old new : Level) (before after : Around) : Type 0 where
  pub id : new.id ≡ old.id
  pub spares : Spares old.id before after
  pub says : OnOk result (KeepsSaid old.id before.areas before.state.contents after.areas after.state.contents)
  pub quiet : IfOk result (λ taken. taken.did ≢ Acted → after ≡ before)
  pub times : IfOk result (λ taken. IsUpTo most taken)
  pub failures : after.state.failures ≡ before.state.failures + failed_transfers result
  pub comes : ActsTo action result old new before after

-- the level was closed, or it stopped
abbrev pub ClosesTo : Result (Unit {0}) SectorFault → (old new : Level) → (before after : Around) → Type 0
ClosesTo (Ok done) old new before after = IsReady new (seen after.areas after.state.contents) × Becomes closed (Holds old before) (Holds new after)
ClosesTo (Err fault) old new before after = ⊤

pub record ClosesLevel (result : Result (Unit {0}) SectorFault) (old new : Level) (before after : Around) : Type 0 where
  pub id : new.id ≡ old.id
  pub spares : Spares old.id before after
  pub rests : old.job ≡ None → KeepsContents before.state after.state
  pub ends : IsDone old.id old before → IsOk result
  pub says : OnOk result (KeepsSaid old.id before.areas before.state.contents after.areas after.state.contents)
  pub failures : after.state.failures ≡ before.state.failures + failed_transfers result
  pub comes : ClosesTo result old new before after

-- If the labels of a level gave its slots before, a mount of the new sectors finds no slot with an overlapping or duplicate label. It finds
-- each slot as the level's worlds have it.
abbrev pub MountsAs : LevelId → (before : Around) → (new : Level) → (after : Around) → Type 0
MountsAs level before new after =
    SaysSlots level before.areas before.state.contents
    → IsUntangled after.areas.header.format (region_of level after.areas.header) (area_of level) after.state.contents
    × ((w : World) → Holds new after w
    → slots_of after.areas.header.format (region_of level after.areas.header) (area_of level) after.state.contents ≡ w.pack.own.slots)

-- ---- both levels
-- both levels were closed and the rest of the bureau is in the store, or they stopped
abbrev pub BothTo : Result (Unit {0}) SectorFault → (one two new_one new_two : Level) → (before after : Around) → Type 0
BothTo (Ok done) one two new_one new_two before after =
    (after.state.stored ≡ after.state.contents) × (Becomes closed (Holds one before) (Holds new_one after) × Becomes closed (Holds two before) (Holds new_two after))
BothTo (Err fault) one two new_one new_two before after = ⊤

pub record ClosesBoth (result : Result (Unit {0}) SectorFault) (one two new_one new_two : Level) (before after : Around) : Type 0 where
  pub header : after.areas.header ≡ before.areas.header
  pub common : KeepsInStep (IsCommon before.areas.header) before.state after.state
  pub one_rests : one.job ≡ None → KeepsInStep (IsOwn One before.areas.header) before.state after.state
  pub two_rests : two.job ≡ None → KeepsInStep (IsOwn Two before.areas.header) before.state after.state
  pub one_mounts : OnOk result (MountsAs One before new_one after)
  pub two_mounts : OnOk result (MountsAs Two before new_two after)
  pub memory : IsDone One one before → IsDone Two two before → result ≢ Err NoMemory
  pub failures : after.state.failures ≡ before.state.failures + failed_transfers result
  pub comes : BothTo result one two new_one new_two before after

-- ---- a bureau
-- a level performed an entry so many times, or the bureau stopped
abbrev pub EntersTo : LevelId → Action → Result Taken SectorFault → (old new : State) → Type 0
EntersTo level action (Ok taken) old new =
    (new.phase ≡ Open) × Repeats action taken.times taken.did (Holds (level_of level old) old.beside) (Holds (level_of level new) new.beside)
    × StopsAtEnd action taken.times (Holds (level_of level old) old.beside)
EntersTo level action (Err fault) old new =
    (new.phase ≡ Stopped) × ((level_of level new).lines.items ≡ (level_of level old).lines.items)
    × ((w : World) → Holds (level_of level old) old.beside w → (step_of w action).did ≡ Acted)

pub record Enters (level : LevelId) (action : Action) (most : ℕ) (result : Result Taken SectorFault) (old new : State) : Type 0 where
  pub was_open : is_open old ≡ true
  pub ready : IsReadyFor old.one old.two old.beside
  pub stays : level_of (other level) new ≡ level_of (other level) old
  pub spares : Spares level old.beside new.beside
  pub says : OnOk result ((one_or_two : LevelId) → KeepsSaid one_or_two old.beside.areas old.beside.state.contents new.beside.areas new.beside.state.contents)
  pub quiet : IfOk result (λ taken. taken.did ≢ Acted → new.beside ≡ old.beside)
  pub times : IfOk result (λ taken. IsUpTo most taken)
  pub failures : new.beside.state.failures ≡ old.beside.state.failures + failed_transfers result
  pub comes : EntersTo level action result old new

abbrev pub EndsTo : Result (Unit {0}) SectorFault → (old new : State) → Type 0
EndsTo (Ok done) old new =
    (new.phase ≡ Finished) × (new.beside.state.stored ≡ new.beside.state.contents)
    × ((level : LevelId) → Becomes closed (Holds (level_of level old) old.beside) (Holds (level_of level new) new.beside))
EndsTo (Err fault) old new = new.phase ≡ Stopped

pub record Closes (result : Result (Unit {0}) SectorFault) (old new : State) : Type 0 where
  pub header : header_of new ≡ header_of old
  pub common : KeepsInStep (IsCommon (header_of old)) old.beside.state new.beside.state
  pub rest : (level : LevelId) → rests level old → KeepsInStep (IsOwn level (header_of old)) old.beside.state new.beside.state
  pub mounts : OnOk result ((level : LevelId) → MountsAs level old.beside (level_of level new) new.beside)
  pub memory : ((level : LevelId) → HasNoWork level old) → result ≢ Err NoMemory
  pub failures : new.beside.state.failures ≡ old.beside.state.failures + failed_transfers result
  pub comes : EndsTo result old new
