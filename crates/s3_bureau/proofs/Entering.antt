-- An entry in one of the two levels, and what a step says of it.
use Rattle.std.proofs.Common.{◌≡◌, ◌≢◌, ◌+◌, ℕ, true, false, true≢false, Result, Ok, Err, refl, sym, ap, subst, ◌∙◌}
use Rattle.s3_cards.specs.Inner.Levels.{other}
use Rattle.s3_cards.specs.declared.levels.LevelId.{LevelId}
use Rattle.s3_cards.specs.declared.levels.LevelId.TheVariants.{One, Two}
use Rattle.s3_store.specs.Inner.State.{KeepsInStep}
use Rattle.s3_store.specs.declared.sector_fault.SectorFault.{SectorFault}
use Rattle.s3_store.specs.declared.sector_fault.SectorFault.TheVariants.{Device, NoMemory}
use Rattle.s3_labels.specs.Inner.Labelled.{KeepsSaid}
use Rattle.s3_job_files.specs.Inner.Holds.{seen}
use Rattle.s3_solo.specs.declared.action.Action.{Action}
use Rattle.s3_solo.specs.Solo.{closed}
use Rattle.s3_solo.specs.World.{World}
use Rattle.s3_level.specs.declared.level.Level.{Level}
use Rattle.s3_level.specs.Inner.Holds.{Around, Becomes, Holds, IsReady, Repeats, Spares, StopsAtEnd}
use Rattle.s3_level.specs.declared.taken.Taken.{Taken}
use Rattle.s3_bureau.specs.declared.bureau.Phase.{Phase}
use Rattle.s3_bureau.specs.declared.bureau.Phase.TheVariants.{Open, Finished, Stopped}
use Rattle.s3_bureau.specs.declared.stop.Stop.{Stop}
use Rattle.s3_bureau.specs.declared.stop.Stop.TheVariants.{NoMemory as StopNoMemory, Device as StopDevice, Stopped as StoppedBefore}
use Rattle.s3_bureau.specs.Inner.Stops.{failed_stop, stop_of}
use Rattle.s3_bureau.specs.Inner.Held.{HoldsFor, IsForeign, IsReadyFor, State, has_worlds, header_of, is_open, level_of, lines_at, rests, takes_entries}
use Rattle.s3_bureau.specs.Sharing.{IsOwn}
use Rattle.s3_bureau.specs.Inner.Calls.{Acts, Closes, ClosesBoth, Enters, MountsAs}
use Rattle.s3_bureau.proofs.OtherLevel.{foreign_spared, header_spared, other_said, ready_stays, worlds_stay, worlds_stayed}

-- ---- an entry in its level
-- both levels can take further entries
pub laid_out_one : (action : Action) (most : ℕ) (taken : Taken) (one two new_one : Level) (before after : Around) → IsReadyFor one two before → Acts action most (Ok taken) one new_one before after
    → IsReadyFor new_one two after
laid_out_one action most taken one two new_one before after ready acts = record {
  one_is = acts.id ∙ ready.one_is;
  two_is = ready.two_is;
  one_ready = acts.comes.0;
  two_ready = ready_stays One two before after ready.two_is ready.one_ready.files.pack (subst (λ (l : LevelId). Spares l before after) ready.one_is acts.spares) ready.two_ready;
  blocks = acts.spares.blocks;
}

pub laid_out_two : (action : Action) (most : ℕ) (taken : Taken) (one two new_two : Level) (before after : Around) → IsReadyFor one two before → Acts action most (Ok taken) two new_two before after
    → IsReadyFor one new_two after
laid_out_two action most taken one two new_two before after ready acts = record {
  one_is = ready.one_is;
  two_is = acts.id ∙ ready.two_is;
  one_ready = ready_stays Two one before after ready.one_is ready.one_ready.files.pack (subst (λ (l : LevelId). Spares l before after) ready.two_is acts.spares) ready.one_ready;
  two_ready = acts.comes.0;
  blocks = acts.spares.blocks;
}

-- the labels of both still say their slots
said_one : (action : Action) (most : ℕ) (taken : Taken) (one two new_one : Level) (before after : Around) → IsReadyFor one two before → Acts action most (Ok taken) one new_one before after
    → (level : LevelId) → KeepsSaid level before.areas before.state.contents after.areas after.state.contents
said_one action most taken one two new_one before after ready acts One = subst (λ (l : LevelId). KeepsSaid l before.areas before.state.contents after.areas after.state.contents) ready.one_is acts.says
said_one action most taken one two new_one before after ready acts Two =
    other_said One before after ready.one_ready.files.pack (subst (λ (l : LevelId). Spares l before after) ready.one_is acts.spares)

said_two : (action : Action) (most : ℕ) (taken : Taken) (one two new_two : Level) (before after : Around) → IsReadyFor one two before → Acts action most (Ok taken) two new_two before after
    → (level : LevelId) → KeepsSaid level before.areas before.state.contents after.areas after.state.contents
said_two action most taken one two new_two before after ready acts Two = subst (λ (l : LevelId). KeepsSaid l before.areas before.state.contents after.areas after.state.contents) ready.two_is acts.says
said_two action most taken one two new_two before after ready acts One =
    other_said Two before after ready.one_ready.files.pack (subst (λ (l : LevelId). Spares l before after) ready.two_is acts.spares)

is_phase_open : (phase : Phase) → takes_entries phase ≡ true → phase ≡ Open
is_phase_open Open is = refl
is_phase_open Finished is = absurd cc
is_phase_open Stopped is = absurd cc

-- so it was performed
pub entered_one : (level : LevelId) (action : Action) (most : ℕ) (taken : Taken) (old now : State) (new_one : Level) (after : Around) → old ≡ now → level ≡ One → takes_entries old.phase ≡ true → IsReadyFor old.one old.two old.beside
    → Acts action most (Ok taken) old.one new_one old.beside after → Enters level action most (Ok taken) now (record { beside = after; one = new_one; two = old.two; phase = old.phase })
entered_one level action most taken old now new_one after same is takes ready acts =
    subst (λ (s : State). Enters level action most (Ok taken) s (record { beside = after; one = new_one; two = old.two; phase = old.phase })) same
    (subst (λ (l : LevelId). Enters l action most (Ok taken) old (record { beside = after; one = new_one; two = old.two; phase = old.phase })) (sym is) (record {
      was_open = takes;
      ready = ready;
      stays = refl;
      spares = subst (λ (l : LevelId). Spares l old.beside after) ready.one_is acts.spares;
      says = said_one action most taken old.one old.two new_one old.beside after ready acts;
      quiet = acts.quiet;
      times = acts.times;
      failures = acts.failures;
      comes = (is_phase_open old.phase takes, acts.comes.1, acts.comes.2);
    }))

pub entered_two : (level : LevelId) (action : Action) (most : ℕ) (taken : Taken) (old now : State) (new_two : Level) (after : Around) → old ≡ now → level ≡ Two → takes_entries old.phase ≡ true → IsReadyFor old.one old.two old.beside
    → Acts action most (Ok taken) old.two new_two old.beside after → Enters level action most (Ok taken) now (record { beside = after; one = old.one; two = new_two; phase = old.phase })
entered_two level action most taken old now new_two after same is takes ready acts =
    subst (λ (s : State). Enters level action most (Ok taken) s (record { beside = after; one = old.one; two = new_two; phase = old.phase })) same
    (subst (λ (l : LevelId). Enters l action most (Ok taken) old (record { beside = after; one = old.one; two = new_two; phase = old.phase })) (sym is) (record {
      was_open = takes;
      ready = ready;
      stays = refl;
      spares = subst (λ (l : LevelId). Spares l old.beside after) ready.two_is acts.spares;
      says = said_two action most taken old.one old.two new_two old.beside after ready acts;
      quiet = acts.quiet;
      times = acts.times;
      failures = acts.failures;
      comes = (is_phase_open old.phase takes, acts.comes.1, acts.comes.2);
    }))

-- or the bureau stopped
pub stopped_one : (level : LevelId) (action : Action) (most : ℕ) (fault : SectorFault) (old now : State) (new_one : Level) (after : Around) → old ≡ now → level ≡ One → takes_entries old.phase ≡ true
    → IsReadyFor old.one old.two old.beside → Acts action most (Err fault) old.one new_one old.beside after
    → Enters level action most (Err fault) now (record { beside = after; one = new_one; two = old.two; phase = Stopped })
stopped_one level action most fault old now new_one after same is takes ready acts =
    subst (λ (s : State). Enters level action most (Err fault) s (record { beside = after; one = new_one; two = old.two; phase = Stopped })) same
    (subst (λ (l : LevelId). Enters l action most (Err fault) old (record { beside = after; one = new_one; two = old.two; phase = Stopped })) (sym is) (record {
      was_open = takes;
      ready = ready;
      stays = refl;
      spares = subst (λ (l : LevelId). Spares l old.beside after) ready.one_is acts.spares;
      says = tt;
      quiet = tt;
      times = tt;
      failures = acts.failures;
      comes = (refl, acts.comes.0, acts.comes.1);
    }))

pub stopped_two : (level : LevelId) (action : Action) (most : ℕ) (fault : SectorFault) (old now : State) (new_two : Level) (after : Around) → old ≡ now → level ≡ Two → takes_entries old.phase ≡ true
    → IsReadyFor old.one old.two old.beside → Acts action most (Err fault) old.two new_two old.beside after
    → Enters level action most (Err fault) now (record { beside = after; one = old.one; two = new_two; phase = Stopped })
stopped_two level action most fault old now new_two after same is takes ready acts =
    subst (λ (s : State). Enters level action most (Err fault) s (record { beside = after; one = old.one; two = new_two; phase = Stopped })) same
    (subst (λ (l : LevelId). Enters l action most (Err fault) old (record { beside = after; one = old.one; two = new_two; phase = Stopped })) (sym is) (record {
      was_open = takes;
      ready = ready;
      stays = refl;
      spares = subst (λ (l : LevelId). Spares l old.beside after) ready.two_is acts.spares;
      says = tt;
      quiet = tt;
      times = tt;
      failures = acts.failures;
      comes = (refl, acts.comes.0, acts.comes.1);
    }))

-- ---- a step that was performed
his_id : (level : LevelId) (old : State) → IsReadyFor old.one old.two old.beside → (level_of (other level) old).id ≡ other level
his_id One old ready = ready.two_is
his_id Two old ready = ready.one_is

his_ready : (level : LevelId) (old : State) → IsReadyFor old.one old.two old.beside → IsReady (level_of (other level) old) (seen old.beside.areas old.beside.state.contents)
his_ready One old ready = ready.two_ready
his_ready Two old ready = ready.one_ready

open_has : (phase : Phase) → phase ≡ Open → has_worlds phase ≡ true
open_has phase is = rw is refl

pub own_repeats : (level : LevelId) (action : Action) (most : ℕ) (taken : Taken) (old new : State) → Enters level action most (Ok taken) old new
    → Repeats action taken.times taken.did (HoldsFor level old) (HoldsFor level new)
own_repeats level action most taken old new e w held =
    let here = e.comes.1 w held.world in
    (here.0, record { goes_on = open_has new.phase e.comes.0; world = here.1 })

pub own_stops : (level : LevelId) (action : Action) (most : ℕ) (taken : Taken) (old new : State) → Enters level action most (Ok taken) old new → StopsAtEnd action taken.times (HoldsFor level old)
own_stops level action most taken old new e w held = e.comes.2 w held.world

-- where it stopped, no line was drained
pub lines_stay : (level : LevelId) (action : Action) (most : ℕ) (fault : SectorFault) (old new : State) → Enters level action most (Err fault) old new → (one_or_two : LevelId) → lines_at one_or_two new ≡ lines_at one_or_two old
lines_stay One action most fault old new e One = e.comes.1
lines_stay One action most fault old new e Two = ap (λ (l : Level). l.lines.items) e.stays
lines_stay Two action most fault old new e One = ap (λ (l : Level). l.lines.items) e.stays
lines_stay Two action most fault old new e Two = e.comes.1

pub other_keeps : (level : LevelId) (action : Action) (most : ℕ) (taken : Taken) (old new : State) → Enters level action most (Ok taken) old new → (w : World) → HoldsFor (other level) old w → HoldsFor (other level) new w
other_keeps level action most taken old new e w held = record {
  goes_on = open_has new.phase e.comes.0;
  world = subst (λ (l : Level). Holds l new.beside w) (sym e.stays) (worlds_stay level (level_of (other level) old) old.beside new.beside w (his_id level old e.ready) (his_ready level old e.ready) e.spares held.world);
}

pub other_kept : (level : LevelId) (action : Action) (most : ℕ) (taken : Taken) (old new : State) → Enters level action most (Ok taken) old new → (w : World) → HoldsFor (other level) new w → HoldsFor (other level) old w
other_kept level action most taken old new e w held = record {
  goes_on = was old.phase e.was_open;
  world = worlds_stayed level (level_of (other level) old) old.beside new.beside w (his_id level old e.ready) (his_ready level old e.ready) e.spares (subst (λ (l : Level). Holds l new.beside w) e.stays held.world);
}
  where
    was : (phase : Phase) → takes_entries phase ≡ true → has_worlds phase ≡ true
    was Open is = refl
    was Finished is = refl
    was Stopped is = absurd cc

-- ---- a step, performed or not
pub foreign_unchanged : (level : LevelId) (action : Action) (most : ℕ) (result : Result Taken SectorFault) (old new : State) → Enters level action most result old new
    → KeepsInStep (IsForeign level (header_of old)) old.beside.state new.beside.state
foreign_unchanged level action most result old new e = foreign_spared level old.beside new.beside e.ready.one_ready.files.pack e.spares

pub header_stays : (level : LevelId) (action : Action) (most : ℕ) (result : Result Taken SectorFault) (old new : State) → Enters level action most result old new → header_of new ≡ header_of old
header_stays level action most result old new e = header_spared level old.beside new.beside e.spares

pub stays_open : (level : LevelId) (action : Action) (most : ℕ) (taken : Taken) (old new : State) → Enters level action most (Ok taken) old new → is_open new ≡ true
stays_open level action most taken old new e = open_takes new.phase e.comes.0
  where
    open_takes : (phase : Phase) → phase ≡ Open → takes_entries phase ≡ true
    open_takes phase is = rw is refl

-- a bureau that was open isn't stopped already
pub was_open : (P : Type 0) (level : LevelId) (action : Action) (most : ℕ) (result : Result Taken SectorFault) (old new : State) → Enters level action most result old new → is_open old ≡ false → P
was_open P level action most result old new e closed = absurd (true≢false (sym e.was_open ∙ closed))

pub is_stopped : (level : LevelId) (action : Action) (most : ℕ) (fault : SectorFault) (old new : State) → Enters level action most (Err fault) old new → is_open new ≡ false
is_stopped level action most fault old new e = stopped_takes new.phase e.comes.0
  where
    stopped_takes : (phase : Phase) → phase ≡ Stopped → takes_entries phase ≡ false
    stopped_takes phase is = rw is refl

pub has_none : (level : LevelId) (action : Action) (most : ℕ) (fault : SectorFault) (old new : State) → Enters level action most (Err fault) old new → has_worlds new.phase ≡ false
has_none level action most fault old new e = stopped_has new.phase e.comes.0
  where
    stopped_has : (phase : Phase) → phase ≡ Stopped → has_worlds phase ≡ false
    stopped_has phase is = rw is refl

-- the cause for which a fault stops it
pub is_cause : (fault : SectorFault) (answer : Result Taken Stop) → answer ≡ Err (stop_of fault) → answer ≢ Err StoppedBefore
is_cause Device answer made is = let same : answer ≡ Err StopDevice = made in cc
is_cause NoMemory answer made is = let same : answer ≡ Err StopNoMemory = made in cc

pub cause_failed : (level : LevelId) (action : Action) (most : ℕ) (fault : SectorFault) (old new : State) → Enters level action most (Err fault) old new
    → new.beside.state.failures ≡ old.beside.state.failures + failed_stop {T = Taken} (Err (stop_of fault))
cause_failed level action most Device old new e = e.failures
cause_failed level action most NoMemory old new e = e.failures

-- ---- the end
pub ends : (old : State) (new_one new_two : Level) (after : Around) → ClosesBoth (Ok tt) old.one old.two new_one new_two old.beside after
    → Closes (Ok tt) old (record { beside = after; one = new_one; two = new_two; phase = Finished })
ends old new_one new_two after both = record {
  header = both.header;
  common = both.common;
  rest = rest;
  mounts = mounts;
  memory = λ done same. let clash : Ok tt ≡ Err NoMemory = same in cc;
  failures = both.failures;
  comes = (refl, both.comes.0, worlds);
}
  where
    rest : (level : LevelId) → rests level old → KeepsInStep (IsOwn level (header_of old)) old.beside.state after.state
    rest One none = both.one_rests none
    rest Two none = both.two_rests none

    mounts : (level : LevelId) → MountsAs level old.beside (level_of level (record { beside = after; one = new_one; two = new_two; phase = Finished })) after
    mounts One = both.one_mounts
    mounts Two = both.two_mounts

    worlds : (level : LevelId) → Becomes closed (Holds (level_of level old) old.beside) (Holds (level_of level (record { beside = after; one = new_one; two = new_two; phase = Finished })) after)
    worlds One = both.comes.1.0
    worlds Two = both.comes.1.1

-- or they stopped
pub stops_closing : (fault : SectorFault) (old : State) (new_one new_two : Level) (after : Around) → ClosesBoth (Err fault) old.one old.two new_one new_two old.beside after
    → Closes (Err fault) old (record { beside = after; one = new_one; two = new_two; phase = Stopped })
stops_closing fault old new_one new_two after both = record {
  header = both.header;
  common = both.common;
  rest = rest;
  mounts = tt;
  memory = λ done. both.memory (done One) (done Two);
  failures = both.failures;
  comes = refl;
}
  where
    rest : (level : LevelId) → rests level old → KeepsInStep (IsOwn level (header_of old)) old.beside.state after.state
    rest One none = both.one_rests none
    rest Two none = both.two_rests none
