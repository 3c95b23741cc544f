-- Levels are closed, one after the other, and the pool is flushed.
use Rattle.std.proofs.Common.{◌≡◌, ℕ, ◌+◌, List, [], ◌∷◌, length, Option, Some, None, Result, Ok, Err, refl, sym, ap, subst, ◌∙◌, arith, true≢false}
use Rattle.std.specs.Prelude.{IfErr, IsOk, OnOk, ◌≢◌}
use Rattle.s3_cards.specs.declared.levels.LevelId.{LevelId}
use Rattle.s3_cards.specs.declared.levels.LevelId.TheVariants.{One, Two}
use Rattle.s3_store.specs.Inner.Failures.{failed_transfers}
use Rattle.s3_store.specs.Inner.State.{PoolState, KeepsContents, KeepsInStep}
use Rattle.s3_store.specs.declared.sector_fault.SectorFault.{SectorFault}
use Rattle.s3_store.specs.declared.sector_fault.SectorFault.TheVariants.{Device, NoMemory}
use Rattle.s3_store.proofs.Frames.{keeps_refl, keeps_trans, step_from_keeps, step_trans}
use Rattle.s3_slots.specs.declared.header.Header.{Header}
use Rattle.s3_labels.specs.Inner.Areas.{Areas, slots_at, IsReady as IsPackReady}
use Rattle.s3_labels.specs.Inner.Labelled.{KeepsSaid}
use Rattle.s3_labels.proofs.Labelled.{judged_as_said}
use Rattle.s3_spool.specs.Inner.Queues.{Blocks, blocks_of, queue_of, quota_of}
use Rattle.s3_spool.proofs.QueueLemmas.{queue_length}
use Rattle.s3_job_files.specs.Inner.Holds.{seen}
use Rattle.s3_job_files.specs.Inner.Packs.{KeepsOthers}
use Rattle.s3_job_files.proofs.Said.{said_same}
use Rattle.s3_solo.specs.Lines.{Lines, all_drained}
use Rattle.s3_solo.specs.Serving.{job_ended, over}
use Rattle.s3_solo.specs.Solo.{closed}
use Rattle.s3_solo.specs.World.{World, JobAtWork}
use Rattle.s3_level.specs.declared.level.Level.{Level}
use Rattle.s3_level.specs.Inner.Holds.{AreAll, Around, Becomes, Holds, HoldsParts, IsReady, Spares, Stays, around}
use Rattle.s3_level.proofs.Beside.{spares_files, spares_then}
use Rattle.s3_bureau.specs.Sharing.{IsCommon, IsOwn}
use Rattle.s3_bureau.specs.Inner.Held.{IsDone, IsReadyFor}
use Rattle.s3_bureau.specs.Inner.Calls.{BothTo, ClosesBoth, ClosesLevel, ClosesTo, MountsAs}
use Rattle.s3_bureau.proofs.Untangled.{untangled_as_said}
use Rattle.s3_bureau.proofs.OtherLevel.{common_spared, header_spared, other_said, other_spared, ready_stays, worlds_stay}

-- ---- one level
-- the end of a job leaves the lines
lines_stay : (w : World) → (job_ended w).lines ≡ w.lines
lines_stay w = by w.job
  where
    by : (job : Option JobAtWork) → (over job w).lines ≡ w.lines
    by None = refl
    by (Some job) = refl

-- its files couldn't be closed
pub level_stopped : (fault : SectorFault) (old new : Level) (areas new_areas : Areas) (s t : PoolState) (blocks : Blocks)
    → IsPackReady areas s.contents → AreAll blocks
    → KeepsOthers old.id areas new_areas s t
    → (old.job ≡ None → (new_areas ≡ areas) × KeepsContents s t)
    → (old.job ≡ None → IsOk {T = Unit {0}} (Err fault))
    → t.failures ≡ s.failures + failed_transfers {T = Unit {0}} (Err fault)
    → Stays old new
    → ClosesLevel (Err fault) old new (around areas s blocks) (around new_areas t blocks)
level_stopped fault old new areas new_areas s t blocks pack are others rests ends failures stays = record {
  id = stays.id;
  spares = spares_files old.id areas new_areas blocks s t pack are others;
  rests = λ none. (rests none).1;
  ends = λ done. ends done.0;
  says = tt;
  failures = failures;
  comes = tt;
}

-- they were closed, and then its lines drained, or it stopped at that
pub level_closed : (result : Result (Unit {0}) SectorFault) (old middle new : Level) (areas middle_areas : Areas) (s t : PoolState) (blocks : Blocks) (after : Around)
    → IsPackReady areas s.contents → AreAll blocks
    → ((blocks : Blocks) → AreAll blocks → Becomes job_ended (Holds old (around areas s blocks)) (Holds middle (around middle_areas t blocks)))
    → KeepsOthers old.id areas middle_areas s t
    → (old.job ≡ None → (middle_areas ≡ areas) × KeepsContents s t)
    → t.failures ≡ s.failures + 0
    → Stays old middle
    → OnOk result (Becomes (λ w. record w { lines = all_drained w.lines }) (Holds middle (around middle_areas t blocks)) (Holds new after))
    → OnOk result (IsReady new (seen after.areas after.state.contents))
    → Spares middle.id (around middle_areas t blocks) after
    → KeepsContents t after.state
    → after.state.failures ≡ t.failures + failed_transfers result
    → new.id ≡ middle.id
    → KeepsSaid old.id areas s.contents middle_areas t.contents
    → after.areas ≡ middle_areas
    → (blocks_of middle.id blocks ≡ [] → IsOk result)
    → ClosesLevel result old new (around areas s blocks) after
level_closed result old middle new areas middle_areas s t blocks after pack are ends others rests first stays drains ready spares keeps second id says same none_queued = record {
  id = id ∙ stays.id;
  spares = spares_then old.id (around areas s blocks) (around middle_areas t blocks) after
      (spares_files old.id areas middle_areas blocks s t pack are others)
      (subst (λ (l : LevelId). Spares l (around middle_areas t blocks) after) stays.id spares);
  rests = λ none. keeps_trans s t after.state (rests none).1 keeps;
  ends = λ done. none_queued (ap (λ (l : LevelId). blocks_of l blocks) stays.id ∙ done.1);
  says = said result;
  failures = omega (arith, first, second);
  comes = by result drains ready;
}
  where
    said : (result : Result (Unit {0}) SectorFault) → OnOk result (KeepsSaid old.id areas s.contents after.areas after.state.contents)
    said (Ok done) = λ before. said_same old.id middle_areas after.areas t after.state keeps same (says before)
    said (Err fault) = tt

    by : (result : Result (Unit {0}) SectorFault) → OnOk result (Becomes (λ w. record w { lines = all_drained w.lines }) (Holds middle (around middle_areas t blocks)) (Holds new after))
        → OnOk result (IsReady new (seen after.areas after.state.contents)) → ClosesTo result old new (around areas s blocks) after
    by (Ok done) drains ready = (
      ready,
      λ w held.
          subst (λ (lines : Lines). Holds new after (record (job_ended w) { lines = all_drained lines })) (lines_stay w) (drains (job_ended w) (ends blocks are w held)),
    )
    by (Err fault) drains ready = tt

-- ---- both levels
-- what the first level spares as it is closed, whether it stops or not
pub first_stopped : (fault : SectorFault) (one two new_one : Level) (before after : Around) → IsReadyFor one two before
    → ClosesLevel (Err fault) one new_one before after → ClosesBoth (Err fault) one two new_one two before after
first_stopped fault one two new_one before after ready first = record {
  header = header_spared One before after spares;
  common = common_spared One before after ready.one_ready.files.pack spares;
  one_rests = λ none. step_from_keeps (IsOwn One before.areas.header) before.state after.state (first.rests none);
  two_rests = λ none. other_spared One before after ready.one_ready.files.pack spares;
  one_mounts = tt;
  two_mounts = tt;
  memory = λ done_one done_two same. true≢false (sym (first.ends (done_one.0, ap (λ (l : LevelId). blocks_of l before.blocks) ready.one_is ∙ done_one.1)));
  failures = first.failures;
  comes = tt;
}
  where
    spares : Spares One before after
    spares = subst (λ (l : LevelId). Spares l before after) ready.one_is first.spares

-- the second level is ready once the first is closed
pub second_ready : (one two new_one : Level) (before middle : Around) → IsReadyFor one two before → ClosesLevel (Ok tt) one new_one before middle
    → IsReady two (seen middle.areas middle.state.contents)
second_ready one two new_one before middle ready first =
    ready_stays One two before middle ready.two_is ready.one_ready.files.pack (subst (λ (l : LevelId). Spares l before middle) ready.one_is first.spares) ready.two_ready

-- what both spare, whatever it comes to
both_spared : (result both : Result (Unit {0}) SectorFault) (one two new_one new_two : Level) (before middle after last : Around) → IsReadyFor one two before
    → ClosesLevel (Ok tt) one new_one before middle → ClosesLevel result two new_two middle after
    → last.areas ≡ after.areas → KeepsContents after.state last.state
    → last.state.failures ≡ before.state.failures + failed_transfers both
    → OnOk both (MountsAs One before new_one last)
    → OnOk both (MountsAs Two before new_two last)
    → (IsDone Two two before → both ≢ Err NoMemory)
    → BothTo both one two new_one new_two before last
    → ClosesBoth both one two new_one new_two before last
both_spared result both one two new_one new_two before middle after last ready first second areas flushed failures one_mounts two_mounts memory comes = record {
  header = ap (λ (a : Areas). a.header) areas ∙ header_spared Two middle after spares_two ∙ header_spared One before middle spares_one;
  common = along IsCommon (common_spared One before middle ready.one_ready.files.pack spares_one) (common_spared Two middle after spares_one.pack spares_two);
  one_rests = λ none. along (IsOwn One) (step_from_keeps (IsOwn One before.areas.header) before.state middle.state (first.rests none)) (other_spared Two middle after spares_one.pack spares_two);
  two_rests = λ none. along (IsOwn Two) (other_spared One before middle ready.one_ready.files.pack spares_one) (step_from_keeps (IsOwn Two middle.areas.header) middle.state after.state (second.rests none));
  one_mounts = one_mounts;
  two_mounts = two_mounts;
  memory = λ done_one done_two. memory done_two;
  failures = failures;
  comes = comes;
}
  where
    spares_one : Spares One before middle
    spares_one = subst (λ (l : LevelId). Spares l before middle) ready.one_is first.spares

    spares_two : Spares Two middle after
    spares_two = subst (λ (l : LevelId). Spares l middle after) ready.two_is second.spares

    along : (K : Header → ℕ → Type 0) → KeepsInStep (K before.areas.header) before.state middle.state → KeepsInStep (K middle.areas.header) middle.state after.state
        → KeepsInStep (K before.areas.header) before.state last.state
    along K before_middle middle_after =
        step_trans (K before.areas.header) before.state after.state last.state
        (step_trans (K before.areas.header) before.state middle.state after.state before_middle
        (subst (λ (k : Header). KeepsInStep (K k) middle.state after.state) (header_spared One before middle spares_one) middle_after))
        (step_from_keeps (K before.areas.header) after.state last.state flushed)

empty_of : (blocks : List ℕ) → length blocks ≡ 0 → blocks ≡ []
empty_of [] is = refl
empty_of (block ∷ blocks) is = absurd (omega (arith, is))

-- the end of the first level queues nothing for the second
still_done : (two : Level) (before middle : Around) → Spares One before middle → IsDone Two two before → IsDone Two two middle
still_done two before middle spares done = (
  done.0,
  empty_of (blocks_of Two middle.blocks)
      (omega (arith, ap length spares.queue, ap length done.1, queue_length Two middle.blocks middle.state.contents, queue_length Two before.blocks before.state.contents)),
)

pub second_stopped : (fault : SectorFault) (one two new_one new_two : Level) (before middle after : Around) → IsReadyFor one two before
    → ClosesLevel (Ok tt) one new_one before middle → ClosesLevel (Err fault) two new_two middle after → ClosesBoth (Err fault) one two new_one new_two before after
second_stopped fault one two new_one new_two before middle after ready first second =
    both_spared (Err fault) (Err fault) one two new_one new_two before middle after after ready first second refl (keeps_refl after.state) (omega (arith, first.failures, second.failures)) tt tt
    (λ done same. true≢false (sym (second.ends (let still = still_done two before middle (subst (λ (l : LevelId). Spares l before middle) ready.one_is first.spares) done in (still.0, ap (λ (l : LevelId). blocks_of l middle.blocks) ready.two_is ∙ still.1))))) tt

-- a flush leaves what levels hold
flush_holds : (level : Level) (areas : Areas) (s t : PoolState) (blocks : Blocks) (w : World) → KeepsContents s t → Holds level (around areas s blocks) w → Holds level (around areas t blocks) w
flush_holds level areas s t blocks w keeps held = record {
  parts = subst (λ (c : List (List ℕ)). HoldsParts level (record { seen = seen areas c; queue = queue_of level.id blocks c; quota = quota_of level.id blocks }) w) (sym keeps.contents) held.parts;
  asked = held.asked;
}

-- a mount finds no overlapping or duplicate label of a level, and finds the slots as the represented world has them
mounts_as : (level : LevelId) (his : Level) (before after : Around) → his.id ≡ level → IsPackReady after.areas after.state.contents
    → KeepsSaid level before.areas before.state.contents after.areas after.state.contents → MountsAs level before his after
mounts_as level his before after id pack keeps = λ said. (
  untangled_as_said level after.areas after.state.contents (pack.own level) (keeps said),
  λ w held.
      judged_as_said level after.areas after.state.contents (pack.own level) (keeps said) ∙ ap (λ (l : LevelId). slots_at l after.areas) (sym id) ∙ sym held.parts.pack.own.slots_of_area,
)

-- both levels were closed, and the pool flushed, or it stopped at that
pub both_closed : (result : Result (Unit {0}) SectorFault) (one two new_one new_two : Level) (before middle : Around) (areas : Areas) (s t : PoolState) (blocks : Blocks) → IsReadyFor one two before
    → ClosesLevel (Ok tt) one new_one before middle → ClosesLevel (Ok tt) two new_two middle (around areas s blocks)
    → OnOk result (t.stored ≡ s.contents)
    → KeepsContents s t
    → t.failures ≡ s.failures + failed_transfers result
    → IfErr result (λ fault. fault ≡ Device)
    → ClosesBoth result one two new_one new_two before (around areas t blocks)
both_closed result one two new_one new_two before middle areas s t blocks ready first second flushed keeps failures fails =
    both_spared (Ok tt) result one two new_one new_two before middle (around areas s blocks) (around areas t blocks) ready first second refl keeps (omega (arith, first.failures, second.failures, failures))
    (always result (mounts_as One new_one before (around areas t blocks) (first.id ∙ ready.one_is) pack said_one))
    (always result (mounts_as Two new_two before (around areas t blocks) (second.id ∙ ready.two_is) pack said_two))
    (λ done. device_alone result fails) (by result flushed)
  where
    spares_one : Spares One before middle
    spares_one = subst (λ (l : LevelId). Spares l before middle) ready.one_is first.spares

    spares_two : Spares Two middle (around areas s blocks)
    spares_two = subst (λ (l : LevelId). Spares l middle (around areas s blocks)) ready.two_is second.spares

    pack : IsPackReady areas t.contents
    pack = subst (IsPackReady areas) (sym keeps.contents) spares_two.pack

    flushed_said : (level : LevelId) → KeepsSaid level areas s.contents areas t.contents
    flushed_said level = said_same level areas areas s t keeps refl

    said_one : KeepsSaid One before.areas before.state.contents areas t.contents
    said_one = λ said.
        flushed_said One (other_said Two middle (around areas s blocks) spares_one.pack spares_two
        (subst (λ (l : LevelId). KeepsSaid l before.areas before.state.contents middle.areas middle.state.contents) ready.one_is first.says said))

    said_two : KeepsSaid Two before.areas before.state.contents areas t.contents
    said_two = λ said.
        flushed_said Two (subst (λ (l : LevelId). KeepsSaid l middle.areas middle.state.contents areas s.contents) ready.two_is second.says
        (other_said One before middle ready.one_ready.files.pack spares_one said))

    always : {X : Type 0} (result : Result (Unit {0}) SectorFault) → X → OnOk result X
    always (Ok done) x = x
    always (Err fault) x = tt

    device_alone : (result : Result (Unit {0}) SectorFault) → IfErr result (λ fault. fault ≡ Device) → result ≢ Err NoMemory
    device_alone (Ok done) is = λ same. cc
    device_alone (Err fault) is = λ same. let clash : Device ≡ NoMemory = sym is ∙ (let both : fault ≡ NoMemory = cc in both) in absurd cc

    one_held : Becomes closed (Holds one before) (Holds new_one (around areas t blocks))
    one_held = λ w held. flush_holds new_one areas s t blocks (closed w) keeps
        (worlds_stay Two new_one middle (around areas s blocks) (closed w) (first.id ∙ ready.one_is) first.comes.0 spares_two (first.comes.1 w held))

    two_held : Becomes closed (Holds two before) (Holds new_two (around areas t blocks))
    two_held = λ w held. flush_holds new_two areas s t blocks (closed w) keeps
        (second.comes.1 w (worlds_stay One two before middle w ready.two_is ready.two_ready spares_one held))

    by : (result : Result (Unit {0}) SectorFault) → OnOk result (t.stored ≡ s.contents) → BothTo result one two new_one new_two before (around areas t blocks)
    by (Ok done) flushed = (flushed ∙ sym keeps.contents, (one_held, two_held))
    by (Err fault) flushed = tt
