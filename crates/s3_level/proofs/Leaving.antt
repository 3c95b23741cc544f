-- What calls answer and leave unchanged: after an answer or a fault, and one after another.
use Rattle.std.proofs.Common.{◌≡◌, ◌+◌, ℕ, [], refl, sym, ap, subst, ◌∙◌, Bool, true, false, true≢false, Option, Some, None, Result, Ok, Err, arith}
use Rattle.std.specs.Prelude.{OnOk}
use Rattle.std.specs.Result.{IsErrAnd}
use Rattle.s3_cards.specs.declared.levels.LevelId.{LevelId}
use Rattle.s3_store.specs.Inner.Failures.{failed_transfers}
use Rattle.s3_store.specs.Inner.State.{PoolState, KeepsContents, KeepsInStep}
use Rattle.s3_store.specs.declared.sector_fault.SectorFault.{SectorFault}
use Rattle.s3_store.specs.declared.sector_fault.SectorFault.TheVariants.{NoMemory}
use Rattle.s3_labels.specs.Inner.Areas.{Areas, slots_at, with_slots, IsReady as IsPackReady}
use Rattle.s3_labels.specs.Inner.Labelled.{KeepsSaid}
use Rattle.s3_spool.specs.Inner.Queues.{Blocks}
use Rattle.s3_job_files.specs.Inner.Holds.{seen, IsOutOfReach, Seen, IsReady as AreFilesReady}
use Rattle.s3_job_files.specs.Inner.Packs.{LeavesPack}
use Rattle.s3_job_files.specs.declared.job_files.JobFiles.{JobFiles}
use Rattle.s3_job_files.proofs.Packs.{pack_closed, pack_err, pack_kept, pack_ok, pack_read, pack_spent, pack_then}
use Rattle.s3_job_files.proofs.Said.{said_then}
use Rattle.s3_opening.specs.Inner.OpenFiles.{IfHalted}
use Rattle.s3_opening.specs.Inner.Starts.{failed_opening}
use Rattle.s3_opening.specs.declared.fault.OpeningFault.{OpeningFault}
use Rattle.s3_opening.specs.declared.fault.OpeningFault.TheVariants.{Halted, Sectors}
use Rattle.s3_operator.specs.declared.halt_code.HaltCode.{HaltCode}
use Rattle.s3_solo.specs.declared.action.Did.{Did}
use Rattle.s3_level.specs.declared.job.OpenJob.{OpenJob}
use Rattle.s3_level.specs.declared.level.Level.{Level}
use Rattle.s3_level.specs.declared.taken.Taken.{Taken}
use Rattle.s3_level.specs.Inner.Calls.{CanServe, KeepsJob, Leaves, LeavesAll, ServesJob}
use Rattle.s3_level.specs.Inner.Holds.{AreAll, Around, IsAtWorkReady, IsReady, Spares, Stays, around, once, open_files}
use Rattle.s3_level.specs.Inner.Turning.{HasFile, KeepsPlace, ServesFile}
use Rattle.s3_level.proofs.Beside.{spares_files, spares_none, spares_then}
use Rattle.s3_level.proofs.Ending.{ready_over}
use Rattle.s3_level.proofs.Files.{level_of, stays_then, then_ready}

-- ---- the files at the start of a job
-- they were opened
pub pack_opened : (job_files : JobFiles) {level : LevelId} {old new : Areas} {s t : PoolState} → IsPackReady new t.contents → new ≡ with_slots level (slots_at level new) old → KeepsInStep (IsOutOfReach level old.header) s t
    → KeepsSaid level old s.contents new t.contents → t.failures ≡ s.failures + failed_opening (Ok job_files) → LeavesPack level (Ok job_files) old new s t
pack_opened job_files pack alone spares says failures = pack_closed (Ok job_files) pack alone spares says failures

-- what is so where a job halts
pub if_halted : {A : Type 0} {fault : OpeningFault} {code : HaltCode} → fault ≡ Halted code → IfHalted fault A → A
if_halted {fault = Halted code} is it = it
if_halted {fault = Sectors stop} is it = cc

-- the job halts, and nothing was done
pub pack_halted : {level : LevelId} {fault : OpeningFault} {code : HaltCode} {old new : Areas} {s t : PoolState} → fault ≡ Halted code → IsPackReady old s.contents → IfHalted fault (new ≡ old) → IfHalted fault (KeepsContents s t)
    → t.failures ≡ s.failures + failed_opening {T = JobFiles} (Err fault) → LeavesPack level (Ok (tt {0})) old new s t
pack_halted {fault = Halted code} is ready same keeps failures = pack_read ready same (record { keeps = keeps; failures = failures })
pack_halted {fault = Sectors fault} is ready same keeps failures = cc

-- ---- the job at work
-- a request was served
pub job_served : {T : Type 0} {first : T} {old new : OpenJob} {before after : Areas} {s t : PoolState} → ServesFile true old new (seen before s.contents) (seen after t.contents) → CanServe new (seen after t.contents) → KeepsPlace old new
    → LeavesPack old.files.level (Ok first) before after s t → ServesJob (Ok true) old new before after s t
job_served serves ready place leaves = record { serves = serves; fails = tt; untouched = λ is. absurd (true≢false is); ready = ready; place = place; pack = pack_ok true leaves }

-- none was, and nothing was done
pub job_passed : {job : OpenJob} {areas : Areas} {s : PoolState} → ServesFile false job job (seen areas s.contents) (seen areas s.contents) → CanServe job (seen areas s.contents) → ServesJob (Ok false) job job areas areas s s
job_passed {job = job} {areas = areas} {s = s} passes ready = record {
  serves = passes;
  fails = tt;
  untouched = λ is. (refl, refl);
  ready = ready;
  place = record { number = refl; program = refl; next = refl; end = refl; level = refl; stands = λ source stands. stands };
  pack = pack_kept job.files.level areas s false ready.files.pack;
}

-- the file failed
pub job_failed : {T : Type 0} {fault : SectorFault} {old new : OpenJob} {before after : Areas} {s t : PoolState} (result : Result Bool SectorFault) → IsErrAnd result (λ f. f ≡ fault) → HasFile old (seen before s.contents) → KeepsPlace old new
    → LeavesPack {T = T} old.files.level (Err fault) before after s t → ServesJob result old new before after s t
job_failed (Ok answer) is has place leaves = absurd is
job_failed (Err f) is has place leaves = record { serves = tt; fails = has; untouched = tt; ready = tt; place = place; pack = pack_err (Err f) is leaves }

-- ---- the level
pub still : (level : Level) → Stays level level
still level = record { id = refl; deck = refl; drained = refl }

-- another job is at work, or none
pub stays_with : {old new : Level} {job : Option OpenJob} → new ≡ record old { job = job } → Stays old new
stays_with is = record { id = ap (λ (level : Level). level.id) is; deck = ap (λ (level : Level). level.deck) is; drained = ap (λ (level : Level). level.lines.items) is }

pub keeps_then : {old middle new : Level} → KeepsJob old middle → KeepsJob middle new → KeepsJob old new
keeps_then {old = old} {middle = middle} {new = new} first second = record {
  stays = stays_then old middle new first.stays second.stays;
  job = second.job ∙ first.job;
  of_library = λ of. second.of_library (first.of_library of);
}

pub ready_kept : {old new : Level} {pack : Seen} → KeepsJob old new → IsReady old pack → IsReady new pack
ready_kept {old = old} {new = new} {pack = pack} keeps ready = record {
  files = subst (λ (level : LevelId). AreFilesReady level (open_files new.job) pack) (sym keeps.stays.id) (subst (λ (job : Option OpenJob). AreFilesReady old.id (open_files job) pack) (sym keeps.job) ready.files);
  job = subst (λ (level : LevelId). IsAtWorkReady level new.job) (sym keeps.stays.id) (subst (λ (job : Option OpenJob). IsAtWorkReady old.id job) (sym keeps.job) ready.job);
  of_library = keeps.of_library ready.of_library;
}

pub leaves_ok : {T U : Type 0} {first : T} {old new : Level} {before after : Areas} {s t : PoolState} (answer : U) → Leaves (Ok first) old new before after s t → Leaves (Ok answer) old new before after s t
leaves_ok answer leaves = record { stays = leaves.stays; ready = leaves.ready; pack = pack_ok answer leaves.pack }

pub leaves_err : {T U : Type 0} {fault : SectorFault} {old new : Level} {before after : Areas} {s t : PoolState} (result : Result U SectorFault) → IsErrAnd result (λ f. f ≡ fault) → Leaves {T = T} (Err fault) old new before after s t
    → Leaves result old new before after s t
leaves_err (Ok answer) is leaves = absurd is
leaves_err (Err f) is leaves = record { stays = leaves.stays; ready = tt; pack = pack_err (Err f) is leaves.pack }

-- the pack and the job at work are as they were
pub leaves_kept : {T : Type 0} {old new : Level} {areas : Areas} {s : PoolState} (answer : T) → IsReady old (seen areas s.contents) → KeepsJob old new → Leaves (Ok answer) old new areas areas s s
leaves_kept {old = old} {areas = areas} {s = s} answer ready keeps = record { stays = keeps.stays; ready = ready_kept keeps ready; pack = pack_kept old.id areas s answer ready.files.pack }

pub leaves_same : {T : Type 0} {level : Level} {areas : Areas} {s : PoolState} (answer : T) → IsReady level (seen areas s.contents) → Leaves (Ok answer) level level areas areas s s
leaves_same {level = level} answer ready = leaves_kept answer ready (record { stays = still level; job = refl; of_library = λ of. of })

-- memory ran out, and of the pack that is left which was
pub leaves_spent : {T U : Type 0} {old new : Level} {first : T} {before after : Areas} {s t : PoolState} (result : Result U SectorFault) → IsErrAnd result (λ f. f ≡ NoMemory) → Stays old new → LeavesPack old.id (Ok first) before after s t
    → Leaves result old new before after s t
leaves_spent (Ok answer) is stays pack = absurd is
leaves_spent (Err f) is stays pack = record { stays = stays; ready = tt; pack = pack_spent (Err f) is pack }

pub leaves_memory : {T : Type 0} {old new : Level} {areas : Areas} {s : PoolState} (result : Result T SectorFault) → IsErrAnd result (λ f. f ≡ NoMemory) → IsPackReady areas s.contents → Stays old new → Leaves result old new areas areas s s
leaves_memory {old = old} {areas = areas} {s = s} result is ready stays = leaves_spent result is stays (pack_kept old.id areas s (tt {0}) ready)

-- a call after one that left the pack unchanged
pub leaves_behind : {T : Type 0} {result : Result T SectorFault} {old middle new : Level} {before after : Areas} {s t : PoolState} → Stays old middle → Leaves result middle new before after s t → Leaves result old new before after s t
leaves_behind {result = result} {old = old} {middle = middle} {new = new} {before = before} {after = after} {s = s} {t = t} stays leaves = record {
  stays = stays_then old middle new stays leaves.stays;
  ready = leaves.ready;
  pack = subst (λ (level : LevelId). LeavesPack level result before after s t) stays.id leaves.pack;
}

-- and after one that didn't
pub leaves_then : {T U : Type 0} {first : T} {result : Result U SectorFault} {old middle new : Level} {before between after : Areas} {s t u : PoolState} → Leaves (Ok first) old middle before between s t → Leaves result middle new between after t u
    → Leaves result old new before after s u
leaves_then {result = result} {old = old} {middle = middle} {new = new} {between = between} {after = after} {t = t} {u = u} first second = record {
  stays = stays_then old middle new first.stays second.stays;
  ready = second.ready;
  pack = pack_then first.pack (subst (λ (level : LevelId). LeavesPack level result between after t u) first.stays.id second.pack);
}

-- the job at work had its request served
pub leaves_served : {result : Result Bool SectorFault} {old : Level} {job new_job : OpenJob} {before after : Areas} {s t : PoolState} → old.job ≡ Some job → IsReady old (seen before s.contents) → ServesJob result job new_job before after s t
    → Leaves result old (record old { job = Some new_job }) before after s t
leaves_served {result = result} {old = old} {job = job} {new_job = new_job} {before = before} {after = after} {s = s} {t = t} is_open ready serves = record {
  stays = stays_with refl;
  ready = then_ready result old job new_job (seen before s.contents) (seen after t.contents) is_open ready serves.place serves.ready;
  pack = subst (λ (level : LevelId). LeavesPack level result before after s t) (level_of old job (seen before s.contents) is_open ready) serves.pack;
}

-- it was closed
pub leaves_closed : {T : Type 0} (result : Result T SectorFault) {old new : Level} {job : OpenJob} {library : _} {before after : Areas} {s t : PoolState} → old.job ≡ Some job → IsReady old (seen before s.contents) → new ≡ record old { job = None; library = library }
    → OnOk result (AreFilesReady job.files.level [] (seen after t.contents)) → LeavesPack job.files.level result before after s t → Leaves result old new before after s t
leaves_closed {T = T} result {old = old} {new = new} {job = job} {library = library} {before = before} {after = after} {s = s} {t = t} is_open ready is files leaves = record {
  stays = record { id = ap (λ (level : Level). level.id) is; deck = ap (λ (level : Level). level.deck) is; drained = ap (λ (level : Level). level.lines.items) is };
  ready = by result files;
  pack = subst (λ (level : LevelId). LeavesPack level result before after s t) same leaves;
}
  where
    same : job.files.level ≡ old.id
    same = level_of old job (seen before s.contents) is_open ready

    by : (r : Result T SectorFault) → OnOk r (AreFilesReady job.files.level [] (seen after t.contents)) → OnOk r (IsReady new (seen after t.contents))
    by (Ok answer) it = ready_over old new (seen after t.contents) library is (subst (λ (level : LevelId). AreFilesReady level [] (seen after t.contents)) same it)
    by (Err fault) it = tt

-- ---- the level beside the queues
pub all_ok : {T U : Type 0} {first : T} {old new : Level} {before after : Around} (answer : U) → LeavesAll (Ok first) old new before after → LeavesAll (Ok answer) old new before after
all_ok answer leaves = record { stays = leaves.stays; ready = leaves.ready; spares = leaves.spares; says = leaves.says; failures = leaves.failures }

pub all_err : {T U : Type 0} {fault : SectorFault} {old new : Level} {before after : Around} (result : Result U SectorFault) → IsErrAnd result (λ f. f ≡ fault) → LeavesAll {T = T} (Err fault) old new before after → LeavesAll result old new before after
all_err (Ok answer) is leaves = absurd is
all_err {U = U} {before = before} {after = after} (Err f) is leaves = record {
  stays = leaves.stays;
  ready = tt;
  spares = leaves.spares;
  says = tt;
  failures = subst (λ (g : SectorFault). after.state.failures ≡ before.state.failures + failed_transfers {T = U} (Err g)) (sym is) leaves.failures;
}

-- nothing was done
pub all_same : {T : Type 0} {level : Level} {beside : Around} (answer : T) → IsReady level (seen beside.areas beside.state.contents) → AreAll beside.blocks → LeavesAll (Ok answer) level level beside beside
all_same {level = level} {beside = beside} answer ready are = record {
  stays = still level;
  ready = ready;
  spares = spares_none level.id beside ready.files.pack are;
  says = λ said. said;
  failures = omega arith;
}

-- a call on the files leaves the queues
pub all_files : {T : Type 0} {result : Result T SectorFault} {old new : Level} {before after : Areas} {s t : PoolState} (blocks : Blocks) → IsPackReady before s.contents → AreAll blocks → Leaves result old new before after s t
    → LeavesAll result old new (around before s blocks) (around after t blocks)
all_files {old = old} {before = before} {after = after} {s = s} {t = t} blocks pack are leaves = record {
  stays = leaves.stays;
  ready = leaves.ready;
  spares = spares_files old.id before after blocks s t pack are leaves.pack.others;
  says = leaves.pack.says;
  failures = leaves.pack.failures;
}

-- one entry alone
pub all_once : {old new : Level} {before after : Around} (answer : Result Did SectorFault) (result : Result Taken SectorFault) → result ≡ once answer → LeavesAll answer old new before after → LeavesAll result old new before after
all_once {old = old} {new = new} {before = before} {after = after} answer result is leaves = subst (λ (r : Result Taken SectorFault). LeavesAll r old new before after) (sym is) (by answer leaves)
  where
    by : (a : Result Did SectorFault) → LeavesAll a old new before after → LeavesAll (once a) old new before after
    by (Ok did) l = record { stays = l.stays; ready = l.ready; spares = l.spares; says = l.says; failures = l.failures }
    by (Err fault) l = record { stays = l.stays; ready = tt; spares = l.spares; says = tt; failures = l.failures }

-- one call behind another
pub all_then : {T U : Type 0} {first : T} {result : Result U SectorFault} {old middle new : Level} {before between after : Around} → LeavesAll (Ok first) old middle before between → LeavesAll result middle new between after
    → LeavesAll result old new before after
all_then {result = result} {old = old} {middle = middle} {new = new} {before = before} {between = between} {after = after} first second = record {
  stays = stays_then old middle new first.stays second.stays;
  ready = second.ready;
  spares = spares_then old.id before between after first.spares (subst (λ (level : LevelId). Spares level between after) first.stays.id second.spares);
  says = said_then result old.id before.areas between.areas after.areas before.state.contents between.state.contents after.state.contents first.says
      (subst (λ (level : LevelId). OnOk result (KeepsSaid level between.areas between.state.contents after.areas after.state.contents)) first.stays.id second.says);
  failures = second.failures ∙ ap (λ (n : ℕ). n + failed_transfers result) (let same : between.state.failures ≡ before.state.failures = omega (arith, first.failures) in same);
}
