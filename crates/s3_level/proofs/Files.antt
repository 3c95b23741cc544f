-- Requests to files: the world's job is served as the open job is.
use Rattle.std.proofs.Common.{◌≡◌, ℕ, List, slice_range, Bool, true, false, refl, sym, ◌∙◌, ap, subst, Option, Some, Result, Ok, Err, IfOk, OnOk, OnErr, IsErr, true≢false}
use Rattle.s3_cards.specs.declared.levels.LevelId.{LevelId}
use Rattle.s3_meaning.specs.Requests.{Request}
use Rattle.s3_meaning.specs.Source.{Source}
use Rattle.s3_cycle.specs.Inner.Following.{Resumes, StandsFor, asked, waits}
use Rattle.s3_cycle.proofs.FollowLemmas.{follows_on, waits_as}
use Rattle.s3_job_files.specs.Inner.Holds.{Seen, HoldsFiles, Holds as HoldsInUse, IsReady as AreFilesReady}
use Rattle.s3_job_files.specs.Requests as files
use Rattle.s3_job_files.specs.Requests.{Served}
use Rattle.s3_job_files.specs.declared.file.OpenFile.{OpenFile}
use Rattle.s3_job_files.specs.declared.job_files.JobFiles.{JobFiles}
use Rattle.s3_solo.specs.World.{World, JobAtWork}
use Rattle.s3_solo.specs.Serving.{Outcome, at_work, file_served, in_use, pending, with_answer}
use Rattle.s3_solo.specs.declared.action.Did.{Did}
use Rattle.s3_solo.specs.declared.action.Did.TheVariants.{Acted, Idle}
use Rattle.s3_level.specs.declared.job.OpenJob.{OpenJob}
use Rattle.s3_level.specs.declared.level.Level.{Level}
use Rattle.s3_level.specs.Inner.Calls.{CanServe, KeepsReady}
use Rattle.s3_level.specs.Inner.Holds.{Shown, HoldsParts, HoldsJob, HoldsAtWork, IsAtWorkReady, IsJobReady, IsReady, Stays, open_files, with_seen}
use Rattle.s3_level.specs.Inner.Turning.{AsksFile, AtWorkBecomes, FileServed, FileThere, HasFile, KeepsPlace, Serves, ServesFile, on_files, request_by}
use Rattle.s3_level.proofs.Library.{still_of_library}
use Rattle.s3_level.proofs.Running.{standing_same}

-- ---- the files of the open job
-- the open job is the world's
held_job : (deck : List (List ℕ)) (job : OpenJob) (w : World) (meant : JobAtWork) (o : Option OpenJob) (of_world : Option JobAtWork) → o ≡ Some job → of_world ≡ Some meant → HoldsAtWork deck o w of_world
    → HoldsJob deck job w meant
held_job deck job w meant o of_world is_open is_job held =
    let P : Option OpenJob → Type 0 = λ k. HoldsAtWork deck k w (Some meant) in
    subst P is_open (let Q : Option JobAtWork → Type 0 = λ m. HoldsAtWork deck o w m in subst Q is_job held)

-- it holds the files of the world with those of its job
held_files : (before : Seen) (s : Shown) (old : Level) (job : OpenJob) (w : World) (meant : JobAtWork) → old.job ≡ Some job → job.files.level ≡ old.id → HoldsParts old (with_seen before s) w
    → HoldsJob old.deck job w meant → HoldsInUse job.files.level job.files.files.items before (in_use meant w)
held_files before s old job w meant is_open level_is held of_job = record {
  files =
      subst (λ (level : LevelId). HoldsFiles level job.files.files.items before w.pack) (sym level_is)
      (subst (λ (items : List OpenFile). HoldsFiles old.id items before w.pack) (ap open_files is_open) held.pack);
  job_files = of_job.files;
}

-- and waits where the world's job does
waits_there : (old : Level) (job : OpenJob) (w : World) (meant : JobAtWork) → HoldsJob old.deck job w meant → waits job.cycle ≡ pending meant w
waits_there old job w meant of_job = waits_as meant.source w.switches w.date meant.past job.cycle of_job.follows

-- ---- ready
-- the files of an open job are those of its level
pub level_of : (old : Level) (job : OpenJob) (pack : Seen) → old.job ≡ Some job → IsReady old pack → job.files.level ≡ old.id
level_of old job pack is_open ready = (subst (λ (o : Option OpenJob). IsAtWorkReady old.id o) is_open ready.job).level_of_files

job_ready : (old : Level) (job : OpenJob) (pack : Seen) → old.job ≡ Some job → IsReady old pack → IsJobReady job.files.level job
job_ready old job pack is_open ready =
    let at : IsJobReady old.id job = subst (λ (o : Option OpenJob). IsAtWorkReady old.id o) is_open ready.job in
    record { level_of_files = refl; switches = at.switches; lines = at.lines; places = at.places }

files_ready : (old : Level) (job : OpenJob) (pack : Seen) → old.job ≡ Some job → IsReady old pack → AreFilesReady job.files.level job.files.files.items pack
files_ready old job pack is_open ready =
    subst (λ (level : LevelId). AreFilesReady level job.files.files.items pack) (sym (level_of old job pack is_open ready))
    (subst (λ (items : List OpenFile). AreFilesReady old.id items pack) (ap open_files is_open) ready.files)

pub can_serve : (old : Level) (job : OpenJob) (pack : Seen) → old.job ≡ Some job → IsReady old pack → CanServe job pack
can_serve old job pack is_open ready = record { files = files_ready old job pack is_open ready; job = job_ready old job pack is_open ready }

-- so is the level with the job as it then is
pub then_ready : {T E : Type 0} (result : Result T E) (old : Level) (job new_job : OpenJob) (before after : Seen) → old.job ≡ Some job → IsReady old before → KeepsPlace job new_job
    → OnOk result (CanServe new_job after) → OnOk result (IsReady (record old { job = Some new_job }) after)
then_ready (Ok _) old job new_job before after is_open ready place can =
    let level : new_job.files.level ≡ old.id = place.level ∙ level_of old job before is_open ready in
    record {
      files = subst (λ (l : LevelId). AreFilesReady l new_job.files.files.items after) level can.files;
      job = record { level_of_files = level; switches = can.job.switches; lines = can.job.lines; places = can.job.places };
      of_library = still_of_library old job new_job is_open place.program place.stands ready.of_library;
    }
then_ready (Err _) old job new_job before after is_open ready place can = tt

-- and with a job whose files stay
pub ready_on : (old : Level) (job after : OpenJob) → old.job ≡ Some job → after.program ≡ job.program → after.files ≡ job.files → ((source : Source) → StandsFor job.cycle source → StandsFor after.cycle source)
    → (IsJobReady job.files.level job → IsJobReady after.files.level after) → KeepsReady old (record old { job = Some after })
ready_on old job after is_open program same stands still = record {
  stays = record { id = refl; deck = refl; drained = refl };
  ready = λ pack ready. record {
    files = subst (λ (items : List OpenFile). AreFilesReady old.id items pack) (ap open_files is_open ∙ sym (ap (λ (f : JobFiles). f.files.items) same)) ready.files;
    job = subst (λ (level : LevelId). IsJobReady level after) (ap (λ (f : JobFiles). f.level) same ∙ level_of old job pack is_open ready) (still (job_ready old job pack is_open ready));
    of_library = still_of_library old job after is_open program stands ready.of_library;
  };
}

-- ---- a request is served
-- the world is then held with what served it
held_served : (after : Seen) (s : Shown) (old : Level) (job new_job : OpenJob) (w : World) (meant : JobAtWork) (before : Seen) (one : Served) → job.files.level ≡ old.id → KeepsPlace job new_job
    → HoldsParts old (with_seen before s) w → HoldsJob old.deck job w meant → HoldsInUse job.files.level new_job.files.files.items after one.in_use → Resumes job.cycle new_job.cycle one.answer
    → HoldsParts (record old { job = Some new_job }) (with_seen after s)
    (record w { pack = one.in_use.files; job = Some (with_answer one.answer (record meant { files = one.in_use.job_files })) })
held_served after s old job new_job w meant before one level_is place held of_job holds resumes = record {
  cards = held.cards;
  jobs = held.jobs;
  number = held.number;
  library = held.library;
  switches = held.switches;
  date = held.date;
  pack = subst (λ (level : LevelId). HoldsFiles level new_job.files.files.items after one.in_use.files) level_is holds.files;
  job = record {
    number = of_job.number ∙ sym place.number;
    cards = of_job.cards ∙ (λ i. slice_range old.deck (sym place.next i) (sym place.end i));
    files = holds.job_files;
    follows = follows_on meant.source w.switches w.date meant.past job.cycle new_job.cycle one.answer of_job.follows resumes;
  };
  lines = record { printed = held.lines.printed; drained_lines = held.lines.drained_lines; quota = held.lines.quota };
  halts = held.halts;
}

served_there : (before after : Seen) (s : Shown) (old : Level) (job new_job : OpenJob) → old.job ≡ Some job → IsReady old before → KeepsPlace job new_job → ServesFile true job new_job before after
    → FileServed true (HoldsParts old (with_seen before s)) (HoldsParts (record old { job = Some new_job }) (with_seen after s))
served_there before after s old job new_job is_open ready place serves = λ w meant is_job held.
    let of_job = held_job old.deck job w meant old.job w.job is_open is_job held.job in
    let done = serves (in_use meant w) (held_files before s old job w meant is_open (level_of old job before is_open ready) held of_job) in (
      done.0,
      ap (λ (request : Request). files.served request (in_use meant w)) (sym (waits_there old job w meant of_job)) ∙ done.1,
      held_served after s old job new_job w meant before done.0 (level_of old job before is_open ready) place held of_job done.2.0 done.2.1,
    )

-- none of its files is named, and the world stays
not_there : (before after : Seen) (s : Shown) (old : Level) (job new_job : OpenJob) → old.job ≡ Some job → IsReady old before → ServesFile false job new_job before after
    → FileServed false (HoldsParts old (with_seen before s)) (HoldsParts (record old { job = Some new_job }) (with_seen after s))
not_there before after s old job new_job is_open ready serves = λ w meant is_job held.
    let of_job = held_job old.deck job w meant old.job w.job is_open is_job held.job in (
      ap (λ (request : Request). files.served request (in_use meant w)) (sym (waits_there old job w meant of_job)) ∙ serves.0 (in_use meant w) (held_files before s old job w meant is_open (level_of old job before is_open ready) held of_job),
      subst (λ (seen : Seen). HoldsParts (record old { job = Some new_job }) (with_seen seen s) w) (sym serves.2)
          (subst (λ (o : Option OpenJob). HoldsParts (record old { job = o }) (with_seen before s) w) (is_open ∙ ap Some (sym serves.1)) held),
    )

pub file_taken : {E : Type 0} (result : Result Bool E) (before after : Seen) (s : Shown) (old : Level) (job new_job : OpenJob) → old.job ≡ Some job → IsReady old before → KeepsPlace job new_job
    → IfOk result (λ served. ServesFile served job new_job before after)
    → IfOk result (λ took. FileServed took (HoldsParts old (with_seen before s)) (HoldsParts (record old { job = Some new_job }) (with_seen after s)))
file_taken (Ok true) before after s old job new_job is_open ready place serves = served_there before after s old job new_job is_open ready place serves
file_taken (Ok false) before after s old job new_job is_open ready place serves = not_there before after s old job new_job is_open ready serves
file_taken (Err _) before after s old job new_job is_open ready place serves = serves

-- it fails only where the world's job has the file
pub file_there : {E : Type 0} (result : Result Bool E) (before : Seen) (s : Shown) (old : Level) (job : OpenJob) → old.job ≡ Some job → IsReady old before
    → OnErr result (HasFile job before) → OnErr result (FileThere (HoldsParts old (with_seen before s)))
file_there (Ok _) before s old job is_open ready has = has
file_there (Err _) before s old job is_open ready has = λ w meant is_job held.
    let of_job = held_job old.deck job w meant old.job w.job is_open is_job held.job in
    let done = has (in_use meant w) (held_files before s old job w meant is_open (level_of old job before is_open ready) held of_job) in
    (done.0, ap (λ (request : Request). files.served request (in_use meant w)) (sym (waits_there old job w meant of_job)) ∙ done.1)

-- a job is open where something of a file is asked
pub file_asked : (old : Level) (job : OpenJob) → old.job ≡ Some job → AsksFile (request_by old.job) → AsksFile (Some (asked job.cycle))
file_asked old job is_open asking = subst (λ (o : Option OpenJob). AsksFile (request_by o)) is_open asking

-- ---- and the job goes on
on_some : (meant : JobAtWork) (w : World) (one : Served) → files.served (pending meant w) (in_use meant w) ≡ Some one
    → on_files meant w ≡ file_served (Some one) meant w
on_some meant w one is = ap (λ (o : Option Served). file_served o meant w) is

pub file_acts : (E : Type 0) (old middle new : World → Type 0) → FileServed true old middle → AtWorkBecomes at_work middle new → Serves {E = E} on_files (Ok Acted) old new
file_acts E old middle new served stands = λ w meant is_job held.
    let done = served w meant is_job held in
    let job : JobAtWork = with_answer done.0.answer (record meant { files = done.0.in_use.job_files }) in
    let with_files : World = record w { pack = done.0.in_use.files } in
    let there : new (at_work job with_files) =
    subst new (standing_same (pending job with_files) job with_files (Some job)) (stands (record with_files { job = Some job }) job refl done.2) in
    let P : Outcome → Type 0 = λ o. (Acted ≡ o.did) × new o.world in
    subst P (sym (on_some meant w done.0 done.1)) (refl, there)

-- whatever fails then, it fails where it acts
acts_there : (meant : JobAtWork) (w : World) (one : Served) → files.served (pending meant w) (in_use meant w) ≡ Some one → (on_files meant w).did ≡ Acted
acts_there meant w one is = ap (λ (o : Outcome). o.did) (on_some meant w one is)

pub file_stops : {E : Type 0} (result : Result Did E) (old middle new : World → Type 0) → IsErr result → FileServed true old middle → Serves on_files result old new
file_stops (Ok did) old middle new fails served = absurd (true≢false (sym fails))
file_stops (Err e) old middle new fails served = λ w meant is_job held. let done = served w meant is_job held in acts_there meant w done.0 done.1

pub file_fails : {E : Type 0} (result : Result Did E) (old new : World → Type 0) → IsErr result → FileThere old → Serves on_files result old new
file_fails (Ok did) old new fails there = absurd (true≢false (sym fails))
file_fails (Err e) old new fails there = λ w meant is_job held. let done = there w meant is_job held in acts_there meant w done.0 done.1

-- nothing serves it
pub file_idles : (E : Type 0) (old new : World → Type 0) → FileServed false old new → Serves {E = E} on_files (Ok Idle) old new
file_idles E old new none = λ w meant is_job held.
    let there = none w meant is_job held in
    let P : Outcome → Type 0 = λ o. (Idle ≡ o.did) × new o.world in
    subst P (sym (ap (λ (o : Option Served). file_served o meant w) there.0)) (refl, there.1)

-- ---- one call after another
pub stays_then : (old middle new : Level) → Stays old middle → Stays middle new → Stays old new
stays_then old middle new first second = record { id = second.id ∙ first.id; deck = second.deck ∙ first.deck; drained = second.drained ∙ first.drained }
