-- The end of a job: its files are closed.
use Rattle.std.proofs.Common.{◌≡◌, List, [], refl, sym, ap, subst, Option, Some, None, Result, Ok, Err, OnOk}
use Rattle.std.proofs.lemmas.Option.{none-some}
use Rattle.s3_cards.specs.declared.levels.LevelId.{LevelId}
use Rattle.s3_job_files.specs.Closing.{files_closed}
use Rattle.s3_job_files.specs.Files.{FilesInUse}
use Rattle.s3_job_files.specs.Inner.Holds.{HoldsFiles, Seen, Holds as HoldsInUse, IsReady as AreFilesReady}
use Rattle.s3_job_files.specs.declared.file.OpenFile.{OpenFile}
use Rattle.s3_solo.specs.World.{World, JobAtWork}
use Rattle.s3_solo.specs.Serving.{job_ended, over}
use Rattle.s3_level.specs.declared.job.OpenJob.{OpenJob}
use Rattle.s3_level.specs.declared.level.Level.{Level}
use Rattle.s3_store.specs.Inner.State.{PoolState}
use Rattle.s3_labels.specs.Inner.Areas.{Areas, IsReady as IsPackReady}
use Rattle.s3_job_files.specs.Inner.Holds.{seen}
use Rattle.s3_job_files.specs.Inner.Packs.{KeepsOthers}
use Rattle.s3_spool.specs.Inner.Queues.{Blocks}
use Rattle.s3_solo.specs.Inner.Asked.{IsAsked}
use Rattle.s3_level.proofs.Beside.{shown_moved}
use Rattle.s3_level.specs.Inner.Holds.{AreAll, Becomes, Holds, HoldsAtWork, around, shown, HoldsJob, HoldsParts, IsAtWorkReady, IsReady, Shown, Stocks, open_files, with_seen}
use Rattle.s3_level.specs.Inner.Library.{HasSame}
use Rattle.s3_program.specs.declared.program.Program.{Program}

-- the job at work is over
pub job_closed : (s : Shown) {T E : Type 0} (result : Result T E) (old new : Level) (job : OpenJob) (library : _) (before after : Seen) → old.job ≡ Some job → IsReady old before
    → HasSame old.library library
    → new ≡ record old { job = None; library = library }
    → OnOk result ((in_use : FilesInUse) → HoldsInUse job.files.level job.files.files.items before in_use
    → HoldsInUse job.files.level [] after (record { files = files_closed in_use.job_files in_use.files; job_files = [] }))
    → OnOk result (Becomes job_ended (HoldsParts old (with_seen before s)) (HoldsParts new (with_seen after s)))
job_closed s (Ok _) old new job library before after is_open ready same is closes = λ w held.
    subst (λ (level : Level). HoldsParts level (with_seen after s) (job_ended w)) (sym is) (by w held w.job refl held.job)
  where
    level_is : job.files.level ≡ old.id
    level_is = (subst (λ (o : Option OpenJob). IsAtWorkReady old.id o) is_open ready.job).level_of_files

    closed : (w : World) (meant : JobAtWork) → HoldsParts old (with_seen before s) w → HoldsJob old.deck job w meant → HoldsInUse old.id [] after (record { files = files_closed meant.files w.pack; job_files = [] })
    closed w meant held h =
        let files : HoldsFiles old.id job.files.files.items before w.pack = subst (λ (items : List OpenFile). HoldsFiles old.id items before w.pack) (ap open_files is_open) held.pack in
        let in_use : HoldsInUse job.files.level job.files.files.items before (record { files = w.pack; job_files = meant.files }) =
        subst (λ (level : LevelId). HoldsInUse level job.files.files.items before (record { files = w.pack; job_files = meant.files })) (sym level_is) (record { files = files; job_files = h.files }) in
        subst (λ (level : LevelId). HoldsInUse level [] after (record { files = files_closed meant.files w.pack; job_files = [] })) level_is (closes (record { files = w.pack; job_files = meant.files }) in_use)

    by : (w : World) → HoldsParts old (with_seen before s) w → (meant : Option JobAtWork) → w.job ≡ meant → HoldsAtWork old.deck old.job w meant
        → HoldsParts (record old { job = None; library = library }) (with_seen after s) (over meant w)
    by w held None is_none at = absurd (let P : Option OpenJob → Type 0 = λ o. HoldsAtWork old.deck o w None in subst P is_open at)
    by w held (Some meant) is_job at =
        let h : HoldsJob old.deck job w meant = (let P : Option OpenJob → Type 0 = λ o. HoldsAtWork old.deck o w (Some meant) in subst P is_open at) in
        record {
          cards = held.cards;
          jobs = held.jobs;
          number = held.number;
          library = λ name. subst (λ (of : Option Program). Stocks of (w.library name)) (sym (same name)) (held.library name);
          switches = held.switches;
          date = held.date;
          pack = (closed w meant held h).files;
          job = tt;
          lines = record { printed = held.lines.printed; drained_lines = held.lines.drained_lines; quota = held.lines.quota };
          halts = held.halts;
        }
job_closed s (Err _) old new job library before after is_open ready same is closes = tt

pub ready_over : (old new : Level) (after : Seen) (library : _) → new ≡ record old { job = None; library = library } → AreFilesReady old.id [] after → IsReady new after
ready_over old new after library is ready = subst (λ (level : Level). IsReady level after) (sym is) (record { files = ready; job = tt; of_library = tt })

-- ---- the whole
ended_asks : (w : World) → IsAsked w → IsAsked (job_ended w)
ended_asks w asks = by w.job refl
  where
    by : (o : Option JobAtWork) → w.job ≡ o → IsAsked (over o w)
    by None is = asks
    by (Some meant) is = λ job there. absurd (none-some job there)

pub closed_wholly : {T E : Type 0} (result : Result T E) (old new : Level) (areas new_areas : Areas) (state after : PoolState) (blocks : Blocks)
    → IsPackReady areas state.contents → AreAll blocks → KeepsOthers old.id areas new_areas state after → new.id ≡ old.id
    → ((s : Shown) → OnOk result (Becomes job_ended (HoldsParts old (with_seen (seen areas state.contents) s)) (HoldsParts new (with_seen (seen new_areas after.contents) s))))
    → OnOk result (Becomes job_ended (Holds old (around areas state blocks)) (Holds new (around new_areas after blocks)))
closed_wholly (Ok _) old new areas new_areas state after blocks pack are keeps id ends = λ w held. record {
  parts = shown_moved old new areas new_areas state after blocks (job_ended w) pack are keeps id (ends (shown old.id (around areas state blocks)) w held.parts);
  asked = ended_asks w held.asked;
}
closed_wholly (Err _) old new areas new_areas state after blocks pack are keeps id ends = tt
