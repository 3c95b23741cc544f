-- Jumps that are passed many at once: as many turns of the reference model.
use Rattle.std.proofs.Common.{◌≡◌, ◌≤◌, ◌<◌, ℕ, zero, suc, List, [], ◌∷◌, ◌++◌, refl, sym, ◌∙◌, ap, subst, replicate, append-nil, append_assoc, Bool, false, if◌then◌else◌, Option, Some, None, is_some, Result, Ok, Err, map, slice_range, arith}
use Rattle.std.specs.Prelude.{IfOk}
use Rattle.std.proofs.lemmas.Option.{none-some}
use Rattle.s3_meaning.specs.Requests.{Answer, Request, Jump, Done}
use Rattle.s3_meaning.specs.Cycle.{Req}
use Rattle.s3_operator.specs.Halts.{is_waiting}
use Rattle.s3_cycle.specs.declared.request.Request.TheVariants as asks
use Rattle.s3_cycle.specs.Inner.Following.{PassesJumps, asked}
use Rattle.s3_cycle.proofs.FollowLemmas.{waits_jump}
use Rattle.s3_cycle.proofs.JumpLemmas.{done_last}
use Rattle.s3_solo.specs.declared.action.Action.{Action}
use Rattle.s3_solo.specs.declared.action.Action.TheVariants.{Turn}
use Rattle.s3_solo.specs.declared.action.Did.TheVariants.{Acted}
use Rattle.s3_solo.specs.World.{World, JobAtWork}
use Rattle.s3_solo.specs.Inner.Asked.{IsAsked}
use Rattle.s3_solo.specs.Serving.{Outcome, acted, at_work, idle, pending, served, standing_at, with_answer}
use Rattle.s3_solo.specs.Solo.{gone_on, solo, step_of}
use Rattle.s3_solo.proofs.Asking.{step_asks}
use Rattle.s3_job_files.specs.Inner.Holds.{HoldsFiles, job_file_of}
use Rattle.s3_job_files.specs.declared.file.OpenFile.{OpenFile}
use Rattle.s3_job_files.specs.declared.job_files.JobFiles.{JobFiles}
use Rattle.s3_level.specs.declared.job.OpenJob.{OpenJob}
use Rattle.s3_level.specs.declared.level.Level.{Level}
use Rattle.s3_level.specs.declared.taken.Taken.{Taken}
use Rattle.s3_level.specs.Inner.Holds.{HoldsJob, HoldsParts, IsUpTo, Repeats, Shown, StopsAtEnd, open_files}
use Rattle.s3_level.specs.Inner.Turning.{AtWorkBecomes, JumpsBecome, KeepsPlace, Pends, TakesTurns, request_by, waits_by, with_done}
use Rattle.s3_level.proofs.Running.{job_held, pends, standing_same}

-- ---- the open job and the world's
abbrev items_of : JobFiles → List OpenFile
items_of files = files.files.items

-- after the jumps that it passes, the open job represents the world's job with their answers
pub jumps_taken : (s : Shown) (old : Level) (job after : OpenJob) (jumps : ℕ) → old.job ≡ Some job → KeepsPlace job after → after.files ≡ job.files → PassesJumps job.cycle after.cycle jumps
    → JumpsBecome jumps (λ meant w. record w { job = Some meant }) (HoldsParts old s) (HoldsParts (record old { job = Some after }) s)
jumps_taken s old job after jumps is_open place same_files passes = λ w meant is_job held.
    let h : HoldsJob old.deck job w meant = job_held old.deck job w meant old.job w.job is_open is_job held.job in
    let next = passes.goes meant.source h.follows.stands in (
      λ n few. sym (h.follows.runs (replicate n Done)) ∙ passes.asks meant.source h.follows.stands n few,
      record {
        cards = held.cards;
        jobs = held.jobs;
        number = held.number;
        library = held.library;
        switches = held.switches;
        date = held.date;
        pack = subst (λ (items : List OpenFile). HoldsFiles old.id items s.seen w.pack) (ap open_files is_open ∙ sym (ap items_of same_files)) held.pack;
        job = record {
          number = h.number ∙ sym place.number;
          cards = h.cards ∙ (λ i. slice_range old.deck (sym place.next i) (sym place.end i));
          files = h.files ∙ sym (ap (λ (f : JobFiles). map job_file_of f.files.items) same_files);
          follows = record {
            stands = next.0;
            runs = λ answers. next.1 answers ∙ (h.follows.runs (replicate jumps Done ++ answers) ∙ ap (Req meant.source w.switches w.date) (sym (append_assoc meant.past (replicate jumps Done) answers)));
          };
        };
        lines = held.lines;
        halts = held.halts;
      },
    )

-- and it is where its next request is
pub jumps_stand : (jumps : ℕ) (old middle new : World → Type 0) → JumpsBecome jumps (λ job w. record w { job = Some job }) old middle → AtWorkBecomes at_work middle new → JumpsBecome jumps at_work old new
jumps_stand jumps old middle new takes stands = λ w job is_job held.
    let taken = takes w job is_job held in (
      taken.0,
      subst new (standing_same (pending (with_done jumps job) w) (with_done jumps job) w (Some (with_done jumps job))) (stands (record w { job = Some (with_done jumps job) }) (with_done jumps job) refl taken.1),
    )

-- ---- as many turns
-- the world behind so many jumps
abbrev behind : ℕ → JobAtWork → World → World
behind n job w = record w { job = Some (with_done n job) }

-- one answer more
done_more : (n : ℕ) (job : JobAtWork) → with_answer Done (with_done n job) ≡ with_done (suc n) job
done_more n job = ap (λ (past : List Answer). record job { past = past })
    (append_assoc job.past (replicate n Done) (Done ∷ []) ∙ ap (λ (answers : List Answer). job.past ++ answers) (done_last n [] ∙ ap (λ (answers : List Answer). Done ∷ answers) (append-nil (replicate n Done))))

-- a turn there
turn_there : (n : ℕ) (job : JobAtWork) (w : World) → is_waiting w.halts ≡ false → pending (with_done n job) w ≡ Jump → step_of (behind n job w) Turn ≡ acted (at_work (with_done (suc n) job) w)
turn_there n job w quiet jumps' =
    ap (λ (b : Bool). if b then idle (behind n job w) else gone_on (Some (with_done n job)) (behind n job w)) quiet
    ∙ (ap (λ (r : Request). served r (with_done n job) (behind n job w)) jumps'
    ∙ (ap (λ (j : JobAtWork). acted (at_work j (behind n job w))) (done_more n job)
    ∙ ap acted (standing_same (pending (with_done (suc n) job) w) (with_done (suc n) job) w (Some (with_done n job)))))

-- one action more
solo_more : (n : ℕ) (action : Action) (w : World) → solo w (replicate (suc n) action) ≡ (step_of (solo w (replicate n action)) action).world
solo_more zero action w = refl
solo_more (suc n) action w = solo_more n action (step_of w action).world

-- behind so many turns
turns_there : (n : ℕ) (job : JobAtWork) (w : World) → w.job ≡ Some job → is_waiting w.halts ≡ false → ((k : ℕ) → k ≤ n → pending (with_done k job) w ≡ Jump) → solo w (replicate n Turn) ≡ behind n job w
turns_there zero job w is_job quiet all = ap (λ (o : Option JobAtWork). record w { job = o }) (is_job ∙ ap (λ (past : List Answer). Some (record job { past = past })) (sym (append-nil job.past)))
turns_there (suc n) job w is_job quiet all =
    let before : solo w (replicate n Turn) ≡ behind n job w = turns_there n job w is_job quiet (λ k few. all k (omega (arith, few))) in
    solo_more n Turn w
    ∙ (ap (λ (v : World). (step_of v Turn).world) before
    ∙ (ap (λ (o : Outcome). o.world) (turn_there n job w quiet (all n (omega arith)))
    ∙ ap (λ (r : Request). standing_at r (with_done (suc n) job) w) (all (suc n) (omega arith))))

turn_jumps : (turns n : ℕ) (job : JobAtWork) (w : World) → n < turns → w.job ≡ Some job → is_waiting w.halts ≡ false → ((k : ℕ) → k < turns → pending (with_done k job) w ≡ Jump)
    → step_of (solo w (replicate n Turn)) Turn ≡ acted (at_work (with_done (suc n) job) w)
turn_jumps turns n job w few is_job quiet all =
    ap (λ (v : World). step_of v Turn) (turns_there n job w is_job quiet (λ k within. all k (omega (arith, few, within))))
    ∙ turn_there n job w quiet (all n few)

turns_jump : (turns : ℕ) (job : JobAtWork) (w : World) → 1 ≤ turns → w.job ≡ Some job → is_waiting w.halts ≡ false → ((k : ℕ) → k < turns → pending (with_done k job) w ≡ Jump)
    → solo w (replicate turns Turn) ≡ at_work (with_done turns job) w
turns_jump zero job w some is_job quiet all = absurd (omega (arith, some))
turns_jump (suc n) job w some is_job quiet all = solo_more n Turn w ∙ ap (λ (o : Outcome). o.world) (turn_jumps (suc n) n job w (omega arith) is_job quiet all)

pub solo_asks : (n : ℕ) (action : Action) (w : World) → IsAsked w → IsAsked (solo w (replicate n action))
solo_asks zero action w asked' = asked'
solo_asks (suc n) action w asked' = solo_asks n action (step_of w action).world (step_asks action w asked')

-- the world's job waits at that jump
job_jumps : (s : Shown) (old : Level) (w : World) → request_by old.job ≡ Some asks.Jump → HoldsParts old s w → (job : JobAtWork) × (w.job ≡ Some job) × (pending job w ≡ Jump)
job_jumps s old w is held = by old.job is (pends s old w held)
  where
    by : (o : Option OpenJob) → request_by o ≡ Some asks.Jump → Pends (waits_by o) w → (job : JobAtWork) × (w.job ≡ Some job) × (pending job w ≡ Jump)
    by None none there = absurd (none-some asks.Jump none)
    by (Some open_job) some there = (there.0, there.1, there.2 ∙ waits_jump open_job.cycle (let e : asked open_job.cycle ≡ asks.Jump = cc in e))

quiet_in : (s : Shown) (old : Level) (w : World) → is_waiting old.halts ≡ false → HoldsParts old s w → is_waiting w.halts ≡ false
quiet_in s old w quiet held = ap is_waiting held.halts ∙ quiet

-- so many turns pass them
takes_jumps : (s : Shown) (old : Level) (new : World → Type 0) (most : ℕ) (taken : Taken) → is_waiting old.halts ≡ false → request_by old.job ≡ Some asks.Jump
    → IsUpTo most taken → taken.did ≡ Acted → JumpsBecome taken.times at_work (HoldsParts old s) new
    → Repeats Turn taken.times taken.did (HoldsParts old s) new
takes_jumps s old new most taken quiet is times acted becomes w held =
    let there = job_jumps s old w is held in
    let quiet' = quiet_in s old w quiet held in
    let goes = becomes w there.0 there.1 held in (
      λ n few. acted ∙ sym (ap (λ (o : Outcome). o.did) (turn_jumps taken.times n there.0 w few there.1 quiet' goes.0)),
      subst new (sym (turns_jump taken.times there.0 w times.some there.1 quiet' goes.0)) goes.1,
    )

-- before the last of them the job is at work
stays_in_jumps : (s : Shown) (old : Level) (new : World → Type 0) (taken : Taken) → is_waiting old.halts ≡ false → request_by old.job ≡ Some asks.Jump
    → JumpsBecome taken.times at_work (HoldsParts old s) new
    → StopsAtEnd Turn taken.times (HoldsParts old s)
stays_in_jumps s old new taken quiet is becomes w held n some few =
    let there = job_jumps s old w is held in
    let goes = becomes w there.0 there.1 held in
    ap (λ (v : World). is_some v.job) (turns_there n there.0 w there.1 (quiet_in s old w quiet held) (λ k within. goes.0 k (omega (arith, few, within))))

pub jumps_taken_as_turns : (s : Shown) {E : Type 0} (old : Level) (new : World → Type 0) (most : ℕ) (result : Result Taken E) → is_waiting old.halts ≡ false → request_by old.job ≡ Some asks.Jump
    → IfOk result (λ taken. IsUpTo most taken) → IfOk result (λ taken. taken.did ≡ Acted) → IfOk result (λ taken. JumpsBecome taken.times at_work (HoldsParts old s) new)
    → TakesTurns result (HoldsParts old s) new
jumps_taken_as_turns s old new most (Ok taken) quiet is times acted becomes = (takes_jumps s old new most taken quiet is times acted becomes, stays_in_jumps s old new taken quiet is becomes)
jumps_taken_as_turns s old new most (Err fault) quiet is times acted becomes = λ w held.
    let there = job_jumps s old w is held in
    ap (λ (b : Bool). (if b then idle w else gone_on w.job w).did) (quiet_in s old w quiet held)
    ∙ (ap (λ (o : Option JobAtWork). (gone_on o w).did) there.1 ∙ ap (λ (r : Request). (served r there.0 w).did) there.2)
