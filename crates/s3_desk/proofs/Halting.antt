-- What entries make of a level's halts: a turn may show one more, a reply gives the last one a reply, and nothing else changes them.
use Rattle.std.proofs.Common.{◌≡◌, ◌⊎◌, inl, inr, ℕ, List, [], ◌∷◌, ◌++◌, refl, sym, ◌∙◌, ap, subst, Bool, true, false, true≢false, if◌then◌else◌, Option, Some, None, Result, Ok, Err}
use Rattle.std.specs.List.{AllByRecursion as Each}
use Rattle.s3_lines.specs.declared.sheet.Line.{Line}
use Rattle.s3_lines.specs.declared.diagnostic.Diagnostic.{Diagnostic}
use Rattle.s3_sheets.specs.Lines.{lines_of}
use Rattle.s3_meaning.specs.Source.{Source}
use Rattle.s3_meaning.specs.Requests.{Request, Card, Read, Chain, Append, Add, Update, Print, Jump, Ask, End, Done, Reply}
use Rattle.s3_ocl.specs.declared.contents.FileStatement.{FileStatement}
use Rattle.s3_ocl.specs.declared.faults.FaultyJob.{FaultyJob}
use Rattle.s3_ocl.specs.Jobs.{Job, is_compile}
use Rattle.s3_operator.specs.declared.halt_code.HaltCode.{HaltCode}
use Rattle.s3_operator.specs.declared.reply_fault.ReplyFault.{ReplyFault}
use Rattle.s3_operator.specs.declared.reply_fault.ReplyFault.TheVariants.{NotAllowed}
use Rattle.s3_operator.specs.Replies.{is_allowed}
use Rattle.s3_operator.specs.Halts.{ShownHalt, answer_to, is_waiting, waiting, with_reply}
use Rattle.s3_job_files.specs.Files.{FilesInUse}
use Rattle.s3_job_files.specs.Requests as files
use Rattle.s3_job_files.specs.Requests.{Served}
use Rattle.s3_opening.specs.Opening.{opened}
use Rattle.s3_solo.specs.declared.action.Action.{Action}
use Rattle.s3_solo.specs.declared.action.Action.TheVariants as action
use Rattle.s3_solo.specs.declared.action.Did.TheVariants.{Acted}
use Rattle.s3_solo.specs.Lines.{has_room, is_queued, with_drained}
use Rattle.s3_solo.specs.World.{World, JobAtWork}
use Rattle.s3_solo.specs.Serving.{acted, at_work, begun, card_answer, compiled, compiled_data, data_of, diagnostics_of, file_served, idle, in_use, line_put, pending, performed, run, run_card_of, run_over, served, settings, standing_at, with_answer, with_card_read, with_jobs, with_settings}
use Rattle.s3_solo.specs.Solo.{drained, gone_on, refused, reply_given, resumed, solo, step_of, turned}
use Rattle.s3_desk.specs.Inner.Desk.{is_reply}
use Rattle.s3_desk.proofs.Halts.{Grows, more_waits}

-- ---- one halt more, or none
stands_grows : (job : JobAtWork) (w : World) → Grows w.halts (at_work job w).halts
stands_grows job w = by (pending job w)
  where
    by : (request : Request) → Grows w.halts (standing_at request job w).halts
    by Card = inl refl
    by (Read file size) = inl refl
    by (Chain file size sought) = inl refl
    by (Append file bytes) = inl refl
    by (Add file bytes) = inl refl
    by (Update file current changes) = inl refl
    by (Print page line text) = inl refl
    by Jump = inl refl
    by (Ask code) = inr (record { job = job.number; code = code; details = []; reply = None }, (refl, refl))
    by (End true) = inl refl
    by (End false) = inl refl

file_grows : (served : Option Served) (job : JobAtWork) (w : World) → Grows w.halts (file_served served job w).world.halts
file_grows None job w = inl refl
file_grows (Some served) job w = stands_grows (with_answer served.answer (record job { files = served.in_use.job_files })) (record w { pack = served.in_use.files })

served_grows : (request : Request) (job : JobAtWork) (w : World) → Grows w.halts (served request job w).world.halts
served_grows Card job w = stands_grows (with_answer (card_answer job.cards) (with_card_read job)) w
served_grows (Read file size) job w = file_grows (files.served (Read file size) (in_use job w)) job w
served_grows (Chain file size sought) job w = file_grows (files.served (Chain file size sought) (in_use job w)) job w
served_grows (Append file bytes) job w = file_grows (files.served (Append file bytes) (in_use job w)) job w
served_grows (Add file bytes) job w = file_grows (files.served (Add file bytes) (in_use job w)) job w
served_grows (Update file current changes) job w = file_grows (files.served (Update file current changes) (in_use job w)) job w
served_grows (Print page line text) job w = by (has_room w.lines)
  where
    by : (b : Bool) → Grows w.halts (if b then acted (at_work (with_answer Done job) (line_put page line text w)) else idle w).world.halts
    by true = stands_grows (with_answer Done job) (line_put page line text w)
    by false = inl refl
served_grows Jump job w = stands_grows (with_answer Done job) w
served_grows (Ask code) job w = inl refl
served_grows (End at_once) job w = inl refl

over_grows : (number : ℕ) (cards : List (List ℕ)) (source : Source) (opening : Result FilesInUse HaltCode) (w : World) → Grows w.halts (run_over number cards source opening w).halts
over_grows number cards source (Err code) w = inr (record { job = number; code = code; details = []; reply = None }, (refl, refl))
over_grows number cards source (Ok opening) w =
    stands_grows (record { number = number; source = source; cards = cards; files = opening.job_files; past = [] }) (record w { pack = opening.files })

run_grows : (number : ℕ) (statements : List FileStatement) (cards : List (List ℕ)) (source : Option Source) (w : World) → Grows w.halts (run number statements cards source w).halts
run_grows number statements cards None w = inr (_, (refl, refl))
run_grows number statements cards (Some source) w = over_grows number cards source (opened (settings statements w) source.files w.pack) w

compiled_grows : (number : ℕ) (lines : List Line) (diagnostics : List Diagnostic) (w : World) → Grows w.halts (compiled number lines diagnostics w).halts
compiled_grows number lines [] w = inl refl
compiled_grows number lines (first ∷ more) w = inr (_, (refl, refl))

performed_grows : (number : ℕ) (job : Job) (cards : List (List ℕ)) (w : World) → Grows w.halts (performed number job cards w).halts
performed_grows number job cards w = by (is_compile job)
  where
    by : (b : Bool) → Grows w.halts (if b then compiled_data number (run_card_of job) job.data_from cards w else run number job.files cards (w.library job.program) w).halts
    by true = compiled_grows number (lines_of job.data_from cards) (diagnostics_of (run_card_of job) job.data_from cards) w
    by false = run_grows number job.files cards (w.library job.program) w

begun_grows : (jobs : List (Result Job FaultyJob)) (w : World) → Grows w.halts (begun jobs w).world.halts
begun_grows [] w = inl refl
begun_grows (Ok job ∷ jobs) w = performed_grows w.deck.number job (data_of (with_jobs jobs w).deck.cards job) (with_settings job (with_jobs jobs w))
begun_grows (Err faulty ∷ jobs) w = inr (_, (refl, refl))

-- a turn is idle where a halt waits
turned_grows : (w : World) → ((turned w).world ≡ w) ⊎ ((is_waiting w.halts ≡ false) × Grows w.halts (turned w).world.halts)
turned_grows w = by (is_waiting w.halts) refl
  where
    gone : (o : Option JobAtWork) → Grows w.halts (gone_on o w).world.halts
    gone None = begun_grows w.deck.jobs w
    gone (Some job) = served_grows (pending job w) job w

    by : (b : Bool) → is_waiting w.halts ≡ b → ((if b then idle w else gone_on w.job w).world ≡ w) ⊎ ((is_waiting w.halts ≡ false) × Grows w.halts (if b then idle w else gone_on w.job w).world.halts)
    by true waits = inl refl
    by false waits = inr (waits, gone w.job)

drained_same : (w : World) → (drained w).world.halts ≡ w.halts
drained_same w = by (is_queued w.lines)
  where
    by : (b : Bool) → (if b then acted (record w { lines = with_drained w.lines }) else refused 3 w).world.halts ≡ w.halts
    by true = refl
    by false = refl

-- ---- turns and drains
abbrev pub AreNoReplies : List Action → Type 0
AreNoReplies actions = Each (λ action. is_reply action ≡ false) actions

-- of halts none of which waits, one more may be shown
abbrev pub GrowsAtRest : (old new : List ShownHalt) → Type 0
GrowsAtRest old new = (new ≡ old) ⊎ ((is_waiting old ≡ false) × ((halt : ShownHalt) × ((new ≡ old ++ halt ∷ []) × (halt.reply ≡ None))))

-- one that has come waits, so that no other one comes
one_at_most : (old middle new : List ShownHalt) → is_waiting old ≡ false → Grows old middle → GrowsAtRest middle new → GrowsAtRest old new
one_at_most old middle new rests (inl same) more = subst (λ (halts : List ShownHalt). GrowsAtRest halts new) same more
one_at_most old middle new rests (inr one) (inl same) = inr (rests, (one.0, (same ∙ one.1.0, one.1.1)))
one_at_most old middle new rests (inr one) (inr other) =
    absurd (true≢false (sym (ap is_waiting one.1.0 ∙ more_waits old one.0 one.1.1) ∙ other.0))

pub work_grows : (w : World) (actions : List Action) → AreNoReplies actions → GrowsAtRest w.halts (solo w actions).halts
work_grows w [] none = inl refl
work_grows w (action.Turn ∷ actions) none = by (turned_grows w) (work_grows (turned w).world actions none.1)
  where
    by : ((turned w).world ≡ w) ⊎ ((is_waiting w.halts ≡ false) × Grows w.halts (turned w).world.halts) → GrowsAtRest (turned w).world.halts (solo (turned w).world actions).halts
        → GrowsAtRest w.halts (solo (turned w).world actions).halts
    by (inl same) later = subst (λ (v : World). GrowsAtRest v.halts (solo (turned w).world actions).halts) same later
    by (inr more) later = one_at_most w.halts (turned w).world.halts (solo (turned w).world actions).halts more.0 more.1 later
work_grows w (action.Drain ∷ actions) none =
    subst (λ (halts : List ShownHalt). GrowsAtRest halts (solo (drained w).world actions).halts) (drained_same w) (work_grows (drained w).world actions none.1)
work_grows w (action.Reply digit ∷ actions) none = absurd (true≢false none.0)

-- ---- replies
resumed_grows : (digit : ℕ) (o : Option JobAtWork) (w : World) → Grows w.halts (resumed digit o w).halts
resumed_grows digit None w = inl refl
resumed_grows digit (Some job) w = stands_grows (with_answer (Reply digit) job) w

-- a reply that the halt allows is taken, and one halt more may be shown
pub reply_grows : (digit : ℕ) (w : World) (code : HaltCode) → waiting w.halts ≡ Some code → is_allowed code digit ≡ true → Grows (with_reply digit w.halts) (step_of w (action.Reply digit)).world.halts
reply_grows digit w code waits allowed =
    let answer : answer_to digit (waiting w.halts) ≡ Ok tt = ap (answer_to digit) waits ∙ ap (λ (b : Bool). if b then Ok tt else Err NotAllowed) allowed in
    subst (λ (r : Result (Unit {0}) ReplyFault). Grows (with_reply digit w.halts) (reply_given digit r w).world.halts) (sym answer)
    (resumed_grows digit w.job (record w { halts = with_reply digit w.halts }))

-- and no other is
pub reply_did : (digit : ℕ) (w : World) (code : HaltCode) → waiting w.halts ≡ Some code → (step_of w (action.Reply digit)).did ≡ Acted → is_allowed code digit ≡ true
reply_did digit w code waits act = by (is_allowed code digit) (sym (ap (λ (o : Option HaltCode). (reply_given digit (answer_to digit o) w).did) waits) ∙ act)
  where
    by : (b : Bool) → (reply_given digit (if b then Ok tt else Err NotAllowed) w).did ≡ Acted → b ≡ true
    by true is = refl
    by false is = absurd cc

pub reply_acts : (digit : ℕ) (w : World) (code : HaltCode) → waiting w.halts ≡ Some code → is_allowed code digit ≡ true → (step_of w (action.Reply digit)).did ≡ Acted
reply_acts digit w code waits allowed =
    ap (λ (o : Option HaltCode). (reply_given digit (answer_to digit o) w).did) waits
    ∙ ap (λ (b : Bool). (reply_given digit (if b then Ok tt else Err NotAllowed) w).did) allowed
