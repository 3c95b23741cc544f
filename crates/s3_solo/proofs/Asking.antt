-- While a job is at work a halt waits where, and only where, the job asks for a reply: each entry keeps this so.
use Rattle.std.proofs.Common.{◌≡◌, ℕ, ◌+◌, ◌-◌, ◌<◌, List, [], ◌∷◌, ◌++◌, length, length-append, set, slice_get, refl, sym, ◌∙◌, ap, subst, arith, Bool, true, false, true≢false, if◌then◌else◌, Option, Some, None, is_some, Result, Ok, Err}
use Rattle.std.proofs.Math.Seq.{get_or-append_seam}
use Rattle.std.proofs.lemmas.List.{get_or-set_same, length-set}
use Rattle.std.proofs.lemmas.Option.{none-some, slice_get-get_or, slice_get_within}
use Rattle.s3_lines.specs.declared.sheet.Line.{Line}
use Rattle.s3_lines.specs.declared.diagnostic.Diagnostic.{Diagnostic}
use Rattle.s3_sheets.specs.Lines.{lines_of}
use Rattle.s3_meaning.specs.Source.{Source, source_of, program_name}
use Rattle.s3_meaning.specs.Requests.{Request, Card, Read, Chain, Append, Add, Update, Print, Jump, Ask, End, Done, Reply}
use Rattle.s3_ocl.specs.declared.faults.FaultyJob.{FaultyJob}
use Rattle.s3_ocl.specs.Jobs.{Job, is_compile}
use Rattle.s3_operator.specs.declared.halt_code.HaltCode.{HaltCode}
use Rattle.s3_operator.specs.declared.reply_fault.ReplyFault.TheVariants.{NotAllowed}
use Rattle.s3_operator.specs.Replies.{is_allowed}
use Rattle.s3_operator.specs.Halts.{ShownHalt, answer_to, is_waiting, last_halt, unanswered, waiting, with_halt, with_reply}
use Rattle.s3_solo.specs.declared.action.Action.{Action}
use Rattle.s3_solo.specs.declared.action.Action.TheVariants as action
use Rattle.s3_job_files.specs.Files.{FilesInUse}
use Rattle.s3_job_files.specs.Requests as files
use Rattle.s3_job_files.specs.Requests.{Served}
use Rattle.s3_opening.specs.Opening.{opened}
use Rattle.s3_ocl.specs.declared.contents.FileStatement.{FileStatement}
use Rattle.s3_solo.specs.Lines.{has_room, is_queued, with_drained}
use Rattle.s3_solo.specs.World.{World, JobAtWork}
use Rattle.s3_solo.specs.Serving.{acted, answered, at_work, begun, card_answer, compiled, compiled_data, data_of, diagnostics_of, file_served, idle, in_use, job_over, line_put, pending, performed, run, run_card_of, run_over, served, settings, standing_at, started, stocked, with_answer, with_card_read, with_jobs, with_settings}
use Rattle.s3_solo.specs.Solo.{drained, gone_on, refused, replied, reply_given, resumed, step_of, turned}
use Rattle.s3_solo.specs.Inner.Asked.{IsAsked, halt_asked}

-- without a job there is nothing to ask
at_rest : (w : World) → w.job ≡ None → IsAsked w
at_rest w none job is_job = absurd (none-some job (sym none ∙ is_job))

-- ---- halts
last_of_more : (halts : List ShownHalt) (halt : ShownHalt) → last_halt (halts ++ halt ∷ []) ≡ Some halt
last_of_more halts halt =
    let size : length (halts ++ halt ∷ []) ≡ length halts + 1 = length-append halts (halt ∷ []) in
    let place : length (halts ++ halt ∷ []) - 1 ≡ length halts = omega (arith, size) in
    ap (slice_get (halts ++ halt ∷ [])) place
    ∙ (slice_get-get_or (halts ++ halt ∷ []) (length halts) halt (omega (arith, size)) ∙ ap (λ h. Some h) (get_or-append_seam halts halt [] halt))

shown_waits : (job : ℕ) (code : HaltCode) (details : List (ℕ × ℕ)) (halts : List ShownHalt) → waiting (with_halt job code details halts) ≡ Some code
shown_waits job code details halts = ap unanswered (last_of_more halts (record { job = job; code = code; details = details; reply = None }))

replied_waits : (digit : ℕ) (halts : List ShownHalt) (code : HaltCode) → waiting halts ≡ Some code → waiting (with_reply digit halts) ≡ None
replied_waits digit halts code waits = by (last_halt halts) refl
  where
    by : (o : Option ShownHalt) → last_halt halts ≡ o → waiting (with_reply digit halts) ≡ None
    by None none = absurd (none-some code (sym (ap unanswered none) ∙ waits))
    by (Some halt) some =
        let filled : ShownHalt = record halt { reply = Some digit } in
        let there : length halts - 1 < length halts = slice_get_within halts (length halts - 1) halt some in
        let now : with_reply digit halts ≡ set halts (length halts - 1) filled = rw some refl in
        let size : length (set halts (length halts - 1) filled) ≡ length halts = length-set halts (length halts - 1) filled in
        let last : last_halt (set halts (length halts - 1) filled) ≡ Some filled =
        ap (λ n. slice_get (set halts (length halts - 1) filled) (n - 1)) size
        ∙ (slice_get-get_or (set halts (length halts - 1) filled) (length halts - 1) filled (omega (arith, there, size))
        ∙ ap (λ h. Some h) (get_or-set_same halts (length halts - 1) filled filled there)) in
        ap waiting now ∙ ap unanswered last

quiet : (halts : List ShownHalt) → is_waiting halts ≡ false → waiting halts ≡ None
quiet halts is = by (waiting halts) refl
  where
    by : (o : Option HaltCode) → waiting halts ≡ o → waiting halts ≡ None
    by None same = same
    by (Some code) same = absurd (true≢false (sym (ap (λ (o : Option HaltCode). is_some o) same) ∙ is))

-- ---- a job at work
its_job : (w : World) (job other : JobAtWork) → w.job ≡ Some job → w.job ≡ Some other → job ≡ other
its_job w job other one two = let same : Some job ≡ Some other = sym one ∙ two in cc

-- the world has this job, and what halts say is what its request says
asks_as : (w : World) (job : JobAtWork) → w.job ≡ Some job → waiting w.halts ≡ halt_asked (pending job w) → IsAsked w
asks_as w job is waits other is_other = subst (λ (j : JobAtWork). waiting w.halts ≡ halt_asked (pending j w)) (its_job w job other is is_other) waits

-- if no halt waits, a running job at its request asks as it must
stands : (job : JobAtWork) (w : World) → waiting w.halts ≡ None → IsAsked (at_work job w)
stands job w none = by (pending job w) refl
  where
    plainly : (request : Request) → pending job w ≡ request → halt_asked request ≡ None → IsAsked (record w { job = Some job })
    plainly request is asks = asks_as (record w { job = Some job }) job refl (none ∙ sym (ap halt_asked is ∙ asks))

    by : (request : Request) → pending job w ≡ request → IsAsked (standing_at request job w)
    by Card is = plainly Card is refl
    by (Read file size) is = plainly (Read file size) is refl
    by (Chain file size sought) is = plainly (Chain file size sought) is refl
    by (Append file bytes) is = plainly (Append file bytes) is refl
    by (Add file bytes) is = plainly (Add file bytes) is refl
    by (Update file current changes) is = plainly (Update file current changes) is refl
    by (Print page line text) is = plainly (Print page line text) is refl
    by Jump is = plainly Jump is refl
    by (Ask code) is = asks_as (standing_at (Ask code) job w) job refl (shown_waits job.number code [] w.halts ∙ sym (ap halt_asked is))
    by (End true) is = at_rest (standing_at (End true) job w) refl
    by (End false) is = plainly (End false) is refl

-- ---- entries
file_asks : (served : Option Served) (job : JobAtWork) (w : World) → waiting w.halts ≡ None → IsAsked w → IsAsked (file_served served job w).world
file_asks None job w none asks = asks
file_asks (Some served) job w none asks =
    stands (with_answer served.answer (record job { files = served.in_use.job_files })) (record w { pack = served.in_use.files }) none

served_asks : (request : Request) (job : JobAtWork) (w : World) → waiting w.halts ≡ None → IsAsked w → IsAsked (served request job w).world
served_asks Card job w none asks = stands (with_answer (card_answer job.cards) (with_card_read job)) w none
served_asks (Read file size) job w none asks = file_asks (files.served (Read file size) (in_use job w)) job w none asks
served_asks (Chain file size sought) job w none asks = file_asks (files.served (Chain file size sought) (in_use job w)) job w none asks
served_asks (Append file bytes) job w none asks = file_asks (files.served (Append file bytes) (in_use job w)) job w none asks
served_asks (Add file bytes) job w none asks = file_asks (files.served (Add file bytes) (in_use job w)) job w none asks
served_asks (Update file current changes) job w none asks = file_asks (files.served (Update file current changes) (in_use job w)) job w none asks
served_asks (Print page line text) job w none asks = by (has_room w.lines)
  where
    by : (b : Bool) → IsAsked (if b then acted (answered Done job (line_put page line text w)) else idle w).world
    by true = stands (with_answer Done job) (line_put page line text w) none
    by false = asks
served_asks Jump job w none asks = stands (with_answer Done job) w none
served_asks (Ask code) job w none asks = asks
served_asks (End at_once) job w none asks = at_rest (job_over job w) refl

over_asks : (number : ℕ) (cards : List (List ℕ)) (source : Source) (opening : Result FilesInUse HaltCode) (w : World) → waiting w.halts ≡ None → w.job ≡ None
    → IsAsked (run_over number cards source opening w)
over_asks number cards source (Err code) w none rests = at_rest (run_over number cards source (Err code) w) rests
over_asks number cards source (Ok opening) w none rests =
    stands (record { number = number; source = source; cards = cards; files = opening.job_files; past = [] }) (record w { pack = opening.files }) none

run_asks : (number : ℕ) (statements : List FileStatement) (cards : List (List ℕ)) (source : Option Source) (w : World) → waiting w.halts ≡ None → w.job ≡ None
    → IsAsked (run number statements cards source w)
run_asks number statements cards None w none rests = at_rest (run number statements cards None w) rests
run_asks number statements cards (Some source) w none rests = over_asks number cards source (opened (settings statements w) source.files w.pack) w none rests

compiled_asks : (number : ℕ) (lines : List Line) (diagnostics : List Diagnostic) (w : World) → w.job ≡ None → IsAsked (compiled number lines diagnostics w)
compiled_asks number lines [] w rests = at_rest (stocked (program_name lines) (source_of lines) w) rests
compiled_asks number lines (first ∷ more) w rests = at_rest (compiled number lines (first ∷ more) w) rests

performed_asks : (number : ℕ) (job : Job) (cards : List (List ℕ)) (w : World) → waiting w.halts ≡ None → w.job ≡ None → IsAsked (performed number job cards w)
performed_asks number job cards w none rests = by (is_compile job)
  where
    by : (b : Bool) → IsAsked (if b then compiled_data number (run_card_of job) job.data_from cards w else run number job.files cards (w.library job.program) w)
    by true = compiled_asks number (lines_of job.data_from cards) (diagnostics_of (run_card_of job) job.data_from cards) w rests
    by false = run_asks number job.files cards (w.library job.program) w none rests

begun_asks : (jobs : List (Result Job FaultyJob)) (w : World) → waiting w.halts ≡ None → w.job ≡ None → IsAsked w → IsAsked (begun jobs w).world
begun_asks [] w none rests asks = asks
begun_asks (Ok job ∷ jobs) w none rests asks =
    performed_asks w.deck.number job (data_of (with_jobs jobs w).deck.cards job) (with_settings job (with_jobs jobs w)) none rests
begun_asks (Err faulty ∷ jobs) w none rests asks = at_rest (started w.deck.number (Err faulty) (with_jobs jobs w)) rests

turned_asks : (w : World) → IsAsked w → IsAsked (turned w).world
turned_asks w asks = by (is_waiting w.halts) refl
  where
    gone : (o : Option JobAtWork) → w.job ≡ o → waiting w.halts ≡ None → IsAsked (gone_on o w).world
    gone None is none = begun_asks w.deck.jobs w none is asks
    gone (Some job) is none = served_asks (pending job w) job w none asks

    by : (b : Bool) → is_waiting w.halts ≡ b → IsAsked (if b then idle w else gone_on w.job w).world
    by true waits = asks
    by false waits = gone w.job refl (quiet w.halts waits)

resumed_asks : (digit : ℕ) (o : Option JobAtWork) (w : World) → w.job ≡ o → waiting w.halts ≡ None → IsAsked (resumed digit o w)
resumed_asks digit None w is none = at_rest w is
resumed_asks digit (Some job) w is none = stands (with_answer (Reply digit) job) w none

replied_asks : (digit : ℕ) (w : World) → IsAsked w → IsAsked (replied digit w).world
replied_asks digit w asks = by (waiting w.halts) refl
  where
    given : (code : HaltCode) (b : Bool) → waiting w.halts ≡ Some code → IsAsked (reply_given digit (if b then Ok tt else Err NotAllowed) w).world
    given code true waits = resumed_asks digit w.job (record w { halts = with_reply digit w.halts }) refl (replied_waits digit w.halts code waits)
    given code false waits = asks

    by : (o : Option HaltCode) → waiting w.halts ≡ o → IsAsked (reply_given digit (answer_to digit o) w).world
    by None none = asks
    by (Some code) waits = given code (is_allowed code digit) waits

drained_asks : (w : World) → IsAsked w → IsAsked (drained w).world
drained_asks w asks = by (is_queued w.lines)
  where
    by : (b : Bool) → IsAsked (if b then acted (record w { lines = with_drained w.lines }) else refused 3 w).world
    by true = asks
    by false = asks

-- each entry keeps it so
pub step_asks : (action' : Action) (w : World) → IsAsked w → IsAsked (step_of w action').world
step_asks action.Turn w asks = turned_asks w asks
step_asks (action.Reply digit) w asks = replied_asks digit w asks
step_asks action.Drain w asks = drained_asks w asks
