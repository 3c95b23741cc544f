-- Over a pack of the second format each entry has the same answer and leaves the same world apart from the format, if no halt is shown
-- because space was lacking.
use Rattle.std.proofs.Common.{◌≡◌, ℕ, zero, suc, ◌-◌, Bool, true, false, ◌||◌, List, [], ◌∷◌, length, set, slice_get, Option, Some, None, Result, Ok, Err, if◌then◌else◌, refl, sym, ap, ◌∙◌, true≢false}
use Rattle.std.proofs.lemmas.Bool.{or_parts}
use Rattle.std.proofs.lemmas.List.Folds.{list_any-append}
use Rattle.s3_lines.specs.declared.sheet.Line.{Line}
use Rattle.s3_lines.specs.declared.diagnostic.Diagnostic.{Diagnostic}
use Rattle.s3_sheets.specs.Lines.{lines_of}
use Rattle.s3_meaning.specs.Source.{Source}
use Rattle.s3_meaning.specs.Requests.{Request, Card, Read, Chain, Append, Add, Update, Print, Jump, Ask, End, Done, Reply, Answer}
use Rattle.s3_ocl.specs.declared.contents.FileStatement.{FileStatement}
use Rattle.s3_ocl.specs.declared.faults.FaultyJob.{FaultyJob}
use Rattle.s3_ocl.specs.Jobs.{Job, is_compile}
use Rattle.s3_operator.specs.declared.halt_code.HaltCode.{HaltCode}
use Rattle.s3_operator.specs.declared.halt_code.HaltCode.TheVariants.{NoSpace}
use Rattle.s3_operator.specs.declared.reply_fault.ReplyFault.{ReplyFault}
use Rattle.s3_operator.specs.Halts.{ShownHalt, answer_to, is_waiting, last_halt, waiting, with_halt, with_reply}
use Rattle.s3_job_files.specs.Files.{Files, FilesInUse}
use Rattle.s3_job_files.specs.Requests as files
use Rattle.s3_job_files.specs.Requests.{Served}
use Rattle.s3_opening.specs.Opening.{opened}
use Rattle.s3_solo.specs.declared.action.Action.{Action}
use Rattle.s3_solo.specs.declared.action.Action.TheVariants as action
use Rattle.s3_solo.specs.declared.action.Did.{Did}
use Rattle.s3_solo.specs.Lines.{all_drained, has_room, is_queued, with_drained}
use Rattle.s3_solo.specs.World.{World, JobAtWork}
use Rattle.s3_solo.specs.Serving.{Outcome, acted, answered, begun, card_answer, compiled, compiled_data, data_of, diagnostics_of, file_served, idle, in_use, job_over, line_put, over, pending, performed, run, run_card_of, run_over, served, settings, standing_at, started, with_answer, with_card_read, with_jobs, with_settings}
use Rattle.s3_solo.specs.Solo.{closed, drained, gone_on, refused, replied, reply_given, resumed, solo, step_of, turned}
use Rattle.s3_solo.specs.Inner.Formats.{answers, is_no_space, over_second, shows_no_space}
use Rattle.s3_solo.proofs.SecondFiles.{Opens, closed_same, opened_same, second, second_answered, second_in_use, served_same}

-- ---- halts
-- one more halt
shown_before : (job : ℕ) (code : HaltCode) (details : List (ℕ × ℕ)) (halts : List ShownHalt) → shows_no_space (with_halt job code details halts) ≡ false
    → (shows_no_space halts ≡ false) × (is_no_space code ≡ false)
shown_before job code details halts none =
    let shown : ShownHalt = record { job = job; code = code; details = details; reply = None } in
    let parts = or_parts (shows_no_space halts) (shows_no_space (shown ∷ [])) (sym (list_any-append (λ (halt : ShownHalt). is_no_space halt.code) halts (shown ∷ [])) ∙ none) in
    (parts.0, (or_parts (is_no_space code) false parts.1).0)

-- a reply is no halt
replied_at : (digit : ℕ) (halts : List ShownHalt) (i : ℕ) (halt : ShownHalt) → slice_get halts i ≡ Some halt
    → shows_no_space (set halts i (record halt { reply = Some digit })) ≡ shows_no_space halts
replied_at digit [] i halt there = refl
replied_at digit (first ∷ halts) zero halt there =
    let same : first ≡ halt = cc in
    ap (λ (h : ShownHalt). is_no_space h.code || shows_no_space halts) (sym same)
replied_at digit (first ∷ halts) (suc i) halt there = ap (λ b. is_no_space first.code || b) (replied_at digit halts i halt there)

replied_shows : (digit : ℕ) (halts : List ShownHalt) → shows_no_space (with_reply digit halts) ≡ shows_no_space halts
replied_shows digit halts = by (last_halt halts) refl
  where
    by : (o : Option ShownHalt) → last_halt halts ≡ o → shows_no_space (with_reply digit halts) ≡ shows_no_space halts
    by None none = rw none refl
    by (Some halt) some =
        let now : with_reply digit halts ≡ set halts (length halts - 1) (record halt { reply = Some digit }) = rw some refl in
        ap shows_no_space now ∙ replied_at digit halts (length halts - 1) halt some

-- ---- worlds and outcomes
-- if space wasn't lacking, the other world is the same apart from the format, and it wasn't lacking before
abbrev Follows : List ShownHalt → (one other : World) → Type 0
Follows halts one other = shows_no_space one.halts ≡ false → (shows_no_space halts ≡ false) × (other ≡ over_second one)

abbrev second_outcome : Outcome → Outcome
second_outcome outcome = record outcome { world = over_second outcome.world }

abbrev Answers : List ShownHalt → (one other : Outcome) → Type 0
Answers halts one other = shows_no_space one.world.halts ≡ false → (shows_no_space halts ≡ false) × (other ≡ second_outcome one)

acted_follows : (halts : List ShownHalt) (one other : World) → Follows halts one other → Answers halts (acted one) (acted other)
acted_follows halts one other follows none = let is = follows none in (is.0, ap acted is.1)

over_same : (job : JobAtWork) (w : World) → job_over job (over_second w) ≡ over_second (job_over job w)
over_same job w = ap (λ (pack : Files). record w { pack = pack; job = None }) (closed_same job.files w.pack)

stands : (request : Request) (job : JobAtWork) (w : World) → Follows w.halts (standing_at request job w) (standing_at request job (over_second w))
stands Card job w none = (none, refl)
stands (Read file size) job w none = (none, refl)
stands (Chain file size sought) job w none = (none, refl)
stands (Append file bytes) job w none = (none, refl)
stands (Add file bytes) job w none = (none, refl)
stands (Update file current changes) job w none = (none, refl)
stands (Print page line text) job w none = (none, refl)
stands Jump job w none = (none, refl)
stands (Ask code) job w none = ((shown_before job.number code [] w.halts none).0, refl)
stands (End true) job w none = (none, over_same job w)
stands (End false) job w none = (none, refl)

goes_on : (answer : Answer) (job : JobAtWork) (w : World) → Answers w.halts (acted (answered answer job w)) (acted (answered answer job (over_second w)))
goes_on answer job w =
    let after : JobAtWork = with_answer answer job in
    acted_follows w.halts (answered answer job w) (answered answer job (over_second w)) (stands (pending after w) after w)

-- ---- requests
file_answers : (serves other : Option Served) (job : JobAtWork) (w : World) → other ≡ second_answered serves → Answers w.halts (file_served serves job w) (file_served other job (over_second w))
file_answers None other job w same none = (none, ap (λ (o : Option Served). file_served o job (over_second w)) same)
file_answers (Some served) other job w same none =
    let is = goes_on served.answer (record job { files = served.in_use.job_files }) (record w { pack = served.in_use.files }) none in
    (is.0, ap (λ (o : Option Served). file_served o job (over_second w)) same ∙ is.1)

served_answers : (request : Request) (job : JobAtWork) (w : World) → Answers w.halts (served request job w) (served request job (over_second w))
served_answers Card job w none = goes_on (card_answer job.cards) (with_card_read job) w none
served_answers (Read file size) job w none = file_answers (files.served (Read file size) (in_use job w)) (files.served (Read file size) (second_in_use (in_use job w))) job w (served_same (Read file size) (in_use job w)) none
served_answers (Chain file size sought) job w none =
    file_answers (files.served (Chain file size sought) (in_use job w)) (files.served (Chain file size sought) (second_in_use (in_use job w))) job w (served_same (Chain file size sought) (in_use job w)) none
served_answers (Append file bytes) job w none = file_answers (files.served (Append file bytes) (in_use job w)) (files.served (Append file bytes) (second_in_use (in_use job w))) job w (served_same (Append file bytes) (in_use job w)) none
served_answers (Add file bytes) job w none = file_answers (files.served (Add file bytes) (in_use job w)) (files.served (Add file bytes) (second_in_use (in_use job w))) job w (served_same (Add file bytes) (in_use job w)) none
served_answers (Update file current changes) job w none =
    file_answers (files.served (Update file current changes) (in_use job w)) (files.served (Update file current changes) (second_in_use (in_use job w))) job w (served_same (Update file current changes) (in_use job w)) none
served_answers (Print page line text) job w none = by (has_room w.lines) none
  where
    by : (b : Bool) → Answers w.halts (if b then acted (answered Done job (line_put page line text w)) else idle w) (if b then acted (answered Done job (line_put page line text (over_second w))) else idle (over_second w))
    by true none = goes_on Done job (line_put page line text w) none
    by false none = (none, refl)
served_answers Jump job w none = goes_on Done job w none
served_answers (Ask code) job w none = (none, refl)
served_answers (End at_once) job w none = (none, ap acted (over_same job w))

-- ---- the start of a job
is_other : (code : HaltCode) (one : Result FilesInUse HaltCode) → is_no_space code ≡ false → one ≡ Err code → one ≡ Err NoSpace → ⊥
is_other code one other is full = let same : code ≡ NoSpace = cc in absurd (true≢false (sym (ap is_no_space same) ∙ other))

run_follows : (number : ℕ) (cards : List (List ℕ)) (source : Source) (one other : Result FilesInUse HaltCode) (w : World) → Opens one other
    → Follows w.halts (run_over number cards source one w) (run_over number cards source other (over_second w))
run_follows number cards source (Err code) other w opens none =
    let shown = shown_before number code [] w.halts none in
    (shown.0, ap (λ (r : Result FilesInUse HaltCode). run_over number cards source r (over_second w)) (opens (λ full. is_other code (Err code) shown.1 refl full)))
run_follows number cards source (Ok opening) other w opens none =
    let job : JobAtWork = record { number = number; source = source; cards = cards; files = opening.job_files; past = [] } in
    let over : World = record w { pack = opening.files } in
    let is = stands (pending job over) job over none in
    (is.0, ap (λ (r : Result FilesInUse HaltCode). run_over number cards source r (over_second w)) (opens (λ full. cc)) ∙ is.1)

started_from : (number : ℕ) (statements : List FileStatement) (cards : List (List ℕ)) (source : Option Source) (w : World)
    → Follows w.halts (run number statements cards source w) (run number statements cards source (over_second w))
started_from number statements cards None w none = ((shown_before number _ [] w.halts none).0, refl)
started_from number statements cards (Some source) w none =
    run_follows number cards source (opened (settings statements w) source.files w.pack) (opened (settings statements w) source.files (second w.pack)) w
    (opened_same (settings statements w) source.files w.pack) none

compiles : (number : ℕ) (lines : List Line) (diagnostics : List Diagnostic) (w : World) → Follows w.halts (compiled number lines diagnostics w) (compiled number lines diagnostics (over_second w))
compiles number lines [] w none = (none, refl)
compiles number lines (first ∷ more) w none = ((shown_before number _ _ w.halts none).0, refl)

performs : (number : ℕ) (job : Job) (cards : List (List ℕ)) (w : World) → Follows w.halts (performed number job cards w) (performed number job cards (over_second w))
performs number job cards w = by (is_compile job)
  where
    by : (b : Bool) → Follows w.halts (if b then compiled_data number (run_card_of job) job.data_from cards w else run number job.files cards (w.library job.program) w)
        (if b then compiled_data number (run_card_of job) job.data_from cards (over_second w) else run number job.files cards (w.library job.program) (over_second w))
    by true = compiles number (lines_of job.data_from cards) (diagnostics_of (run_card_of job) job.data_from cards) w
    by false = started_from number job.files cards (w.library job.program) w

starts : (number : ℕ) (job : Result Job FaultyJob) (w : World) → Follows w.halts (started number job w) (started number job (over_second w))
starts number (Ok job) w none = performs number job (data_of w.deck.cards job) (with_settings job w) none
starts number (Err faulty) w none = ((shown_before number _ _ w.halts none).0, refl)

begins : (jobs : List (Result Job FaultyJob)) (w : World) → Answers w.halts (begun jobs w) (begun jobs (over_second w))
begins [] w none = (none, refl)
begins (job ∷ jobs) w none =
    acted_follows w.halts (started w.deck.number job (with_jobs jobs w)) (started w.deck.number job (with_jobs jobs (over_second w))) (starts w.deck.number job (with_jobs jobs w)) none

-- ---- entries
turns : (w : World) → Answers w.halts (turned w) (turned (over_second w))
turns w = by (is_waiting w.halts)
  where
    gone : (o : Option JobAtWork) → Answers w.halts (gone_on o w) (gone_on o (over_second w))
    gone None = begins w.deck.jobs w
    gone (Some job) = served_answers (pending job w) job w

    by : (b : Bool) → Answers w.halts (if b then idle w else gone_on w.job w) (if b then idle (over_second w) else gone_on w.job (over_second w))
    by true none = (none, refl)
    by false none = gone w.job none

resumes : (digit : ℕ) (o : Option JobAtWork) (w : World) → Follows w.halts (resumed digit o w) (resumed digit o (over_second w))
resumes digit None w none = (none, refl)
resumes digit (Some job) w none = let after : JobAtWork = with_answer (Reply digit) job in stands (pending after w) after w none

replies : (digit : ℕ) (w : World) → Answers w.halts (replied digit w) (replied digit (over_second w))
replies digit w = by (answer_to digit (waiting w.halts))
  where
    by : (answer : Result (Unit {0}) ReplyFault) → Answers w.halts (reply_given digit answer w) (reply_given digit answer (over_second w))
    by (Err fault) none = (none, refl)
    by (Ok allowed) none =
        let is = resumes digit w.job (record w { halts = with_reply digit w.halts }) none in
        (sym (replied_shows digit w.halts) ∙ is.0, ap acted is.1)

drains : (w : World) → Answers w.halts (drained w) (drained (over_second w))
drains w = by (is_queued w.lines)
  where
    by : (b : Bool) → Answers w.halts (if b then acted (record w { lines = with_drained w.lines }) else refused 3 w)
        (if b then acted (record (over_second w) { lines = with_drained w.lines }) else refused 3 (over_second w))
    by true none = (none, refl)
    by false none = (none, refl)

entry_same : (w : World) (action' : Action) → Answers w.halts (step_of w action') (step_of (over_second w) action')
entry_same w action.Turn = turns w
entry_same w (action.Reply digit) = replies digit w
entry_same w action.Drain = drains w

-- ---- the reference model
record IsSame (w : World) (actions : List Action) : Type 0 where
  pub before : shows_no_space w.halts ≡ false
  pub run : solo (over_second w) actions ≡ over_second (solo w actions)
  pub answers : answers (over_second w) actions ≡ answers w actions

all_same : (w : World) (actions : List Action) → shows_no_space (solo w actions).halts ≡ false → IsSame w actions
all_same w [] none = record { before = none; run = refl; answers = refl }
all_same w (action' ∷ actions) none =
    let rest = all_same (step_of w action').world actions none in
    let first = entry_same w action' rest.before in
    record {
      before = first.0;
      run = ap (λ (o : Outcome). solo o.world actions) first.1 ∙ rest.run;
      answers = ap (λ (o : Outcome). o.did ∷ answers o.world actions) first.1 ∙ ap (λ (dids : List Did). (step_of w action').did ∷ dids) rest.answers;
    }

pub run_same : (w : World) (actions : List Action) → shows_no_space (solo w actions).halts ≡ false → solo (over_second w) actions ≡ over_second (solo w actions)
run_same w actions none = (all_same w actions none).run

pub answers_same : (w : World) (actions : List Action) → shows_no_space (solo w actions).halts ≡ false → answers (over_second w) actions ≡ answers w actions
answers_same w actions none = (all_same w actions none).answers

pub end_same : (w : World) → closed (over_second w) ≡ over_second (closed w)
end_same w = by w.job
  where
    by : (o : Option JobAtWork) → record (over o (over_second w)) { lines = all_drained w.lines } ≡ over_second (record (over o w) { lines = all_drained w.lines })
    by None = refl
    by (Some job) = ap (λ (v : World). record v { lines = all_drained w.lines }) (over_same job w)
