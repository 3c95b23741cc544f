-- Each entry over a world with its queue drained to the end.
use Rattle.std.proofs.Common.{◌≡◌, ◌⊎◌, inl, inr, ℕ, ◌-◌, nat_lt, Bool, true, false, List, [], ◌∷◌, length, Option, Some, None, Result, Ok, Err, if◌then◌else◌, ◌≢◌, is_some, refl, sym, subst, ◌∙◌, arith}
use Rattle.std.proofs.lemmas.Bool.Decides.{nat_tests}
use Rattle.s3_lines.specs.declared.sheet.Line.{Line}
use Rattle.s3_lines.specs.declared.diagnostic.Diagnostic.{Diagnostic}
use Rattle.s3_sheets.specs.Lines.{lines_of}
use Rattle.s3_meaning.specs.Source.{Source}
use Rattle.s3_meaning.specs.Requests.{Request, Card, Read, Chain, Append, Add, Update, Print, Jump, Ask, End, Done, Reply, Answer}
use Rattle.s3_ocl.specs.declared.contents.FileStatement.{FileStatement}
use Rattle.s3_ocl.specs.declared.faults.FaultyJob.{FaultyJob}
use Rattle.s3_ocl.specs.Jobs.{Job, is_compile}
use Rattle.s3_operator.specs.declared.halt_code.HaltCode.{HaltCode}
use Rattle.s3_operator.specs.declared.reply_fault.ReplyFault.{ReplyFault}
use Rattle.s3_operator.specs.Halts.{answer_to, is_waiting, waiting, with_reply}
use Rattle.s3_job_files.specs.Files.{FilesInUse}
use Rattle.s3_job_files.specs.Requests as files
use Rattle.s3_job_files.specs.Requests.{Served}
use Rattle.s3_opening.specs.Opening.{opened}
use Rattle.s3_solo.specs.declared.action.Did.TheVariants.{Acted, Idle}
use Rattle.s3_solo.specs.Lines.{all_drained, has_room, is_queued, with_drained}
use Rattle.s3_solo.specs.World.{World, JobAtWork}
use Rattle.s3_solo.specs.Serving.{Outcome, acted, answered, begun, card_answer, compiled, compiled_data, data_of, diagnostics_of, file_served, idle, in_use, line_put, over, pending, performed, run, run_card_of, run_over, served, settings, standing_at, started, with_answer, with_card_read, with_jobs, with_settings}
use Rattle.s3_solo.specs.Solo.{closed, drained, gone_on, refused, replied, reply_given, resumed, turned}
use Rattle.s3_time.specs.Inner.Moves.{emptied}

-- an entry that acts also acts while no line is queued, and leaves the same world apart from the number of drained lines
abbrev pub Follows : (one other : Outcome) → Type 0
Follows one other = one.did ≡ Acted → (other.did ≡ Acted) × (emptied other.world ≡ emptied one.world)

-- an entry acts, or is idle
abbrev pub ActsOrIdle : World → Outcome → Type 0
ActsOrIdle w o = (o.did ≡ Acted) ⊎ (o ≡ idle w)

-- ---- worlds
abbrev Same : (one other : World) → Type 0
Same one other = emptied other ≡ emptied one

acted_follows : (one other : World) → Same one other → Follows (acted one) (acted other)
acted_follows one other same act = (refl, same)

idle_never : (w other : World) (o : Outcome) → Follows (idle w) o
idle_never w other o act = let wrong : Idle ≡ Acted = act in cc

stands : (request : Request) (job : JobAtWork) (w : World) → Same (standing_at request job w) (standing_at request job (emptied w))
stands Card job w = refl
stands (Read file size) job w = refl
stands (Chain file size sought) job w = refl
stands (Append file bytes) job w = refl
stands (Add file bytes) job w = refl
stands (Update file current changes) job w = refl
stands (Print page line text) job w = refl
stands Jump job w = refl
stands (Ask code) job w = refl
stands (End true) job w = refl
stands (End false) job w = refl

goes_on : (answer : Answer) (job : JobAtWork) (w : World) → Same (answered answer job w) (answered answer job (emptied w))
goes_on answer job w = let after : JobAtWork = with_answer answer job in stands (pending after w) after w

-- ---- requests
file_follows : (serves : Option Served) (job : JobAtWork) (w : World) → Follows (file_served serves job w) (file_served serves job (emptied w))
file_follows None job w = idle_never w w (idle (emptied w))
file_follows (Some served) job w = λ act. (refl, goes_on served.answer (record job { files = served.in_use.job_files }) (record w { pack = served.in_use.files }))

-- where so few lines are queued that one may be printed, one may be where none is
pub room_left : (queued quota : ℕ) → nat_lt queued quota ≡ true → (n : ℕ) → nat_lt (n - n) quota ≡ true
room_left queued quota room n = grind (arith, nat_tests)

served_follows : (request : Request) (job : JobAtWork) (w : World) → Follows (served request job w) (served request job (emptied w))
served_follows Card job w = λ act. (refl, goes_on (card_answer job.cards) (with_card_read job) w)
served_follows (Read file size) job w = file_follows (files.served (Read file size) (in_use job w)) job w
served_follows (Chain file size sought) job w = file_follows (files.served (Chain file size sought) (in_use job w)) job w
served_follows (Append file bytes) job w = file_follows (files.served (Append file bytes) (in_use job w)) job w
served_follows (Add file bytes) job w = file_follows (files.served (Add file bytes) (in_use job w)) job w
served_follows (Update file current changes) job w = file_follows (files.served (Update file current changes) (in_use job w)) job w
served_follows (Print page line text) job w = by (has_room w.lines) refl
  where
    put : Same (answered Done job (line_put page line text w)) (answered Done job (line_put page line text (emptied w)))
    put =
        let after : JobAtWork = with_answer Done job in
        sym (stands (pending after w) after (line_put page line text (emptied w))) ∙ stands (pending after w) after (line_put page line text w)

    by : (b : Bool) → has_room w.lines ≡ b → Follows (if b then acted (answered Done job (line_put page line text w)) else idle w)
        (if has_room (all_drained w.lines) then acted (answered Done job (line_put page line text (emptied w))) else idle (emptied w))
    by true room =
        let still : has_room (all_drained w.lines) ≡ true = room_left (length w.lines.printed - w.lines.drained) w.lines.quota room (length w.lines.printed) in
        subst (λ (b : Bool). Follows (acted (answered Done job (line_put page line text w))) (if b then acted (answered Done job (line_put page line text (emptied w))) else idle (emptied w)))
        (sym still) (λ act. (refl, put))
    by false full = idle_never w w (if has_room (all_drained w.lines) then acted (answered Done job (line_put page line text (emptied w))) else idle (emptied w))
served_follows Jump job w = λ act. (refl, goes_on Done job w)
served_follows (Ask code) job w = idle_never w w (idle (emptied w))
served_follows (End at_once) job w = λ act. (refl, refl)

-- ---- the start of a job
run_same : (number : ℕ) (cards : List (List ℕ)) (source : Source) (opening : Result FilesInUse HaltCode) (w : World)
    → Same (run_over number cards source opening w) (run_over number cards source opening (emptied w))
run_same number cards source (Err code) w = refl
run_same number cards source (Ok opening) w =
    let job : JobAtWork = record { number = number; source = source; cards = cards; files = opening.job_files; past = [] } in
    let over : World = record w { pack = opening.files } in
    stands (pending job over) job over

starts_from : (number : ℕ) (statements : List FileStatement) (cards : List (List ℕ)) (source : Option Source) (w : World)
    → Same (run number statements cards source w) (run number statements cards source (emptied w))
starts_from number statements cards None w = refl
starts_from number statements cards (Some source) w = run_same number cards source (opened (settings statements w) source.files w.pack) w

compiles : (number : ℕ) (lines : List Line) (diagnostics : List Diagnostic) (w : World) → Same (compiled number lines diagnostics w) (compiled number lines diagnostics (emptied w))
compiles number lines [] w = refl
compiles number lines (first ∷ more) w = refl

performs : (number : ℕ) (job : Job) (cards : List (List ℕ)) (w : World) → Same (performed number job cards w) (performed number job cards (emptied w))
performs number job cards w = by (is_compile job)
  where
    by : (b : Bool) → Same (if b then compiled_data number (run_card_of job) job.data_from cards w else run number job.files cards (w.library job.program) w)
        (if b then compiled_data number (run_card_of job) job.data_from cards (emptied w) else run number job.files cards (w.library job.program) (emptied w))
    by true = compiles number (lines_of job.data_from cards) (diagnostics_of (run_card_of job) job.data_from cards) w
    by false = starts_from number job.files cards (w.library job.program) w

starts : (number : ℕ) (job : Result Job FaultyJob) (w : World) → Same (started number job w) (started number job (emptied w))
starts number (Ok job) w = performs number job (data_of w.deck.cards job) (with_settings job w)
starts number (Err faulty) w = refl

begins : (jobs : List (Result Job FaultyJob)) (w : World) → Follows (begun jobs w) (begun jobs (emptied w))
begins [] w = idle_never w w (idle (emptied w))
begins (job ∷ jobs) w = λ act. (refl, starts w.deck.number job (with_jobs jobs w))

-- ---- turns
pub turn_follows : (w : World) → Follows (turned w) (turned (emptied w))
turn_follows w = by (is_waiting w.halts)
  where
    gone : (o : Option JobAtWork) → Follows (gone_on o w) (gone_on o (emptied w))
    gone None = begins w.deck.jobs w
    gone (Some job) = served_follows (pending job w) job w

    by : (b : Bool) → Follows (if b then idle w else gone_on w.job w) (if b then idle (emptied w) else gone_on w.job (emptied w))
    by true = idle_never w w (idle (emptied w))
    by false = gone w.job

file_acts : (serves : Option Served) (job : JobAtWork) (w : World) → ActsOrIdle w (file_served serves job w)
file_acts None job w = inr refl
file_acts (Some served) job w = inl refl

served_acts : (request : Request) (job : JobAtWork) (w : World) → ActsOrIdle w (served request job w)
served_acts Card job w = inl refl
served_acts (Read file size) job w = file_acts (files.served (Read file size) (in_use job w)) job w
served_acts (Chain file size sought) job w = file_acts (files.served (Chain file size sought) (in_use job w)) job w
served_acts (Append file bytes) job w = file_acts (files.served (Append file bytes) (in_use job w)) job w
served_acts (Add file bytes) job w = file_acts (files.served (Add file bytes) (in_use job w)) job w
served_acts (Update file current changes) job w = file_acts (files.served (Update file current changes) (in_use job w)) job w
served_acts (Print page line text) job w = by (has_room w.lines)
  where
    by : (b : Bool) → ActsOrIdle w (if b then acted (answered Done job (line_put page line text w)) else idle w)
    by true = inl refl
    by false = inr refl
served_acts Jump job w = inl refl
served_acts (Ask code) job w = inr refl
served_acts (End at_once) job w = inl refl

pub turn_acts : (w : World) → ActsOrIdle w (turned w)
turn_acts w = by (is_waiting w.halts)
  where
    begins_or : (jobs : List (Result Job FaultyJob)) → ActsOrIdle w (begun jobs w)
    begins_or [] = inr refl
    begins_or (job ∷ jobs) = inl refl

    gone : (o : Option JobAtWork) → ActsOrIdle w (gone_on o w)
    gone None = begins_or w.deck.jobs
    gone (Some job) = served_acts (pending job w) job w

    by : (b : Bool) → ActsOrIdle w (if b then idle w else gone_on w.job w)
    by true = inr refl
    by false = gone w.job

-- ---- replies
pub reply_follows : (digit : ℕ) (w : World) → Follows (replied digit w) (replied digit (emptied w))
reply_follows digit w = by (answer_to digit (waiting w.halts))
  where
    resumes : (o : Option JobAtWork) (v : World) → Same (resumed digit o v) (resumed digit o (emptied v))
    resumes None v = refl
    resumes (Some job) v = let after : JobAtWork = with_answer (Reply digit) job in stands (pending after v) after v

    by : (answer : Result (Unit {0}) ReplyFault) → Follows (reply_given digit answer w) (reply_given digit answer (emptied w))
    by (Err fault) = λ act. absurd (cc)
    by (Ok allowed) = λ act. (refl, resumes w.job (record w { halts = with_reply digit w.halts }))

-- a reply that doesn't act changes nothing
pub reply_acts : (digit : ℕ) (w : World) → ((replied digit w).did ≡ Acted) ⊎ (((replied digit w).did ≢ Acted) × ((replied digit w).world ≡ w))
reply_acts digit w = by (answer_to digit (waiting w.halts))
  where
    by : (answer : Result (Unit {0}) ReplyFault) → ((reply_given digit answer w).did ≡ Acted) ⊎ (((reply_given digit answer w).did ≢ Acted) × ((reply_given digit answer w).world ≡ w))
    by (Err fault) = inr ((λ is. cc), refl)
    by (Ok allowed) = inl refl

-- where a reply acts a turn is idle
pub reply_or_turn : (digit : ℕ) (w : World) → (replied digit w).did ≡ Acted → (turned w).did ≡ Idle
reply_or_turn digit w = by (waiting w.halts)
  where
    by : (o : Option HaltCode) → (reply_given digit (answer_to digit o) w).did ≡ Acted → (if is_some o then idle w else gone_on w.job w).did ≡ Idle
    by None act = absurd (cc)
    by (Some code) act = refl

-- ---- drains
pub drain_same : (w : World) → emptied (drained w).world ≡ emptied w
drain_same w = by (is_queued w.lines)
  where
    by : (b : Bool) → emptied (if b then acted (record w { lines = with_drained w.lines }) else refused 3 w).world ≡ emptied w
    by true = refl
    by false = refl

-- ---- the end
pub closed_emptied : (w : World) → closed (emptied w) ≡ closed w
closed_emptied w = by w.job
  where
    by : (o : Option JobAtWork) → record (over o (emptied w)) { lines = all_drained (all_drained w.lines) } ≡ record (over o w) { lines = all_drained w.lines }
    by None = refl
    by (Some job) = refl
