-- What a level prints grows by its entries, and a level that is over prints and shows nothing more.
use Rattle.std.proofs.Common.{◌≡◌, ◌≤◌, ℕ, List, [], ◌∷◌, ◌++◌, append_assoc, drop, length, nat_lt, take, take_all, take-append-drop, refl, sym, ◌∙◌, ap, arith, Bool, true, false, true≢false, if◌then◌else◌, Option, Some, None, is_some, Result, Ok, Err}
use Rattle.std.proofs.lemmas.Bool.Decides.{nat_tests}
use Rattle.std.proofs.lemmas.List.{append-nil}
use Rattle.std.proofs.lemmas.Bool.{or_parts}
use Rattle.s3_cards.specs.Printed.{Printed}
use Rattle.s3_lines.specs.declared.sheet.Line.{Line}
use Rattle.s3_lines.specs.declared.diagnostic.Diagnostic.{Diagnostic}
use Rattle.s3_sheets.specs.Lines.{lines_of}
use Rattle.s3_meaning.specs.Source.{Source}
use Rattle.s3_meaning.specs.Requests.{Request, Card, Read, Chain, Append, Add, Update, Print, Jump, Ask, End, Done, Reply}
use Rattle.s3_ocl.specs.declared.contents.FileStatement.{FileStatement}
use Rattle.s3_ocl.specs.declared.faults.FaultyJob.{FaultyJob}
use Rattle.s3_ocl.specs.Jobs.{Job, is_compile}
use Rattle.s3_operator.specs.declared.halt_code.HaltCode.{HaltCode}
use Rattle.s3_operator.specs.declared.reply_fault.ReplyFault.{ReplyFault}
use Rattle.s3_operator.specs.Halts.{ShownHalt, answer_to, is_waiting, waiting, with_reply}
use Rattle.s3_job_files.specs.Files.{FilesInUse}
use Rattle.s3_job_files.specs.Requests as files
use Rattle.s3_job_files.specs.Requests.{Served}
use Rattle.s3_opening.specs.Opening.{opened}
use Rattle.s3_solo.specs.declared.action.Action.{Action}
use Rattle.s3_solo.specs.declared.action.Action.TheVariants as action
use Rattle.s3_solo.specs.Inner.Lines.{drained_lines}
use Rattle.s3_solo.specs.Lines.{Lines, has_room, is_queued, with_drained}
use Rattle.s3_solo.specs.World.{World, JobAtWork}
use Rattle.s3_solo.specs.Serving.{acted, at_work, begun, card_answer, compiled, compiled_data, data_of, diagnostics_of, file_served, idle, in_use, line_put, over as ended, pending, performed, run, run_card_of, run_over, served, settings, standing_at, with_answer, with_card_read, with_jobs, with_settings}
use Rattle.s3_solo.specs.Solo.{closed, drained, gone_on, refused, replied, reply_given, resumed, solo, step_of, turned}
use Rattle.s3_level.specs.Inner.Queries.{is_left}
use Rattle.s3_desk.specs.Inner.Desk.{IsOver}

-- ---- lines more, or none
record Grows (old new : Lines) : Type 0 where
  pub more : List Printed
  pub printed : new.printed ≡ old.printed ++ more

same_lines : (old new : Lines) → new ≡ old → Grows old new
same_lines old new same = record { more = []; printed = ap (λ (l : Lines). l.printed) same ∙ sym (append-nil old.printed) }

lines_then : (old middle new : Lines) → Grows old middle → Grows middle new → Grows old new
lines_then old middle new one two = record {
  more = one.more ++ two.more;
  printed = two.printed ∙ (ap (λ (l : List Printed). l ++ two.more) one.printed ∙ append_assoc old.printed one.more two.more);
}

-- ---- a job at work
stands_same : (job : JobAtWork) (w : World) → (at_work job w).lines ≡ w.lines
stands_same job w = by (pending job w)
  where
    by : (request : Request) → (standing_at request job w).lines ≡ w.lines
    by Card = refl
    by (Read file size) = refl
    by (Chain file size sought) = refl
    by (Append file bytes) = refl
    by (Add file bytes) = refl
    by (Update file current changes) = refl
    by (Print page line text) = refl
    by Jump = refl
    by (Ask code) = refl
    by (End true) = refl
    by (End false) = refl

file_same : (served : Option Served) (job : JobAtWork) (w : World) → (file_served served job w).world.lines ≡ w.lines
file_same None job w = refl
file_same (Some served) job w = stands_same (with_answer served.answer (record job { files = served.in_use.job_files })) (record w { pack = served.in_use.files })

file_grows : (served : Option Served) (job : JobAtWork) (w : World) → Grows w.lines (file_served served job w).world.lines
file_grows served job w = same_lines w.lines (file_served served job w).world.lines (file_same served job w)

served_grows : (request : Request) (job : JobAtWork) (w : World) → Grows w.lines (served request job w).world.lines
served_grows Card job w = same_lines w.lines (served Card job w).world.lines (stands_same (with_answer (card_answer job.cards) (with_card_read job)) w)
served_grows (Read file size) job w = file_grows (files.served (Read file size) (in_use job w)) job w
served_grows (Chain file size sought) job w = file_grows (files.served (Chain file size sought) (in_use job w)) job w
served_grows (Append file bytes) job w = file_grows (files.served (Append file bytes) (in_use job w)) job w
served_grows (Add file bytes) job w = file_grows (files.served (Add file bytes) (in_use job w)) job w
served_grows (Update file current changes) job w = file_grows (files.served (Update file current changes) (in_use job w)) job w
served_grows (Print page line text) job w = by (has_room w.lines)
  where
    by : (b : Bool) → Grows w.lines (if b then acted (at_work (with_answer Done job) (line_put page line text w)) else idle w).world.lines
    by true = record {
      more = (record { page = page; line = line; text = text }) ∷ [];
      printed = ap (λ (l : Lines). l.printed) (stands_same (with_answer Done job) (line_put page line text w));
    }
    by false = same_lines w.lines w.lines refl
served_grows Jump job w = same_lines w.lines (served Jump job w).world.lines (stands_same (with_answer Done job) w)
served_grows (Ask code) job w = same_lines w.lines w.lines refl
served_grows (End at_once) job w = same_lines w.lines (served (End at_once) job w).world.lines refl

-- ---- the start of a job
over_same : (number : ℕ) (cards : List (List ℕ)) (source : Source) (opening : Result FilesInUse HaltCode) (w : World) → (run_over number cards source opening w).lines ≡ w.lines
over_same number cards source (Err code) w = refl
over_same number cards source (Ok opening) w =
    stands_same (record { number = number; source = source; cards = cards; files = opening.job_files; past = [] }) (record w { pack = opening.files })

run_same : (number : ℕ) (statements : List FileStatement) (cards : List (List ℕ)) (source : Option Source) (w : World) → (run number statements cards source w).lines ≡ w.lines
run_same number statements cards None w = refl
run_same number statements cards (Some source) w = over_same number cards source (opened (settings statements w) source.files w.pack) w

compiled_same : (number : ℕ) (lines : List Line) (diagnostics : List Diagnostic) (w : World) → (compiled number lines diagnostics w).lines ≡ w.lines
compiled_same number lines [] w = refl
compiled_same number lines (first ∷ more) w = refl

performed_same : (number : ℕ) (job : Job) (cards : List (List ℕ)) (w : World) → (performed number job cards w).lines ≡ w.lines
performed_same number job cards w = by (is_compile job)
  where
    by : (b : Bool) → (if b then compiled_data number (run_card_of job) job.data_from cards w else run number job.files cards (w.library job.program) w).lines ≡ w.lines
    by true = compiled_same number (lines_of job.data_from cards) (diagnostics_of (run_card_of job) job.data_from cards) w
    by false = run_same number job.files cards (w.library job.program) w

begun_same : (jobs : List (Result Job FaultyJob)) (w : World) → (begun jobs w).world.lines ≡ w.lines
begun_same [] w = refl
begun_same (Ok job ∷ jobs) w = performed_same w.deck.number job (data_of (with_jobs jobs w).deck.cards job) (with_settings job (with_jobs jobs w))
begun_same (Err faulty ∷ jobs) w = refl

-- ---- entries
turned_grows : (w : World) → Grows w.lines (turned w).world.lines
turned_grows w = by (is_waiting w.halts)
  where
    gone : (o : Option JobAtWork) → Grows w.lines (gone_on o w).world.lines
    gone None = same_lines w.lines (begun w.deck.jobs w).world.lines (begun_same w.deck.jobs w)
    gone (Some job) = served_grows (pending job w) job w

    by : (b : Bool) → Grows w.lines (if b then idle w else gone_on w.job w).world.lines
    by true = same_lines w.lines w.lines refl
    by false = gone w.job

drained_grows : (w : World) → Grows w.lines (drained w).world.lines
drained_grows w = by (is_queued w.lines)
  where
    by : (b : Bool) → Grows w.lines (if b then acted (record w { lines = with_drained w.lines }) else refused 3 w).world.lines
    by true = record { more = []; printed = sym (append-nil w.lines.printed) }
    by false = same_lines w.lines w.lines refl

resumed_same : (digit : ℕ) (o : Option JobAtWork) (w : World) → (resumed digit o w).lines ≡ w.lines
resumed_same digit None w = refl
resumed_same digit (Some job) w = stands_same (with_answer (Reply digit) job) w

replied_grows : (digit : ℕ) (w : World) → Grows w.lines (replied digit w).world.lines
replied_grows digit w = by (answer_to digit (waiting w.halts))
  where
    by : (r : Result (Unit {0}) ReplyFault) → Grows w.lines (reply_given digit r w).world.lines
    by (Err fault) = same_lines w.lines w.lines refl
    by (Ok allowed) = same_lines w.lines (resumed digit w.job (record w { halts = with_reply digit w.halts })).lines (resumed_same digit w.job (record w { halts = with_reply digit w.halts }))

solo_grows : (w : World) (actions : List Action) → Grows w.lines (solo w actions).lines
solo_grows w [] = same_lines w.lines w.lines refl
solo_grows w (action.Turn ∷ actions) = lines_then w.lines (turned w).world.lines (solo (turned w).world actions).lines (turned_grows w) (solo_grows (turned w).world actions)
solo_grows w (action.Reply digit ∷ actions) = lines_then w.lines (replied digit w).world.lines (solo (replied digit w).world actions).lines (replied_grows digit w) (solo_grows (replied digit w).world actions)
solo_grows w (action.Drain ∷ actions) = lines_then w.lines (drained w).world.lines (solo (drained w).world actions).lines (drained_grows w) (solo_grows (drained w).world actions)

-- once a level is closed all its lines are drained
all_of : (w : World) → drained_lines (closed w).lines ≡ w.lines.printed
all_of w = take_all (length w.lines.printed) w.lines.printed (omega arith)

-- what a level has drained comes first of all that it has printed when it is closed
pub drained_first : (w : World) (actions : List Action) → (later : List Printed) × (drained_lines (closed (solo w actions)).lines ≡ drained_lines w.lines ++ later)
drained_first w actions =
    let grows : Grows w.lines (solo w actions).lines = solo_grows w actions in (
      drop w.lines.drained w.lines.printed ++ grows.more,
      all_of (solo w actions)
          ∙ (grows.printed
          ∙ (ap (λ (l : List Printed). l ++ grows.more) (sym (take-append-drop w.lines.drained w.lines.printed))
          ∙ append_assoc (take w.lines.drained w.lines.printed) (drop w.lines.drained w.lines.printed) grows.more)),
    )

-- ---- a level that is over
no_job : (job : Option JobAtWork) → is_some job ≡ false → job ≡ None
no_job None none = refl
no_job (Some job) none = absurd (true≢false none)

no_jobs : (jobs : List (Result Job FaultyJob)) → is_left jobs ≡ false → jobs ≡ []
no_jobs [] none = refl
no_jobs (job ∷ jobs) none = absurd (true≢false none)

module _ (w : World) (over : IsOver w) where
  none_at_work : w.job ≡ None
  none_at_work = no_job w.job (or_parts (is_some w.job) (is_left w.deck.jobs) over.no_work).0

  none_left : w.deck.jobs ≡ []
  none_left = no_jobs w.deck.jobs (or_parts (is_some w.job) (is_left w.deck.jobs) over.no_work).1

  turn_same : (turned w).world ≡ w
  turn_same =
      ap (λ (halts : List ShownHalt). (if is_waiting halts then idle w else gone_on w.job w).world) over.no_halts
      ∙ (ap (λ (job : Option JobAtWork). (gone_on job w).world) none_at_work
      ∙ ap (λ (jobs : List (Result Job FaultyJob)). (begun jobs w).world) none_left)

  reply_same : (digit : ℕ) → (replied digit w).world ≡ w
  reply_same digit = ap (λ (halts : List ShownHalt). (reply_given digit (answer_to digit (waiting halts)) w).world) over.no_halts

  drain_same : (drained w).world ≡ w
  drain_same = ap (λ (b : Bool). (if b then acted (record w { lines = with_drained w.lines }) else refused 3 w).world) over.empty

  one_same : (action : Action) → (step_of w action).world ≡ w
  one_same action.Turn = turn_same
  one_same (action.Reply digit) = reply_same digit
  one_same action.Drain = drain_same

  pub over_same_world : (actions : List Action) → solo w actions ≡ w
  over_same_world [] = refl
  over_same_world (action ∷ actions) = ap (λ (v : World). solo v actions) (one_same action) ∙ over_same_world actions

  not_fewer : (size count : ℕ) → nat_lt count size ≡ false → size ≤ count
  not_fewer size count not = grind (arith, nat_tests)

  all_drained_before : drained_lines w.lines ≡ w.lines.printed
  all_drained_before = take_all w.lines.drained w.lines.printed (not_fewer (length w.lines.printed) w.lines.drained over.empty)

  -- it prints nothing more
  pub over_prints_none : (actions : List Action) (later : List Printed) → drained_lines (closed (solo w actions)).lines ≡ drained_lines w.lines ++ later → later ≡ []
  over_prints_none actions later whole =
      nothing_after (drained_lines w.lines) later
      (sym whole ∙ (ap (λ (v : World). drained_lines (closed v).lines) (over_same_world actions) ∙ (all_of w ∙ sym all_drained_before)))
    where
      nothing_after : (xs ys : List Printed) → xs ++ ys ≡ xs → ys ≡ []
      nothing_after [] ys same = same
      nothing_after (x ∷ xs) ys same = nothing_after xs ys (ap (drop 1) same)

  -- and shows no halt
  pub over_shows_none : (actions : List Action) → (closed (solo w actions)).halts ≡ []
  over_shows_none actions =
      ap (λ (v : World). (closed v).halts) (over_same_world actions)
      ∙ (ap (λ (job : Option JobAtWork). (ended job w).halts) none_at_work ∙ over.no_halts)
