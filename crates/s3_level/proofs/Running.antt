-- A job at work: its cycle follows the world's run.
use Rattle.std.proofs.Common.{◌≡◌, ℕ, List, [], ◌∷◌, ◌++◌, refl, sym, ◌∙◌, ap, subst, Bool, true, false, if◌then◌else◌, Option, Some, None, Result, Ok, Err, OnOk, drop, map, slice_range}
use Rattle.s3_meaning.specs.Source.{Source}
use Rattle.s3_meaning.specs.Requests.{Answer, Request, Card, Read, Chain, Append, Add, Update, Print, Jump, Ask, End}
use Rattle.s3_cards.specs.declared.name.Name.{Name}
use Rattle.s3_match.specs.Inner.Types.{name_of_file}
use Rattle.s3_operator.specs.declared.halt_code.HaltCode.{HaltCode}
use Rattle.s3_cycle.specs.declared.request.Request as code
use Rattle.s3_cycle.specs.declared.request.Request.TheVariants as asks
use Rattle.s3_cycle.specs.declared.request.FileCall.{FileCall}
use Rattle.s3_cycle.specs.declared.request.FileCall.TheVariants as calls
use Rattle.s3_cycle.specs.declared.stepper.Stepper.{Stepper}
use Rattle.s3_cycle.specs.Inner.Requests.{request_to}
use Rattle.s3_cycle.specs.Inner.Following.{Follows, Resumes, asked, put, waits}
use Rattle.s3_cycle.proofs.FollowLemmas.{follows_on, waits_as, waits_card, waits_file, waits_print, waits_jump, waits_ask, waits_end}
use Rattle.s3_level.specs.declared.job.OpenJob.{OpenJob}
use Rattle.s3_level.specs.declared.level.Level.{Level}
use Rattle.s3_level.specs.declared.next.Next.TheVariants.{Halts, IsOver, GoesOn}
use Rattle.s3_solo.specs.declared.action.Did.TheVariants.{Acted}
use Rattle.s3_solo.specs.World.{World, JobAtWork}
use Rattle.s3_solo.specs.Serving.{at_work, card_answer, halting, job_ended, over, pending, served, standing_at, with_answer, with_card_read}
use Rattle.s3_job_files.specs.Inner.Holds.{HoldsFiles, job_file_of}
use Rattle.s3_job_files.specs.declared.file.OpenFile.{OpenFile}
use Rattle.s3_job_files.specs.declared.job_files.JobFiles.{JobFiles}
use Rattle.s3_level.specs.Inner.Holds.{Shown, HoldsParts, HoldsJob, HoldsAtWork, Becomes, open_files}
use Rattle.s3_level.specs.Inner.Turning.{AtWorkBecomes, Comes, KeepsPlace, Pends, waits_by}

-- ---- the open job and the world's
-- where the level has a job at work, so has the world
pub job_held : (deck : List (List ℕ)) (open_job : OpenJob) (w : World) (job : JobAtWork) (o : Option OpenJob) (meant : Option JobAtWork) → o ≡ Some open_job → meant ≡ Some job
    → HoldsAtWork deck o w meant → HoldsJob deck open_job w job
job_held deck open_job w job o meant is_open is_job held =
    let P : Option OpenJob → Type 0 = λ k. HoldsAtWork deck k w (Some job) in
    subst P is_open (let Q : Option JobAtWork → Type 0 = λ m. HoldsAtWork deck o w m in subst Q is_job held)

-- the pending request of the open job is the one of the world's job
pub pends : (s : Shown) (level : Level) (w : World) → HoldsParts level s w → Pends (waits_by level.job) w
pends s level w held = by level.job w.job refl held.job
  where
    by : (o : Option OpenJob) (meant : Option JobAtWork) → w.job ≡ meant → HoldsAtWork level.deck o w meant → Pends (waits_by o) w
    by None None is h = is
    by None (Some job) is h = absurd h
    by (Some open_job) None is h = absurd h
    by (Some open_job) (Some job) is h = (job, is, sym (waits_as job.source w.switches w.date job.past open_job.cycle h.follows))

abbrev items_of : JobFiles → List OpenFile
items_of files = files.files.items

-- a job at work goes on with the answer to its request: it holds the world's with that answer
goes_on : (s : Shown) (old : Level) (job after : OpenJob) (cards : JobAtWork → JobAtWork) (answer : Answer) → old.job ≡ Some job → after.number ≡ job.number
    → after.files ≡ job.files → Resumes job.cycle after.cycle answer
    → ((meant : JobAtWork) → meant.cards ≡ slice_range old.deck job.next job.end → (cards meant).cards ≡ slice_range old.deck after.next after.end)
    → ((meant : JobAtWork) → ((cards meant).number ≡ meant.number) × ((cards meant).source ≡ meant.source) × ((cards meant).past ≡ meant.past) × ((cards meant).files ≡ meant.files))
    → AtWorkBecomes (λ meant w. record w { job = Some (with_answer answer (cards meant)) }) (HoldsParts old s) (HoldsParts (record old { job = Some after }) s)
goes_on s old job after cards answer is_open number same_files resumes read same = λ w meant is_job held.
    let h : HoldsJob old.deck job w meant = job_held old.deck job w meant old.job w.job is_open is_job held.job in
    record {
      cards = held.cards;
      jobs = held.jobs;
      number = held.number;
      library = held.library;
      switches = held.switches;
      date = held.date;
      pack = subst (λ (items : List OpenFile). HoldsFiles old.id items s.seen w.pack) (ap open_files is_open ∙ sym (ap items_of same_files)) held.pack;
      job = record {
        number = (same meant).0 ∙ (h.number ∙ sym number);
        cards = read meant h.cards;
        files = (same meant).3 ∙ (h.files ∙ sym (ap (λ (f : JobFiles). map job_file_of f.files.items) same_files));
        follows =
            let followed : Follows meant.source w.switches w.date (meant.past ++ answer ∷ []) after.cycle = follows_on meant.source w.switches w.date meant.past job.cycle after.cycle answer h.follows resumes in
            subst (λ (s : Source). Follows s w.switches w.date ((cards meant).past ++ answer ∷ []) after.cycle) (sym (same meant).1)
            (subst (λ (past : List Answer). Follows meant.source w.switches w.date (past ++ answer ∷ []) after.cycle) (sym (same meant).2) followed);
      };
      lines = held.lines;
      halts = held.halts;
    }

pub answer_taken : (s : Shown) (old : Level) (job after : OpenJob) (answer : Answer) → old.job ≡ Some job → KeepsPlace job after → after.files ≡ job.files
    → Resumes job.cycle after.cycle answer
    → AtWorkBecomes (λ meant w. record w { job = Some (with_answer answer meant) }) (HoldsParts old s) (HoldsParts (record old { job = Some after }) s)
answer_taken s old job after answer is_open place files resumes =
    goes_on s old job after (λ meant. meant) answer is_open place.number files resumes
    (λ meant has. has ∙ (λ i. slice_range old.deck (sym place.next i) (sym place.end i)))
    (λ meant. (refl, refl, refl, refl))

-- a card is read
pub card_taken : (s : Shown) (old : Level) (job after : OpenJob) → old.job ≡ Some job → after.number ≡ job.number → after.files ≡ job.files
    → Resumes job.cycle after.cycle (card_answer (slice_range old.deck job.next job.end))
    → slice_range old.deck after.next after.end ≡ drop 1 (slice_range old.deck job.next job.end)
    → AtWorkBecomes (λ meant w. record w { job = Some (with_answer (card_answer meant.cards) (with_card_read meant)) }) (HoldsParts old s) (HoldsParts (record old { job = Some after }) s)
card_taken s old job after is_open number files resumes read = λ w meant is_job held.
    let h : HoldsJob old.deck job w meant = job_held old.deck job w meant old.job w.job is_open is_job held.job in
    let goes = goes_on s old job after with_card_read (card_answer (slice_range old.deck job.next job.end)) is_open number files resumes
    (λ other has. ap (drop 1) has ∙ sym read) (λ other. (refl, refl, refl, refl)) w meant is_job held in
    subst (λ (cards : List (List ℕ)). HoldsParts (record old { job = Some after }) s (record w { job = Some (with_answer (card_answer cards) (with_card_read meant)) })) (sym h.cards) goes

-- ---- what it comes to
-- where a job is in its run depends on nothing else
pub standing_same : (request : Request) (job : JobAtWork) (w : World) (other : Option JobAtWork) → standing_at request job (record w { job = other }) ≡ standing_at request job w
standing_same Card job w other = refl
standing_same (Read file size) job w other = refl
standing_same (Chain file size sought) job w other = refl
standing_same (Append file bytes) job w other = refl
standing_same (Add file bytes) job w other = refl
standing_same (Update file current changes) job w other = refl
standing_same (Print page line text) job w other = refl
standing_same Jump job w other = refl
standing_same (Ask code) job w other = refl
standing_same (End true) job w other = refl
standing_same (End false) job w other = refl

-- a changed job is where its next request is
pub then_stands : {T E : Type 0} (result : Result T E) (change : JobAtWork → JobAtWork) (old middle new : World → Type 0)
    → AtWorkBecomes (λ job w. record w { job = Some (change job) }) old middle
    → OnOk result (AtWorkBecomes at_work middle new)
    → OnOk result (AtWorkBecomes (λ job w. at_work (change job) w) old new)
then_stands (Ok _) change old middle new changes stands = λ w job is_job held.
    subst new (standing_same (pending (change job) w) (change job) w (Some (change job))) (stands (record w { job = Some (change job) }) (change job) refl (changes w job is_job held))
then_stands (Err _) change old middle new changes stands = tt

-- the world with the job that it has
same_world : (w : World) (job : JobAtWork) → w.job ≡ Some job → record w { job = Some job } ≡ w
same_world w job is_job = ap (λ (o : Option JobAtWork). record w { job = o }) (sym is_job)

pub halt_shown : (s : Shown) {T E : Type 0} (result : Result T E) (number : ℕ) (code : HaltCode) (old : Level) (new : World → Type 0)
    → ((w : World) (job : JobAtWork) → w.job ≡ Some job → HoldsParts old s w → Comes (Halts number code) job w)
    → OnOk result (Becomes (halting number code []) (HoldsParts old s) new)
    → OnOk result (AtWorkBecomes at_work (HoldsParts old s) new)
halt_shown s (Ok _) number code old new comes shows = λ w job is_job held.
    let here = comes w job is_job held in
    let stands : at_work job w ≡ halting number code [] w =
    ap (λ (request : Request). standing_at request job w) here.1
    ∙ (ap (λ (k : World). halting job.number code [] k) (same_world w job is_job) ∙ ap (λ (n : ℕ). halting n code [] w) (sym here.0)) in
    subst new (sym stands) (shows w held)
halt_shown s (Err _) number code old new comes shows = tt

pub job_over : (s : Shown) (old : Level) (new : World → Type 0)
    → ((w : World) (job : JobAtWork) → w.job ≡ Some job → HoldsParts old s w → Comes IsOver job w)
    → Becomes job_ended (HoldsParts old s) new
    → AtWorkBecomes at_work (HoldsParts old s) new
job_over s old new comes ends = λ w job is_job held.
    subst new (sym (ap (λ (request : Request). standing_at request job w) (comes w job is_job held)))
    (subst (λ (o : Option JobAtWork). new (over o w)) is_job (ends w held))

pub job_over_then : (s : Shown) {T E : Type 0} (result : Result T E) (old : Level) (new : World → Type 0)
    → ((w : World) (job : JobAtWork) → w.job ≡ Some job → HoldsParts old s w → Comes IsOver job w)
    → OnOk result (Becomes job_ended (HoldsParts old s) new)
    → OnOk result (AtWorkBecomes at_work (HoldsParts old s) new)
job_over_then s (Ok _) old new comes ends = job_over s old new comes ends
job_over_then s (Err _) old new comes ends = tt

pub job_goes_on : (s : Shown) (old : Level)
    → ((w : World) (job : JobAtWork) → w.job ≡ Some job → HoldsParts old s w → Comes GoesOn job w)
    → AtWorkBecomes at_work (HoldsParts old s) (HoldsParts old s)
job_goes_on s old comes = λ w job is_job held. subst (HoldsParts old s) (sym (comes w job is_job held ∙ same_world w job is_job)) held

-- ---- what it waits for
-- the pending request of the world's job is what the open one waits for
as_waits : (s : Shown) (level : Level) (open_job : OpenJob) (w : World) (job : JobAtWork) → level.job ≡ Some open_job → w.job ≡ Some job → HoldsParts level s w
    → (pending job w ≡ waits open_job.cycle) × (open_job.number ≡ job.number)
as_waits s level open_job w job is_open is_job held =
    let h : HoldsJob level.deck open_job w job = job_held level.deck open_job w job level.job w.job is_open is_job held.job in
    (sym (waits_as job.source w.switches w.date job.past open_job.cycle h.follows), sym h.number)

pub comes_halt : (s : Shown) (level : Level) (open_job : OpenJob) (code : HaltCode) → level.job ≡ Some open_job → asked open_job.cycle ≡ asks.Ask code
    → (w : World) (job : JobAtWork) → w.job ≡ Some job → HoldsParts level s w → Comes (Halts open_job.number code) job w
comes_halt s level open_job code is_open is w job is_job held =
    let here = as_waits s level open_job w job is_open is_job held in
    (here.1, here.0 ∙ waits_ask open_job.cycle code is)

pub comes_over : (s : Shown) (level : Level) (open_job : OpenJob) → level.job ≡ Some open_job → asked open_job.cycle ≡ asks.End true
    → (w : World) (job : JobAtWork) → w.job ≡ Some job → HoldsParts level s w → Comes IsOver job w
comes_over s level open_job is_open is w job is_job held = (as_waits s level open_job w job is_open is_job held).0 ∙ waits_end open_job.cycle true is

-- neither a halt nor the end by a reply
abbrev pub goes : code.Request → Bool
goes (asks.Ask code) = false
goes (asks.End at_once) = if at_once then false else true
goes _ = true

calls_at : (name : Name) (positions : List (Option ℕ)) (call : FileCall) (job : JobAtWork) (w : World) → standing_at (request_to name positions call) job w ≡ record w { job = Some job }
calls_at name positions (calls.Read size) job w = refl
calls_at name positions (calls.Chain size sought) job w = refl
calls_at name positions calls.Append job w = refl
calls_at name positions calls.Add job w = refl
calls_at name positions (calls.Update current) job w = refl

goes_at : (c : Stepper) (request : code.Request) (job : JobAtWork) (w : World) → asked c ≡ request → goes request ≡ true → standing_at (waits c) job w ≡ record w { job = Some job }
goes_at c asks.Card job w is g = ap (λ r. standing_at r job w) (waits_card c is)
goes_at c (asks.File file call) job w is g = ap (λ r. standing_at r job w) (waits_file c file call is) ∙ calls_at (name_of_file c.program file) (put c) call job w
goes_at c (asks.Print page line) job w is g = ap (λ r. standing_at r job w) (waits_print c page line is)
goes_at c asks.Jump job w is g = ap (λ r. standing_at r job w) (waits_jump c is)
goes_at c (asks.Ask code) job w is g = cc
goes_at c (asks.End true) job w is g = cc
goes_at c (asks.End false) job w is g = ap (λ r. standing_at r job w) (waits_end c false is)

pub comes_on : (s : Shown) (level : Level) (open_job : OpenJob) (request : code.Request) → level.job ≡ Some open_job → asked open_job.cycle ≡ request → goes request ≡ true
    → (w : World) (job : JobAtWork) → w.job ≡ Some job → HoldsParts level s w → Comes GoesOn job w
comes_on s level open_job request is_open is g w job is_job held =
    ap (λ (r : Request). standing_at r job w) (as_waits s level open_job w job is_open is_job held).0 ∙ goes_at open_job.cycle request job w is g

-- ---- requests that are served
pub card_served : (old middle new : World → Type 0)
    → AtWorkBecomes (λ job w. record w { job = Some (with_answer (card_answer job.cards) (with_card_read job)) }) old middle
    → AtWorkBecomes at_work middle new
    → (w : World) (job : JobAtWork) → w.job ≡ Some job → old w → (Acted ≡ (served Card job w).did) × new (served Card job w).world
card_served old middle new takes stands w job is_job held = (
  refl,
  subst new (standing_same (pending (with_answer (card_answer job.cards) (with_card_read job)) w) (with_answer (card_answer job.cards) (with_card_read job)) w
      (Some (with_answer (card_answer job.cards) (with_card_read job))))
      (stands (record w { job = Some (with_answer (card_answer job.cards) (with_card_read job)) }) (with_answer (card_answer job.cards) (with_card_read job)) refl (takes w job is_job held)),
)
