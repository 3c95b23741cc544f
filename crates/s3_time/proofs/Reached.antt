-- The invariant of all worlds that the reference model reaches: the library has only accepted sources, the files of the running job are
-- open, and at least one line may be queued.
use Rattle.std.proofs.Common.{◌≡◌, ◌≤◌, ◌+◌, ◌++◌, ℕ, length-append, nat_lt, Bool, true, false, not, List, [], ◌∷◌, length, Option, Some, None, Result, Ok, Err, if◌then◌else◌, refl, sym, subst, ◌∙◌, arith}
use Rattle.std.proofs.lemmas.Bool.{and_parts, leb-true, ltb-true}
use Rattle.std.proofs.lemmas.Option.{none-some}
use Rattle.s3_cards.specs.declared.levels.LevelId.{LevelId}
use Rattle.s3_cards.specs.declared.levels.LevelId.TheVariants.{One, Two}
use Rattle.s3_cards.specs.declared.name.Name.{Name}
use Rattle.s3_cards.specs.Names.{same_name}
use Rattle.s3_cards.specs.Printed.{Printed}
use Rattle.s3_lines.specs.declared.sheet.Line.{Line}
use Rattle.s3_lines.specs.declared.diagnostic.Diagnostic.{Diagnostic}
use Rattle.s3_sheets.specs.Lines.{lines_of}
use Rattle.s3_meaning.specs.Source.{Source, source_of, program_name}
use Rattle.s3_meaning.specs.Requests.{Request, Card, Read, Chain, Append, Add, Update, Print, Jump, Ask, End, Done, Reply}
use Rattle.s3_ocl.specs.declared.contents.FileStatement.{FileStatement}
use Rattle.s3_ocl.specs.declared.faults.FaultyJob.{FaultyJob}
use Rattle.s3_ocl.specs.Jobs.{Job, is_compile}
use Rattle.s3_operator.specs.declared.halt_code.HaltCode.{HaltCode}
use Rattle.s3_operator.specs.declared.reply_fault.ReplyFault.{ReplyFault}
use Rattle.s3_operator.specs.Halts.{answer_to, is_waiting, waiting, with_reply}
use Rattle.s3_slots.specs.Header.{accepted, are_quotas, are_regions, first_region, format_in, header_by, mounted, quota_of}
use Rattle.s3_slots.specs.declared.header.Header.{Header}
use Rattle.s3_slots.specs.declared.header.MountFault.TheVariants.{BadHeader, BadRegions, Short}
use Rattle.s3_store.specs.Bytes.{sector_bytes}
use Rattle.s3_job_files.specs.Files.{Files, FilesInUse}
use Rattle.s3_job_files.specs.Requests as files
use Rattle.s3_job_files.specs.Requests.{Served}
use Rattle.s3_opening.specs.Opening.{opened}
use Rattle.s3_solo.specs.declared.action.Action.{Action}
use Rattle.s3_solo.specs.declared.action.Action.TheVariants as action
use Rattle.s3_solo.specs.Lines.{Lines, has_room, is_queued, with_drained, with_line}
use Rattle.s3_solo.specs.World.{World, JobAtWork, at_start}
use Rattle.s3_solo.specs.Serving.{acted, answered, at_work, begun, card_answer, compiled, compiled_data, data_of, diagnostics_of, file_served, idle, in_use, job_over, line_put, pending, performed, run, run_card_of, run_over, served, settings, standing_at, started, with_answer, with_card_read, with_jobs, with_settings}
use Rattle.s3_solo.specs.Solo.{drained, gone_on, refused, replied, reply_given, resumed, solo, step_of, turned}
use Rattle.s3_solo.specs.Inner.Asked.{IsAsked}
use Rattle.s3_solo.proofs.Asking.{step_asks}
use Rattle.s3_time.specs.Inner.Rest.{IsReached}
use Rattle.s3_time.proofs.Accepted.{accepted_right}
use Rattle.s3_time.proofs.JobFiles.{AreOpen, opened_are_open, served_stay_open}
use Rattle.s3_time.proofs.Requested.{IsRight}

-- the job at work runs a source whose lines are right, and its files are open
pub record IsAtWork (switches : ℕ) (pack : Files) (job : JobAtWork) : Type 0 where
  pub right : IsRight job.source
  pub are_open : AreOpen job.source.files switches (record { files = pack; job_files = job.files })

-- a line may be queued, and no more were drained than were printed
pub record IsQueue (lines : Lines) : Type 0 where
  pub quota : 1 ≤ lines.quota
  pub drained : lines.drained ≤ length lines.printed

-- the sources of the library
abbrev pub AreRight : World → Type 0
AreRight w = (name : Name) (source : Source) → w.library name ≡ Some source → IsRight source

pub record IsKept (w : World) : Type 0 where
  pub library : AreRight w
  pub work : (job : JobAtWork) → w.job ≡ Some job → IsAtWork w.switches w.pack job
  pub room : IsQueue w.lines

-- ---- worlds
jobless : (w : World) → AreRight w → IsQueue w.lines → w.job ≡ None → IsKept w
jobless w library room none = record { library = library; work = λ job is. absurd (none-some job (sym none ∙ is)); room = room }

working : (w : World) (job : JobAtWork) → AreRight w → IsQueue w.lines → w.job ≡ Some job → IsAtWork w.switches w.pack job → IsKept w
working w job library room is at = record {
  library = library;
  work = λ other is_other. let both : Some job ≡ Some other = sym is ∙ is_other in let same : job ≡ other = cc in subst (IsAtWork w.switches w.pack) same at;
  room = room;
}

stands : (job : JobAtWork) (w : World) → AreRight w → IsQueue w.lines → IsAtWork w.switches w.pack job → IsKept (at_work job w)
stands job w library room at = by (pending job w)
  where
    plainly : IsKept (record w { job = Some job })
    plainly = working (record w { job = Some job }) job library room refl at

    by : (request : Request) → IsKept (standing_at request job w)
    by Card = plainly
    by (Read file size) = plainly
    by (Chain file size sought) = plainly
    by (Append file bytes) = plainly
    by (Add file bytes) = plainly
    by (Update file current changes) = plainly
    by (Print page line text) = plainly
    by Jump = plainly
    by (Ask code) = working (standing_at (Ask code) job w) job library room refl at
    by (End true) = jobless (standing_at (End true) job w) library room refl
    by (End false) = plainly

-- ---- lines
one_line : (line : Printed) (lines : Lines) → IsQueue lines → IsQueue (with_line line lines)
one_line line lines queue =
    let size : length (lines.printed ++ line ∷ []) ≡ length lines.printed + 1 = length-append lines.printed (line ∷ []) in
    record { quota = queue.quota; drained = omega (arith, size, queue.drained) }

one_drained : (lines : Lines) → is_queued lines ≡ true → IsQueue lines → IsQueue (with_drained lines)
one_drained lines queued queue =
    let some = ltb-true lines.drained (length lines.printed) queued in
    record { quota = queue.quota; drained = omega (arith, some) }

-- ---- entries
module _ (w : World) (kept : IsKept w) (job : JobAtWork) (is : w.job ≡ Some job) where
  here : IsAtWork w.switches w.pack job
  here = kept.work job is

  file_kept : (request : Request) (o : Option Served) → files.served request (in_use job w) ≡ o → IsKept (file_served o job w).world
  file_kept request None came = kept
  file_kept request (Some served) came =
      stands (with_answer served.answer (record job { files = served.in_use.job_files })) (record w { pack = served.in_use.files }) kept.library kept.room
      (record { right = here.right; are_open = served_stay_open job.source.files w.switches (in_use job w) here.are_open request served came })

  served_kept : (request : Request) → IsKept (served request job w).world
  served_kept Card = stands (with_answer (card_answer job.cards) (with_card_read job)) w kept.library kept.room (record { right = here.right; are_open = here.are_open })
  served_kept (Read file size) = file_kept (Read file size) (files.served (Read file size) (in_use job w)) refl
  served_kept (Chain file size sought) = file_kept (Chain file size sought) (files.served (Chain file size sought) (in_use job w)) refl
  served_kept (Append file bytes) = file_kept (Append file bytes) (files.served (Append file bytes) (in_use job w)) refl
  served_kept (Add file bytes) = file_kept (Add file bytes) (files.served (Add file bytes) (in_use job w)) refl
  served_kept (Update file current changes) = file_kept (Update file current changes) (files.served (Update file current changes) (in_use job w)) refl
  served_kept (Print page line text) = by (has_room w.lines)
    where
      by : (b : Bool) → IsKept (if b then acted (answered Done job (line_put page line text w)) else idle w).world
      by true = stands (with_answer Done job) (line_put page line text w) kept.library (one_line (record { page = page; line = line; text = text }) w.lines kept.room) (record { right = here.right; are_open = here.are_open })
      by false = kept
  served_kept Jump = stands (with_answer Done job) w kept.library kept.room (record { right = here.right; are_open = here.are_open })
  served_kept (Ask code) = kept
  served_kept (End at_once) = jobless (job_over job w) kept.library kept.room refl

  replied_at_work : (digit : ℕ) (v : World) → v.switches ≡ w.switches → v.pack ≡ w.pack → AreRight v → IsQueue v.lines → IsKept (answered (Reply digit) job v)
  replied_at_work digit v switches pack library room =
      stands (with_answer (Reply digit) job) v library room
      (record {
        right = here.right;
        are_open = subst (λ (n : ℕ). AreOpen job.source.files n (in_use job v)) (sym switches)
            (subst (λ (all : Files). AreOpen job.source.files w.switches (record { files = all; job_files = job.files })) (sym pack) here.are_open);
      })

module _ (w : World) (library : AreRight w) (room : IsQueue w.lines) (rests : w.job ≡ None) where
  over_kept : (number : ℕ) (cards : List (List ℕ)) (source : Source) (opening : Result FilesInUse HaltCode) → IsRight source → ((after : FilesInUse) → opening ≡ Ok after → AreOpen source.files w.switches after)
      → IsKept (run_over number cards source opening w)
  over_kept number cards source (Err code) right are_open = jobless (run_over number cards source (Err code) w) library room rests
  over_kept number cards source (Ok opening) right are_open =
      stands (record { number = number; source = source; cards = cards; files = opening.job_files; past = [] }) (record w { pack = opening.files }) library room
      (record { right = right; are_open = are_open opening refl })

  run_kept : (number : ℕ) (statements : List FileStatement) (cards : List (List ℕ)) (source : Option Source) → ((one : Source) → source ≡ Some one → IsRight one) → IsKept (run number statements cards source w)
  run_kept number statements cards None right = jobless (run number statements cards None w) library room rests
  run_kept number statements cards (Some source) right =
      over_kept number cards source (opened (settings statements w) source.files w.pack) (right source refl) (λ after is. opened_are_open (settings statements w) source.files w.pack after is)

  compiled_kept : (number : ℕ) (lines : List Line) (diagnostics : List Diagnostic) → (diagnostics ≡ [] → IsRight (source_of lines)) → IsKept (compiled number lines diagnostics w)
  compiled_kept number lines [] right = jobless (compiled number lines [] w) (λ name source is. by name source (same_name (program_name lines) name) is) room rests
    where
      by : (name : Name) (source : Source) (b : Bool) → (if b then Some (source_of lines) else w.library name) ≡ Some source → IsRight source
      by name source true is = let same : source_of lines ≡ source = cc in subst IsRight same (right refl)
      by name source false is = library name source is
  compiled_kept number lines (first ∷ more) right = jobless (compiled number lines (first ∷ more) w) library room rests

  performed_kept : (number : ℕ) (job : Job) (cards : List (List ℕ)) → IsKept (performed number job cards w)
  performed_kept number job cards = by (is_compile job)
    where
      by : (b : Bool) → IsKept (if b then compiled_data number (run_card_of job) job.data_from cards w else run number job.files cards (w.library job.program) w)
      by true = compiled_kept number (lines_of job.data_from cards) (diagnostics_of (run_card_of job) job.data_from cards) (accepted_right (run_card_of job) job.data_from cards)
      by false = run_kept number job.files cards (w.library job.program) (library job.program)

begun_kept : (jobs : List (Result Job FaultyJob)) (w : World) → IsKept w → w.job ≡ None → IsKept (begun jobs w).world
begun_kept [] w kept rests = kept
begun_kept (Ok job ∷ jobs) w kept rests =
    performed_kept (with_settings job (with_jobs jobs w)) kept.library kept.room rests w.deck.number job (data_of (with_jobs jobs w).deck.cards job)
begun_kept (Err faulty ∷ jobs) w kept rests = jobless (started w.deck.number (Err faulty) (with_jobs jobs w)) kept.library kept.room rests

turned_kept : (w : World) → IsKept w → IsKept (turned w).world
turned_kept w kept = by (is_waiting w.halts)
  where
    gone : (o : Option JobAtWork) → w.job ≡ o → IsKept (gone_on o w).world
    gone None is = begun_kept w.deck.jobs w kept is
    gone (Some job) is = served_kept w kept job is (pending job w)

    by : (b : Bool) → IsKept (if b then idle w else gone_on w.job w).world
    by true = kept
    by false = gone w.job refl

replied_kept : (digit : ℕ) (w : World) → IsKept w → IsKept (replied digit w).world
replied_kept digit w kept = by (answer_to digit (waiting w.halts))
  where
    goes_on : (o : Option JobAtWork) → w.job ≡ o → IsKept (resumed digit o (record w { halts = with_reply digit w.halts }))
    goes_on None is = jobless (record w { halts = with_reply digit w.halts }) kept.library kept.room is
    goes_on (Some job) is = replied_at_work w kept job is digit (record w { halts = with_reply digit w.halts }) refl refl kept.library kept.room

    by : (answer : Result (Unit {0}) ReplyFault) → IsKept (reply_given digit answer w).world
    by (Err fault) = kept
    by (Ok allowed) = goes_on w.job refl

drained_kept : (w : World) → IsKept w → IsKept (drained w).world
drained_kept w kept = by (is_queued w.lines) refl
  where
    by : (b : Bool) → is_queued w.lines ≡ b → IsKept (if b then acted (record w { lines = with_drained w.lines }) else refused 3 w).world
    by true queued = record { library = kept.library; work = kept.work; room = one_drained w.lines queued kept.room }
    by false none = kept

step_kept : (action' : Action) (w : World) → IsKept w → IsKept (step_of w action').world
step_kept action.Turn w kept = turned_kept w kept
step_kept (action.Reply digit) w kept = replied_kept digit w kept
step_kept action.Drain w kept = drained_kept w kept

-- ---- a run of the reference model
pub record IsSound (w : World) : Type 0 where
  pub kept : IsKept w
  pub asked : IsAsked w

solo_sound : (w : World) (actions : List Action) → IsSound w → IsSound (solo w actions)
solo_sound w [] sound = sound
solo_sound w (action' ∷ actions) sound = solo_sound (step_of w action').world actions (record { kept = step_kept action' w sound.kept; asked = step_asks action' w sound.asked })

-- a pack that is mounted gives each level a line of its queue at least
quota_least : (level : LevelId) (header : Header) → are_quotas header.quota_one header.quota_two ≡ true → 1 ≤ quota_of level header
quota_least One header are = leb-true 1 header.quota_one (and_parts _ _ (and_parts _ _ are).0).0
quota_least Two header are = leb-true 1 header.quota_two (and_parts _ _ (and_parts _ _ are).0).1

quota_mounted : (level : LevelId) (contents : List (List ℕ)) (header : Header) → mounted contents ≡ Ok header → 1 ≤ quota_of level header
quota_mounted level contents header is = by (nat_lt (length contents) first_region) is
  where
    tested : (found : Header) (quotas : Bool) → are_quotas found.quota_one found.quota_two ≡ quotas → (regions long : Bool)
        → (if not quotas then Err BadHeader else (if not regions then Err BadRegions else (if long then Err Short else Ok found))) ≡ Ok header → 1 ≤ quota_of level header
    tested found false are regions long is = absurd cc
    tested found true are false long is = absurd cc
    tested found true are true true is = absurd cc
    tested found true are true false is = let same : found ≡ header = cc in subst (λ (h : Header). 1 ≤ quota_of level h) same (quota_least level found are)

    from : (o : Option Header) → accepted (length contents) o ≡ Ok header → 1 ≤ quota_of level header
    from None is = absurd cc
    from (Some found) is = tested found (are_quotas found.quota_one found.quota_two) refl (are_regions found) (nat_lt (length contents) found.total) is

    by : (b : Bool) → (if b then Err Short else accepted (length contents) (header_by (sector_bytes contents 0) (format_in (sector_bytes contents 0)))) ≡ Ok header → 1 ≤ quota_of level header
    by true is = absurd cc
    by false is = from (header_by (sector_bytes contents 0) (format_in (sector_bytes contents 0))) is

pub reached_sound : (w : World) → IsReached w → IsSound w
reached_sound w reached =
    let start : World = at_start reached.level reached.header reached.contents reached.deck in
    subst IsSound reached.there (solo_sound start reached.actions (record {
      kept = jobless start (λ name source is. absurd (none-some source is))
          (record { quota = quota_mounted reached.level reached.contents reached.header reached.mounts; drained = omega arith }) refl;
      asked = λ job is. absurd (none-some job is);
    }))
