-- The start of a job: it is taken from the deck, and then started under its number.
use Rattle.std.specs.Prelude.{Bool, true, false, ◌++◌, replicate, unwrap_or, if◌then◌else◌}
use Rattle.std.specs.List.{list_all}
use Rattle.std.proofs.lemmas.Bool.{and_parts}
use Rattle.std.proofs.lemmas.Bool.{cases_lt}
use Rattle.std.proofs.lemmas.Option.{none-some}
use Rattle.std.proofs.Common.{◌≡◌, ◌≢◌, ◌<◌, arith, inl, inr, lt-ltb, le-ltb, ℕ, List, [], ◌∷◌, length, refl, sym, ◌∙◌, ap, subst, slice_range, Option, Some, None, Result, Ok, Err, OnOk}
use Rattle.indexmap.specs.IndexMap.{get}
use Rattle.s3_cards.specs.declared.name.Name.{Name}
use Rattle.s3_cards.specs.Names.{same_name}
use Rattle.s3_meaning.specs.Requests.{Answer}
use Rattle.s3_meaning.specs.Cycle.{Req}
use Rattle.s3_cycle.specs.declared.stepper.Stepper.{Stepper}
use Rattle.s3_cycle.specs.Inner.Rest.{rest}
use Rattle.s3_cycle.specs.Inner.Following.{StandsFor as RunsFor, files as files_of}
use Rattle.s3_solo.specs.World.{World, JobAtWork}
use Rattle.s3_meaning.specs.Source.{Source}
use Rattle.s3_program.specs.declared.program.Program.{Program}
use Rattle.s3_program.specs.Inner.Stands.{Stands, parts_of}
use Rattle.s3_program.specs.Inner.Valid.{named}
use Rattle.s3_ocl.specs.declared.faults.FaultyJob.{FaultyJob}
use Rattle.s3_ocl.specs.Faults.{fault_number}
use Rattle.s3_ocl.specs.declared.jobs.OclFault.{OclFault}
use Rattle.s3_ocl.specs.declared.jobs.OclFault.TheVariants.{NoMemory, Faulty}
use Rattle.s3_ocl.specs.Jobs.{Job, is_compile, job_at, next_job, place_after}
use Rattle.s3_ocl.specs.Inner.Jobs.{Gives, job_place}
use Rattle.s3_ocl.specs.Streams.{jobs_from}
use Rattle.s3_ocl.proofs.StreamLemmas.{jobs_from-none, jobs_from-next}
use Rattle.s3_level.specs.declared.job.OpenJob.{OpenJob}
use Rattle.s3_level.specs.declared.level.Level.{Level}
use Rattle.s3_solo.specs.Serving.{at_work, halting, pending, run, run_over, settings, compiled_data, data_of, performed, run_card_of, started, switches_after, with_jobs, with_settings}
use Rattle.s3_lines.specs.Inner.Ranges.{file_in_range}
use Rattle.s3_lines.specs.declared.sheet.FileLine.{FileLine}
use Rattle.s3_operator.specs.declared.halt_code.HaltCode.{HaltCode}
use Rattle.s3_operator.specs.declared.halt_code.HaltCode.TheVariants.{FaultyJob as FaultyStatements, NoProgram}
use Rattle.s3_job_files.specs.Files.{Files, FilesInUse}
use Rattle.s3_job_files.specs.Inner.Holds.{HoldsFiles, Seen, Holds as HoldsInUse, IsReady as AreFilesReady}
use Rattle.s3_job_files.specs.declared.file.OpenFile.{OpenFile}
use Rattle.s3_job_files.specs.declared.job_files.JobFiles.{JobFiles}
use Rattle.s3_opening.specs.Opening.{opened}
use Rattle.s3_opening.specs.Inner.OpenFiles.{AreOfLines, HoldsStarted}
use Rattle.s3_cycle.proofs.FollowLemmas.{files_stand}
use Rattle.s3_program.proofs.SlotLemmas.{kept}
use Rattle.s3_program.specs.Inner.Positions.{are_in_range}
use Rattle.s3_program.specs.Inner.Stands.{source_named}
use Rattle.s3_cards.specs.Printed.{Printed}
use Rattle.s3_cards.specs.declared.levels.LevelId.{LevelId}
use Rattle.s3_labels.specs.Inner.Areas.{Areas}
use Rattle.s3_slots.specs.Header.{quota_of as header_quota}
use Rattle.s3_job_files.specs.Files.{files_on}
use Rattle.s3_job_files.specs.Inner.Holds.{seen}
use Rattle.s3_job_files.proofs.Starting.{holds_mounted}
use Rattle.s3_spool.specs.Inner.Queues.{lines_in, queue_of}
use Rattle.s3_solo.specs.World.{at_start}
use Rattle.s3_level.specs.Inner.Holds.{Around, Holds, IsFresh, Shown, HoldsParts, HoldsAtWork, IsReady, Stocks, Becomes, open_files, places_of, with_seen}
use Rattle.s3_level.specs.Inner.Library.{HasSame, IsFor, IsOfLibrary}
use Rattle.s3_level.specs.Inner.Turning.{AtWorkBecomes, NextIs, Starts}
use Rattle.s3_level.proofs.Library.{parts_restocked}
use Rattle.s3_level.proofs.Running.{standing_same}

pub taken_then_started : (s : Shown) {T E : Type 0} (result : Result T E) (old : Level) (taken new : World → Type 0) (job : Result Job FaultyJob) (behind : List (Result Job FaultyJob)) (number : ℕ)
    → number ≡ old.number
    → Becomes (with_jobs behind) (HoldsParts old s) taken
    → OnOk result (Becomes (started number job) taken new)
    → OnOk result (Starts job behind (HoldsParts old s) new)
taken_then_started s (Ok _) old taken new job behind number is_number takes starts =
    λ w at_rest held. subst (λ n. new (started n job (with_jobs behind w))) (is_number ∙ sym held.number) (starts _ (takes w held))
taken_then_started s (Err _) old taken new job behind number is_number takes starts = tt

-- no job at work was started with the old date and switches
between_jobs : (deck : List (List ℕ)) (job : Option OpenJob) (before after : World) (meant : Option JobAtWork) → meant ≡ None
    → HoldsAtWork deck job before meant → HoldsAtWork deck job after meant
between_jobs deck None before after None at_rest held = held
between_jobs deck (Some job) before after None at_rest held = held
between_jobs deck None before after (Some meant) at_rest held = held
between_jobs deck (Some job) before after (Some meant) at_rest held = absurd (none-some meant (sym at_rest))

-- the settings of a job are made where no job is at work
settings_held : (s : Shown) (old new : Level) (job : Job)
    → new ≡ record old { switches = switches_after job.switches old.switches; date = unwrap_or job.date old.date }
    → (w : World) → w.job ≡ None → HoldsParts old s w → HoldsParts new s (with_settings job w)
settings_held s old new job is_new w at_rest held =
    subst (λ level. HoldsParts level s (with_settings job w)) (sym is_new)
    (record {
      cards = held.cards;
      jobs = held.jobs;
      number = held.number;
      library = held.library;
      switches = ap (switches_after job.switches) held.switches;
      date = ap (unwrap_or job.date) held.date;
      pack = held.pack;
      job = between_jobs old.deck old.job w (with_settings job w) w.job at_rest held.job;
      lines = held.lines;
      halts = held.halts;
    })

-- a faulty job halts with the card of its fault
pub fault_shown : {T E : Type 0} (result : Result T E) (number : ℕ) (faulty : FaultyJob) (details : List (ℕ × ℕ)) (old new : World → Type 0)
    → details ≡ (faulty.card, fault_number faulty.fault) ∷ []
    → OnOk result (Becomes (halting number FaultyStatements details) old new)
    → OnOk result (Becomes (started number (Err faulty)) old new)
fault_shown (Ok _) number faulty details old new is shows = λ w held. subst (λ (all : List (ℕ × ℕ)). new (halting number FaultyStatements all w)) is (shows w held)
fault_shown (Err _) number faulty details old new is shows = tt

-- a job that isn't faulty is taken, its settings are made, and it is performed under its number
pub set_then_performed : (s : Shown) {T E : Type 0} (result : Result T E) (old taken set : Level) (new : World → Type 0) (job : Job) (behind : List (Result Job FaultyJob)) (number : ℕ)
    → number ≡ old.number
    → Becomes (with_jobs behind) (HoldsParts old s) (HoldsParts taken s)
    → set ≡ record taken { switches = switches_after job.switches taken.switches; date = unwrap_or job.date taken.date }
    → OnOk result (Becomes (performed number job (data_of set.deck job)) (HoldsParts set s) new)
    → OnOk result (Starts (Ok job) behind (HoldsParts old s) new)
set_then_performed s (Ok _) old taken set new job behind number is_number takes sets performs =
    λ w at_rest held.
    let begun : World = with_settings job (with_jobs behind w) in
    let ready : HoldsParts set s begun = settings_held s taken set job sets (with_jobs behind w) at_rest (takes w held) in
    subst (λ n. new (performed n job (data_of w.deck.cards job) begun)) (is_number ∙ sym held.number)
    (subst (λ cards. new (performed number job (data_of cards job) begun)) (sym ready.cards) (performs begun ready))
set_then_performed s (Err _) old taken set new job behind number is_number takes sets performs = tt

-- where no job begins none is left, else some is
pub no_job_left : (deck : List (List ℕ)) (from : ℕ) → job_place deck from ≡ None → jobs_from deck from ≡ []
no_job_left deck from none = elim (cases_lt (next_job deck from) (length deck)) [
  | inl less ↦
      let some : job_place deck from ≡ Some (next_job deck from) = rw (lt-ltb (next_job deck from) (length deck) less) refl in
      absurd (none-some (next_job deck from) (sym none ∙ some))
  | inr past ↦ jobs_from-none deck from past
]

-- after the last card none is left
pub no_job_behind : (deck : List (List ℕ)) → jobs_from deck (length deck) ≡ []
no_job_behind deck = jobs_from-none deck (length deck) (omega arith)

pub some_job_left : (deck : List (List ℕ)) (from place : ℕ) → job_place deck from ≡ Some place → jobs_from deck from ≢ []
some_job_left deck from place some empty = elim (cases_lt (next_job deck from) (length deck)) [
  | inl less ↦ let same : _ ≡ [] = sym (jobs_from-next deck from less) ∙ empty in cc
  | inr past ↦
      let none : job_place deck from ≡ None = rw (le-ltb (next_job deck from) (length deck) past) refl in
      absurd (none-some place (sym none ∙ some))
]

-- the job that a call gave is the next one, and the others come after it
pub next_is : (deck : List (List ℕ)) (from : ℕ) (result : Result Job OclFault) → next_job deck from < length deck
    → Gives result (job_at deck (next_job deck from)) → NextIs deck from result
next_is deck from (Ok job) less gives = jobs_from-next deck from less ∙ ap (λ (next : Result Job FaultyJob). next ∷ jobs_from deck (place_after next)) gives
next_is deck from (Err (Faulty faulty)) less gives = jobs_from-next deck from less ∙ ap (λ (next : Result Job FaultyJob). next ∷ jobs_from deck (place_after next)) gives
next_is deck from (Err NoMemory) less gives = tt

-- a job that doesn't compile runs the program that it names over its files and its data
pub program_performed : {T E : Type 0} (result : Result T E) (number : ℕ) (job : Job) (cards : List (List ℕ)) (old new : World → Type 0)
    → is_compile job ≡ false
    → OnOk result (Becomes (λ w. run number job.files cards (w.library job.program) w) old new)
    → OnOk result (Becomes (performed number job cards) old new)
program_performed (Ok _) number job cards old new runs performs =
    λ w held.
    subst (λ (compiles : Bool). new (if compiles then compiled_data number (run_card_of job) job.data_from cards w else run number job.files cards (w.library job.program) w)) (sym runs)
    (performs w held)
program_performed (Err _) number job cards old new runs performs = tt

-- a job that compiles compiles its data
pub source_performed : {T E : Type 0} (result : Result T E) (number run_card from : ℕ) (job : Job) (cards source : List (List ℕ)) (old new : World → Type 0)
    → is_compile job ≡ true
    → run_card ≡ job.data_from
    → from ≡ job.data_from
    → source ≡ cards
    → OnOk result (Becomes (compiled_data number run_card from source) old new)
    → OnOk result (Becomes (performed number job cards) old new)
source_performed (Ok _) number run_card from job cards source old new compiles is_card is_from is_data performs =
    λ w held.
    subst (λ (is : Bool). new (if is then compiled_data number (run_card_of job) job.data_from cards w else run number job.files cards (w.library job.program) w)) (sym compiles)
    (subst (λ (all : List (List ℕ)). new (compiled_data number job.data_from job.data_from all w)) is_data
    (subst (λ (n : ℕ). new (compiled_data number n job.data_from source w)) is_card
    (subst (λ (n : ℕ). new (compiled_data number run_card n source w)) is_from (performs w held))))
source_performed (Err _) number run_card from job cards source old new compiles is_card is_from is_data performs = tt

-- ---- the program of a job
-- its F lines have their entries in range
pub files_in_range : (program : Program) → list_all file_in_range program.files.items ≡ true
unfolding are_in_range
files_in_range program =
    let three = and_parts _ _ (kept (parts_of program) program.valid).ranged in
    let two = and_parts _ _ three.0 in
    (and_parts _ _ two.0).0

-- they are those of each source that it stands for
pub files_of_source : (program : Program) (source : Source) → Stands program source → source.files ≡ program.files.items
unfolding named
files_of_source program source stands = sym (ap (λ (of : Source). of.files) stands)

-- the files of a level without a job at work
held_at_rest : (s : Shown) (old : Level) (w : World) → old.job ≡ None → HoldsParts old s w → HoldsFiles old.id [] s.seen w.pack
held_at_rest s old w rests held = subst (λ (items : List OpenFile). HoldsFiles old.id items s.seen w.pack) (ap open_files rests) held.pack

-- what the job's files come to in the world is what its settings say
same_opening : (s : Shown) (old : Level) (job : Job) (date : List ℕ) (program : Program) (source : Source) (w : World) → date ≡ old.date → Stands program source → HoldsParts old s w
    → opened (settings job.files w) source.files w.pack ≡ opened (record { statements = job.files; switches = old.switches; date = date }) program.files.items w.pack
same_opening s old job date program source w is_date stands held =
    ap (λ (lines : List FileLine). opened (settings job.files w) lines w.pack) (files_of_source program source stands)
    ∙ ap (λ (n : ℕ). opened (record { statements = job.files; switches = n; date = w.date }) program.files.items w.pack) held.switches
    ∙ ap (λ (d : List ℕ). opened (record { statements = job.files; switches = old.switches; date = d }) program.files.items w.pack) (held.date ∙ sym is_date)

-- a world has the source of a program of the library
source_of_program : (s : Shown) (old : Level) (name : Name) (program : Program) (w : World) → get same_name old.library name ≡ Some program → HoldsParts old s w
    → (source : Source) × (w.library name ≡ Some source) × Stands program source
source_of_program s old name program w found held = by (w.library name) refl (subst (λ (of : Option Program). Stocks of (w.library name)) found (held.library name))
  where
    by : (meant : Option Source) → w.library name ≡ meant → Stocks (Some program) meant → (source : Source) × (w.library name ≡ Some source) × Stands program source
    by None is stands = absurd stands
    by (Some source) is stands = (source, is, stands)

-- what a job whose program isn't there comes to
pub no_program : (s : Shown) {T E : Type 0} (result : Result T E) (number : ℕ) (job : Job) (cards : List (List ℕ)) (old : Level) (new : World → Type 0)
    → get same_name old.library job.program ≡ None
    → OnOk result (Becomes (halting number NoProgram []) (HoldsParts old s) new)
    → OnOk result (Becomes (λ w. run number job.files cards (w.library job.program) w) (HoldsParts old s) new)
no_program s (Ok _) number job cards old new none shows = λ w held.
    by w held (w.library job.program) (subst (λ (of : Option Program). Stocks of (w.library job.program)) none (held.library job.program))
  where
    by : (w : World) → HoldsParts old s w → (meant : Option Source) → Stocks None meant → new (run number job.files cards meant w)
    by w held None stocks = shows w held
    by w held (Some source) stocks = absurd stocks
no_program s (Err _) number job cards old new none shows = tt

-- the same halt
pub halts_so : (number : ℕ) (code other : HaltCode) (details : List (ℕ × ℕ)) (old new : World → Type 0) → details ≡ [] → other ≡ code
    → Becomes (halting number other details) old new → Becomes (halting number code []) old new
halts_so number code other details old new none same shows = λ w held.
    subst (λ (c : HaltCode). new (halting number c [] w)) same (subst (λ (d : List (ℕ × ℕ)). new (halting number other d w)) none (shows w held))

-- a job for whose files it halts
pub files_refused : (s : Shown) {T E : Type 0} (result : Result T E) (code : HaltCode) (number : ℕ) (job : Job) (cards date : List _) (program : Program) (before : Seen) (old : Level) (new : World → Type 0)
    → get same_name old.library job.program ≡ Some program
    → date ≡ old.date
    → old.job ≡ None
    → ((files : Files) → HoldsFiles old.id [] before files → opened (record { statements = job.files; switches = old.switches; date = date }) program.files.items files ≡ Err code)
    → OnOk result (Becomes (halting number code []) (HoldsParts old (with_seen before s)) new)
    → OnOk result (Becomes (λ w. run number job.files cards (w.library job.program) w) (HoldsParts old (with_seen before s)) new)
files_refused s (Ok _) code number job cards date program before old new found is_date rests refuses shows = λ w held.
    let there = source_of_program (with_seen before s) old job.program program w found held in
    let same : opened (settings job.files w) there.0.files w.pack ≡ Err code =
    same_opening (with_seen before s) old job date program there.0 w is_date there.2 held ∙ refuses w.pack (held_at_rest (with_seen before s) old w rests held) in
    subst (λ (meant : Option Source). new (run number job.files cards meant w)) (sym there.1)
    (subst (λ (outcome : Result FilesInUse HaltCode). new (run_over number cards there.0 outcome w)) (sym same) (shows w held))
files_refused s (Err _) code number job cards date program before old new found is_date rests refuses shows = tt

-- a job whose files are opened is at work
pub files_opened : (s : Shown) {T E : Type 0} (result : Result T E) (job_files : JobFiles) (number : ℕ) (job : Job) (cards date : List _) (program : Program) (cycle : Stepper) (before after : Seen) (old : Level) (library : _) (new : World → Type 0)
    → get same_name old.library job.program ≡ Some program
    → IsFor program cycle
    → HasSame old.library library
    → date ≡ old.date
    → old.job ≡ None
    → ((files : Files) → HoldsFiles old.id [] before files
    → HoldsStarted old.id job_files.files.items after (opened (record { statements = job.files; switches = old.switches; date = date }) program.files.items files))
    → OnOk result ((w : World) (source : Source) (in_use : FilesInUse) → RunsFor cycle source → HoldsParts (record old { library = library }) (with_seen before s) w → HoldsInUse old.id job_files.files.items after in_use
    → new (at_work (record { number = number; source = source; cards = cards; files = in_use.job_files; past = [] }) (record w { pack = in_use.files })))
    → OnOk result (Becomes (λ w. run number job.files cards (w.library job.program) w) (HoldsParts old (with_seen before s)) new)
files_opened s (Ok _) job_files number job cards date program cycle before after old library new found is_for same is_date rests starts goes = λ w held.
    let there = source_of_program (with_seen before s) old job.program program w found held in
    subst (λ (meant : Option Source). new (run number job.files cards meant w)) (sym there.1)
    (by w held there.0 there.2 (opened (settings job.files w) there.0.files w.pack)
    (subst (HoldsStarted old.id job_files.files.items after) (sym (same_opening (with_seen before s) old job date program there.0 w is_date there.2 held)) (starts w.pack (held_at_rest (with_seen before s) old w rests held))))
  where
    by : (w : World) → HoldsParts old (with_seen before s) w → (source : Source) → Stands program source → (outcome : Result FilesInUse HaltCode) → HoldsStarted old.id job_files.files.items after outcome
        → new (run_over number cards source outcome w)
    by w held source stands (Ok in_use) starts' = goes w source in_use (is_for source stands) (parts_restocked (with_seen before s) old library w same held) starts'
    by w held source stands (Err code) starts' = absurd starts'
files_opened s (Err _) job_files number job cards date program cycle before after old library new found is_for same is_date rests starts goes = tt

-- its cycle is at the beginning of the whole run
pub at_beginning : (s : Shown) {T E : Type 0} (result : Result T E) (job : OpenJob) (cards : List (List ℕ)) (before after : Seen) (old middle : Level) (new : World → Type 0)
    → slice_range old.deck job.next job.end ≡ cards
    → ((source : Source) → RunsFor job.cycle source → (answers : List Answer) → rest source job.cycle answers ≡ Req source old.switches old.date answers)
    → middle ≡ record old { job = Some job }
    → OnOk result (AtWorkBecomes at_work (HoldsParts middle (with_seen after s)) new)
    → OnOk result ((w : World) (source : Source) (in_use : FilesInUse) → RunsFor job.cycle source → HoldsParts old (with_seen before s) w → HoldsInUse old.id job.files.files.items after in_use
    → new (at_work (record { number = job.number; source = source; cards = cards; files = in_use.job_files; past = [] }) (record w { pack = in_use.files })))
at_beginning s (Ok _) job cards before after old middle new are_cards starts opens stands_then = λ w source in_use stands held in_files.
    let meant : JobAtWork = at source in_use in
    let there : World = record w { pack = in_use.files; job = Some meant } in
    subst new (standing_same (pending meant w) meant (record w { pack = in_use.files }) (Some meant))
    (stands_then there meant refl (subst (λ (level : Level). HoldsParts level (with_seen after s) there) (sym opens) (begun w source in_use stands held in_files)))
  where
    at : Source → FilesInUse → JobAtWork
    at source in_use = record { number = job.number; source = source; cards = cards; files = in_use.job_files; past = [] }

    begun : (w : World) (source : Source) (in_use : FilesInUse) → RunsFor job.cycle source → HoldsParts old (with_seen before s) w → HoldsInUse old.id job.files.files.items after in_use
        → HoldsParts (record old { job = Some job }) (with_seen after s) (record w { pack = in_use.files; job = Some (at source in_use) })
    begun w source in_use stands held in_files =
        record {
          cards = held.cards;
          jobs = held.jobs;
          number = held.number;
          library = held.library;
          switches = held.switches;
          date = held.date;
          pack = in_files.files;
          job = record {
            number = refl;
            cards = sym are_cards;
            files = in_files.job_files;
            follows = record {
              stands = stands;
              runs = λ answers. starts source stands answers ∙ ap (λ d. Req source old.switches d answers) (sym held.date) ∙ ap (λ n. Req source n w.date answers) (sym held.switches);
            };
          };
          lines = record { printed = held.lines.printed; drained_lines = held.lines.drained_lines; quota = held.lines.quota };
          halts = held.halts;
        }
at_beginning s (Err _) job cards before after old middle new are_cards starts opens stands_then = tt

-- ---- what is true of it whatever it holds
pub ready_at_beginning : (job : OpenJob) (pack : Seen) (old middle : Level)
    → middle ≡ record old { job = Some job }
    → IsOfLibrary old.library (Some job)
    → AreFilesReady old.id job.files.files.items pack
    → job.files.level ≡ old.id
    → AreOfLines old.switches (files_of job.cycle) job.files.files.items
    → job.places.items ≡ places_of (files_of job.cycle) job.files.files.items
    → IsReady middle pack
ready_at_beginning job pack old middle is of ready level lines places =
    subst (λ (l : Level). IsReady l pack) (sym is)
    (record { files = ready; job = record { level_of_files = level; switches = old.switches; lines = lines; places = places }; of_library = of })

-- the files of a cycle of a program are those of the program
pub files_for : (program : Program) (cycle : Stepper) → IsFor program cycle → files_of cycle ≡ program.files.items
files_for program cycle is_for = files_stand cycle (source_named program) (is_for (source_named program) refl) ∙ files_of_source program (source_named program) refl

-- ---- a level before its first entry
none_in : (contents : List (List ℕ)) → lines_in [] contents ≡ []
unfolding lines_in
none_in contents = refl

pub holds_fresh : (level : Level) (id : LevelId) (deck : List (List ℕ)) (beside : Around) → IsFresh beside
    → level.id ≡ id → level.deck ≡ deck → level.next ≡ 0 → level.number ≡ 1 → ((name : Name) → get same_name level.library name ≡ None) → level.switches ≡ 0 → level.date ≡ replicate 6 0xf0
    → level.job ≡ None → level.lines.items ≡ [] → level.halts ≡ []
    → Holds level beside (at_start id beside.areas.header beside.state.contents deck)
holds_fresh level id deck beside fresh is_id is_deck first number empty switches date rests lines halts = record {
  parts = record {
    cards = sym is_deck;
    jobs = ap (λ (cards : List (List ℕ)). jobs_from cards 0) (sym is_deck) ∙ ap (jobs_from level.deck) (sym first);
    number = sym number;
    library = λ name. subst (λ (of : Option Program). Stocks of None) (sym (empty name)) tt;
    switches = sym switches;
    date = sym date;
    pack =
        subst (λ (l : LevelId). HoldsFiles l (open_files level.job) (seen beside.areas beside.state.contents) (files_on id beside.areas.header beside.state.contents)) (sym is_id)
        (subst (λ (items : List OpenFile). HoldsFiles id items (seen beside.areas beside.state.contents) (files_on id beside.areas.header beside.state.contents)) (sym (ap open_files rests))
        (subst (λ (areas : Areas). HoldsFiles id [] (seen areas beside.state.contents) (files_on id beside.areas.header beside.state.contents)) (sym fresh.areas)
        (holds_mounted id beside.areas.header beside.state.contents).files));
    job = subst (λ (o : Option OpenJob). HoldsAtWork level.deck o (at_start id beside.areas.header beside.state.contents deck) None) (sym rests) tt;
    lines = record {
      printed = sym (ap (λ (all : List Printed). all ++ queue_of level.id beside.blocks beside.state.contents) lines ∙ no_queue level.id);
      drained_lines = sym (ap length lines);
      quota = sym (fresh.quotas level.id ∙ ap (λ (l : LevelId). header_quota l beside.areas.header) is_id);
    };
    halts = sym halts;
  };
  asked = λ job there. absurd (none-some job there);
}
  where
    no_queue : (l : LevelId) → queue_of l beside.blocks beside.state.contents ≡ []
    no_queue l = ap (λ (blocks : List ℕ). lines_in blocks beside.state.contents) (fresh.queues l) ∙ none_in beside.state.contents
