-- What the start of a job and each request of a job do to the world.
use Rattle.std.specs.Prelude.{ℕ, ◌-◌, ◌^◌, Bool, true, false, List, [], ◌∷◌, ◌++◌, drop, map, slice_range, slice_index_or, sum_by, Option, Some, None, unwrap_or, Result, Ok, Err, if◌then◌else◌}
use Rattle.s3_cards.specs.declared.name.Name.{Name}
use Rattle.s3_lines.specs.declared.sheet.Line.{Line}
use Rattle.s3_lines.specs.declared.diagnostic.Diagnostic.{Diagnostic}
use Rattle.s3_sheets.specs.Lines.{lines_of}
use Rattle.s3_sheets.specs.Sheets.{sheet_diagnostics}
use Rattle.s3_cards.specs.Names.{same_name}
use Rattle.s3_meaning.specs.Source.{Source, source_of, program_name}
use Rattle.s3_meaning.specs.Requests.{Request, Card, Read, Chain, Append, Add, Update, Print, Jump, Ask, End, Answer, Found, Nothing, Done}
use Rattle.s3_meaning.specs.Environment.{switch_on}
use Rattle.s3_meaning.specs.Cycle.{Req}
use Rattle.s3_job_files.specs.Closing.{files_closed}
use Rattle.s3_job_files.specs.Files.{FilesInUse}
use Rattle.s3_job_files.specs.Requests as files
use Rattle.s3_job_files.specs.Requests.{Served}
use Rattle.s3_opening.specs.Opening.{Settings, opened}
use Rattle.s3_ocl.specs.declared.contents.FileStatement.{FileStatement}
use Rattle.s3_diagnose.specs.Diagnostics.{compile_diagnostics}
use Rattle.s3_ocl.specs.declared.values.Switch.{Switch}
use Rattle.s3_ocl.specs.declared.values.Switch.TheVariants.{On, Off, Leave}
use Rattle.s3_ocl.specs.declared.faults.FaultyJob.{FaultyJob}
use Rattle.s3_ocl.specs.Faults.{fault_number}
use Rattle.s3_ocl.specs.Jobs.{Job, is_compile}
use Rattle.s3_solo.specs.declared.action.Did.{Did}
use Rattle.s3_solo.specs.declared.action.Did.TheVariants.{Acted, Idle}
use Rattle.s3_operator.specs.declared.halt_code.HaltCode.{HaltCode}
use Rattle.s3_operator.specs.declared.halt_code.HaltCode.TheVariants.{FaultyJob as FaultyStatements, NoProgram, FaultySource}
use Rattle.s3_solo.specs.Lines.{has_room, with_line}
use Rattle.s3_operator.specs.Halts.{with_halt}
use Rattle.s3_solo.specs.World.{World, JobAtWork, number_after}

-- the answer to an entry, and the world after it
pub record Outcome : Type 0 where
  pub did : Did
  pub world : World

abbrev pub idle : World → Outcome
idle w = record { did = Idle; world = w }

abbrev pub acted : World → Outcome
acted w = record { did = Acted; world = w }

-- ---- halts
abbrev pub halting : ℕ → HaltCode → List (ℕ × ℕ) → World → World
halting number code details w = record w { halts = with_halt number code details w.halts }

-- ---- the running job
-- the pending request
abbrev pub pending : JobAtWork → World → Request
pending job w = Req job.source w.switches w.date job.past

-- a job is over: its files are closed
abbrev pub job_over : JobAtWork → World → World
job_over job w = record w { pack = files_closed job.files w.pack; job = None }

-- the running job, if there is one, is over
abbrev pub over : Option JobAtWork → World → World
over None w = w
over (Some job) w = job_over job w

abbrev pub job_ended : World → World
job_ended w = over w.job w

-- if the job asks for a reply, its halt is shown; if a reply has ended it, it is over at once
abbrev pub standing_at : Request → JobAtWork → World → World
standing_at (Ask code) job w = halting job.number code [] (record w { job = Some job })
standing_at (End true) job w = job_over job w
standing_at _ job w = record w { job = Some job }

abbrev pub at_work : JobAtWork → World → World
at_work job w = standing_at (pending job w) job w

-- the pending request has this answer
abbrev pub with_answer : Answer → JobAtWork → JobAtWork
with_answer answer job = record job { past = job.past ++ answer ∷ [] }

abbrev pub answered : Answer → JobAtWork → World → World
answered answer job w = at_work (with_answer answer job) w

-- the next data card, if there is one
abbrev pub card_answer : List (List ℕ) → Answer
card_answer [] = Nothing
card_answer (card ∷ cards) = Found card

abbrev pub with_card_read : JobAtWork → JobAtWork
with_card_read job = record job { cards = drop 1 job.cards }

-- a line is added at the end
abbrev pub line_put : (page line : ℕ) → List ℕ → World → World
line_put page line text w = record w { lines = with_line (record { page = page; line = line; text = text }) w.lines }

-- a line is printed, unless as many lines are queued as the level's quota
abbrev pub line_printed : (page line : ℕ) → List ℕ → JobAtWork → World → Outcome
line_printed page line text job w = if has_room w.lines then acted (answered Done job (line_put page line text w)) else idle w

-- ---- files
-- the files that the job uses, over those of the world
abbrev pub in_use : JobAtWork → World → FilesInUse
in_use job w = record { files = w.pack; job_files = job.files }

-- A request to a file has this answer, and leaves these files. A job has all files that its requests can name, so the last case never
-- occurs.
abbrev pub file_served : Option Served → JobAtWork → World → Outcome
file_served None job w = idle w
file_served (Some served) job w = acted (answered served.answer (record job { files = served.in_use.job_files }) (record w { pack = served.in_use.files }))

-- the pending request is served; a request for a reply waits
abbrev pub served : Request → JobAtWork → World → Outcome
served Card job w = acted (answered (card_answer job.cards) (with_card_read job) w)
served (Print page line text) job w = line_printed page line text job w
served Jump job w = acted (answered Done job w)
served (End at_once) job w = acted (job_over job w)
served (Ask code) job w = idle w
served (Read file record_length) job w = file_served (files.served (Read file record_length) (in_use job w)) job w
served (Chain file record_length sought) job w = file_served (files.served (Chain file record_length sought) (in_use job w)) job w
served (Append file bytes) job w = file_served (files.served (Append file bytes) (in_use job w)) job w
served (Add file bytes) job w = file_served (files.served (Add file bytes) (in_use job w)) job w
served (Update file current changes) job w = file_served (files.served (Update file current changes) (in_use job w)) job w

-- ---- the start of a job
-- the first list, unless it is empty
abbrev pub first_else : List Diagnostic → List Diagnostic → List Diagnostic
first_else [] others = others
first_else (diagnostic ∷ more) others = diagnostic ∷ more

-- the diagnostics of a source: those of its cards; or, if its cards have none, those of the whole source
abbrev pub diagnostics_of : (run_card from : ℕ) → List (List ℕ) → List Diagnostic
diagnostics_of run_card from cards = first_else (sheet_diagnostics from cards) (compile_diagnostics run_card (lines_of from cards))

abbrev pub details_of : List Diagnostic → List (ℕ × ℕ)
details_of diagnostics = map (λ diagnostic. (diagnostic.card, diagnostic.number)) diagnostics

-- a source goes into the library under its program's name, and replaces an earlier one of that name
abbrev pub stocked : Name → Source → World → World
stocked name source w = record w { library = λ other. if same_name name other then Some source else w.library other }

-- a source without diagnostics goes into the library
abbrev pub compiled : ℕ → List Line → List Diagnostic → World → World
compiled number lines [] w = stocked (program_name lines) (source_of lines) w
compiled number lines (first ∷ more) w = halting number FaultySource (details_of (first ∷ more)) w

-- a source is started over its files, or halts because of one of them
abbrev pub run_over : ℕ → List (List ℕ) → Source → Result FilesInUse HaltCode → World → World
run_over number cards source (Err code) w = halting number code [] w
run_over number cards source (Ok opening) w =
    at_work (record { number = number; source = source; cards = cards; files = opening.job_files; past = [] }) (record w { pack = opening.files })

abbrev pub settings : List FileStatement → World → Settings
settings statements w = record { statements = statements; switches = w.switches; date = w.date }

-- a program of the library is started
abbrev pub run : ℕ → List FileStatement → List (List ℕ) → Option Source → World → World
run number statements cards None w = halting number NoProgram [] w
run number statements cards (Some source) w = run_over number cards source (opened (settings statements w) source.files w.pack) w

-- the data of a job: the cards after its RUN card
abbrev pub data_of : List (List ℕ) → Job → List (List ℕ)
data_of deck job = slice_range deck job.data_from job.data_to

-- the source on these cards is compiled; the first card has this place in the deck
abbrev pub compiled_data : (number run_card from : ℕ) → List (List ℕ) → World → World
compiled_data number run_card from cards w = compiled number (lines_of from cards) (diagnostics_of run_card from cards) w

-- the number of a job's RUN card, the last card before its data
abbrev pub run_card_of : Job → ℕ
run_card_of job = job.data_from

-- a job compiles its data, or starts a program that reads them
abbrev pub performed : ℕ → Job → List (List ℕ) → World → World
performed number job cards w =
    if is_compile job
    then compiled_data number (run_card_of job) job.data_from cards w
    else run number job.files cards (w.library job.program) w

-- ---- date and switches
-- a switch that was on or off, after what a job does with it
abbrev pub is_on_after : Switch → Bool → Bool
is_on_after On was_on = true
is_on_after Off was_on = false
is_on_after Leave was_on = was_on

-- what a job does with one of U1 to U8
abbrev pub switch_of : List Switch → ℕ → Switch
switch_of switches n = slice_index_or switches (n - 1) Leave

-- the bit of one of U1 to U8 if it is on after what a job does with it, else 0
abbrev pub bit_after : List Switch → ℕ → ℕ → ℕ
bit_after switches was n = if is_on_after (switch_of switches n) (switch_on was n) then 2 ^ (8 - n) else 0

-- U1 to U8 after what a job does with each
abbrev pub switches_after : List Switch → ℕ → ℕ
switches_after switches was = sum_by (bit_after switches was) (1 ∷ 2 ∷ 3 ∷ 4 ∷ 5 ∷ 6 ∷ 7 ∷ 8 ∷ [])

-- The date is the job's, if it gives one. Each switch is as the job sets it. Both stay for later jobs.
abbrev pub with_settings : Job → World → World
with_settings job w = record w { switches = switches_after job.switches w.switches; date = unwrap_or job.date w.date }

-- ---- the next job
-- a job without a fault sets date and switches, even if it then halts; a faulty job sets nothing and halts
abbrev pub started : ℕ → Result Job FaultyJob → World → World
started number (Ok job) w = performed number job (data_of w.deck.cards job) (with_settings job w)
started number (Err faulty) w = halting number FaultyStatements ((faulty.card, fault_number faulty.fault) ∷ []) w

-- the next job of the deck is taken
abbrev pub with_jobs : List (Result Job FaultyJob) → World → World
with_jobs jobs w = record w { deck = record w.deck { jobs = jobs; number = number_after w.deck.number } }

abbrev pub begun : List (Result Job FaultyJob) → World → Outcome
begun [] w = idle w
begun (job ∷ jobs) w = acted (started w.deck.number job (with_jobs jobs w))
