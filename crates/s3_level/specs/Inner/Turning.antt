-- A turn, step by step. Only contracts of private functions use these definitions. Serving and Solo define what a turn does to a world, and
-- Holds when a level represents one.
use Rattle.std.specs.Prelude.{◌≡◌, ◌<◌, ℕ, length, Bool, List, ◌∷◌, ◌++◌, replicate, true, false, IsTrue, Option, Some, None, Result, Ok, Err}
use Rattle.s3_operator.specs.declared.halt_code.HaltCode.{HaltCode}
use Rattle.s3_operator.specs.Replies.{is_allowed}
use Rattle.s3_meaning.specs.Requests.{Request, Ask, End, Jump, Done}
use Rattle.s3_cycle.specs.Inner.Following.{Resumes, StandsFor, asked, waits, is_fit}
use Rattle.s3_meaning.specs.Source.{Source}
use Rattle.s3_cycle.specs.declared.request.FileCall.{FileCall}
use Rattle.s3_cycle.specs.declared.request.Request.{Request as ProgramRequest}
use Rattle.s3_cycle.specs.declared.request.Request.TheVariants as asks
use Rattle.s3_cycle.specs.declared.request.Answer.{Answer as ProgramAnswer}
use Rattle.s3_ocl.specs.declared.faults.FaultyJob.{FaultyJob}
use Rattle.s3_ocl.specs.declared.jobs.OclFault.{OclFault}
use Rattle.s3_ocl.specs.declared.jobs.OclFault.TheVariants.{NoMemory, Faulty}
use Rattle.s3_ocl.specs.Jobs.{Job}
use Rattle.s3_ocl.specs.Streams.{jobs_from}
use Rattle.s3_solo.specs.declared.action.Action.TheVariants.{Turn}
use Rattle.s3_solo.specs.declared.action.Did.{Did}
use Rattle.s3_solo.specs.declared.action.Did.TheVariants.{Acted}
use Rattle.s3_level.specs.declared.job.OpenJob.{OpenJob}
use Rattle.s3_level.specs.declared.next.Next.{Next}
use Rattle.s3_level.specs.declared.taken.Taken.{Taken}
use Rattle.s3_level.specs.declared.next.Next.TheVariants.{Halts, IsOver, GoesOn}
use Rattle.s3_solo.specs.World.{World, JobAtWork}
use Rattle.s3_solo.specs.Serving.{Outcome, pending, standing_at, started, with_jobs, begun, with_answer, in_use, file_served}
use Rattle.s3_job_files.specs.Files.{FilesInUse}
use Rattle.s3_job_files.specs.Inner.Holds.{Seen, Holds as HoldsInUse}
use Rattle.s3_job_files.specs.declared.file.OpenFile.{OpenFile}
use Rattle.s3_slots.specs.Labels.{is_indexed}
use Rattle.s3_cycle.specs.declared.request.Sought.{Sought}
use Rattle.s3_cycle.specs.declared.request.Sought.TheVariants as sought
use Rattle.s3_job_files.specs.Requests as files
use Rattle.s3_job_files.specs.Requests.{Served}
use Rattle.s3_solo.specs.Solo.{step_of}
use Rattle.s3_level.specs.Inner.Holds.{Repeats, Steps, StopsAtEnd}

-- ---- the running job
-- the pending request of an open job, and the same request in the source's terms
abbrev pub request_by : Option OpenJob → Option ProgramRequest
request_by None = None
request_by (Some job) = Some (asked job.cycle)

abbrev pub waits_by : Option OpenJob → Option Request
waits_by None = None
waits_by (Some job) = Some (waits job.cycle)

-- the halt of a request for a reply
abbrev pub code_asked : ProgramRequest → Option HaltCode
code_asked (asks.Ask code) = Some code
code_asked _ = None

-- if a job is running, this is the pending request of the world's job
abbrev pub Pends : Option Request → World → Type 0
Pends None w = w.job ≡ None
Pends (Some request) w = (job : JobAtWork) × (w.job ≡ Some job) × (pending job w ≡ request)

-- an answer that the pending request of the open job can have
abbrev pub FitsJob : Option OpenJob → ProgramAnswer → Type 0
FitsJob None answer = ⊥
FitsJob (Some job) answer = IsTrue (is_fit job.cycle answer)

-- what happens next to the world's job: its halt is shown, it is over, or it waits for a turn
abbrev pub Comes : Next → JobAtWork → World → Type 0
Comes (Halts number code) job w = (number ≡ job.number) × (pending job w ≡ Ask code)
Comes IsOver job w = pending job w ≡ End true
Comes GoesOn job w = standing_at (pending job w) job w ≡ record w { job = Some job }

-- the world's job, if there is one, asks for a reply and allows this digit
abbrev pub MayReply : (digit : ℕ) → World → Type 0
MayReply digit w = (job : JobAtWork) → w.job ≡ Some job → (code : HaltCode) × (pending job w ≡ Ask code) × (is_allowed code digit ≡ true)

-- each represented world with a running job becomes the result of this function
abbrev pub AtWorkBecomes : (JobAtWork → World → World) → (World → Type 0) → (World → Type 0) → Type 0
AtWorkBecomes change old new = (w : World) (job : JobAtWork) → w.job ≡ Some job → old w → new (change job w)

-- so many jumps are answered, after the earlier answers
abbrev pub with_done : (jumps : ℕ) → JobAtWork → JobAtWork
with_done jumps job = record job { past = job.past ++ replicate jumps Done }

-- In each represented world with a running job, so many jumps are pending, one after the other. After their answers the world becomes the
-- result of this function.
abbrev pub JumpsBecome : (jumps : ℕ) → (JobAtWork → World → World) → (World → Type 0) → (World → Type 0) → Type 0
JumpsBecome jumps change old new =
    (w : World) (job : JobAtWork) → w.job ≡ Some job → old w
    → ((n : ℕ) → n < jumps → pending (with_done n job) w ≡ Jump) × new (change (with_done jumps job) w)

-- each represented world with a running job is served so; the call fails only if it acts
abbrev pub Serves : {E : Type 0} → (JobAtWork → World → Outcome) → Result Did E → (World → Type 0) → (World → Type 0) → Type 0
Serves serve (Ok did) old new = (w : World) (job : JobAtWork) → w.job ≡ Some job → old w → (did ≡ (serve job w).did) × new (serve job w).world
Serves serve (Err _) old new = (w : World) (job : JobAtWork) → w.job ≡ Some job → old w → (serve job w).did ≡ Acted

-- each represented world with a running job is served so, and the call acts
abbrev pub Acts : (JobAtWork → World → Outcome) → (World → Type 0) → (World → Type 0) → Type 0
Acts serve old new = (w : World) (job : JobAtWork) → w.job ≡ Some job → old w → (Acted ≡ (serve job w).did) × new (serve job w).world

-- ---- requests to files
-- the request is one to a file
pub record AsksFile (request : Option ProgramRequest) : Type 0 where
  pub file : ℕ
  pub call : FileCall
  pub is : request ≡ Some (asks.File file call)

-- The files of an open job serve its pending request, and its run continues with the answer. Or the job doesn't have the file, and nothing
-- changes.
abbrev pub ServesFile : (served : Bool) → (old new : OpenJob) → (before after : Seen) → Type 0
ServesFile true old new before after =
    (in_use : FilesInUse) → HoldsInUse old.files.level old.files.files.items before in_use
    → (one : Served) × (files.served (waits old.cycle) in_use ≡ Some one) × (HoldsInUse old.files.level new.files.files.items after one.in_use × Resumes old.cycle new.cycle one.answer)
ServesFile false old new before after =
    ((in_use : FilesInUse) → HoldsInUse old.files.level old.files.files.items before in_use → files.served (waits old.cycle) in_use ≡ None)
    × (new ≡ old) × (after ≡ before)

-- the job has the file of its pending request
abbrev pub HasFile : OpenJob → Seen → Type 0
HasFile job pack =
    (in_use : FilesInUse) → HoldsInUse job.files.level job.files.files.items pack in_use → (one : Served) × (files.served (waits job.cycle) in_use ≡ Some one)

-- a key that a CHAIN looks for has the length of the file's keys, and the file has an index; any record number will do
abbrev pub SuitsSought : Sought → OpenFile → Type 0
SuitsSought (sought.Key key) file = (is_indexed file.label.organization ≡ true) × (length key.items ≡ file.label.key_length)
SuitsSought (sought.RecordNumber number) file = Unit {0}

-- the job keeps its number, its program, the places of its cards, its level, and what its cycle represents
pub record KeepsPlace (old new : OpenJob) : Type 0 where
  pub number : new.number ≡ old.number
  pub program : new.program ≡ old.program
  pub next : new.next ≡ old.next
  pub end : new.end ≡ old.end
  pub level : new.files.level ≡ old.files.level
  pub stands : (source : Source) → StandsFor old.cycle source → StandsFor new.cycle source

-- In each represented world with a running job, the files of the job serve its request and the answer comes last. Or the request names none
-- of the files, and the world is unchanged.
abbrev pub FileServed : (served : Bool) → (old new : World → Type 0) → Type 0
FileServed true old new =
    (w : World) (job : JobAtWork) → w.job ≡ Some job → old w
    → (one : Served) × (files.served (pending job w) (in_use job w) ≡ Some one)
    × new (record w { pack = one.in_use.files; job = Some (with_answer one.answer (record job { files = one.in_use.job_files })) })
FileServed false old new = (w : World) (job : JobAtWork) → w.job ≡ Some job → old w → (files.served (pending job w) (in_use job w) ≡ None) × new w

-- in each represented world, the running job has the file of its request
abbrev pub FileThere : (World → Type 0) → Type 0
FileThere old = (w : World) (job : JobAtWork) → w.job ≡ Some job → old w → (one : Served) × (files.served (pending job w) (in_use job w) ≡ Some one)

-- how a request to a file is served
abbrev pub on_files : JobAtWork → World → Outcome
on_files job w = file_served (files.served (pending job w) (in_use job w)) job w

-- ---- the start of a job
-- the next job of a deck, or its fault, unless memory ran out
abbrev pub NextIs : List (List ℕ) → ℕ → Result Job OclFault → Type 0
NextIs deck from (Ok job) = jobs_from deck from ≡ Ok job ∷ jobs_from deck job.after
NextIs deck from (Err (Faulty faulty)) = jobs_from deck from ≡ Err faulty ∷ jobs_from deck faulty.after
NextIs deck from (Err NoMemory) = Unit {0}

-- each represented world without a running job begins its next job; the call fails only if there is one
abbrev pub Begins : {E : Type 0} → Result Did E → (World → Type 0) → (World → Type 0) → Type 0
Begins (Ok did) old new = (w : World) → w.job ≡ None → old w → (did ≡ (begun w.deck.jobs w).did) × new (begun w.deck.jobs w).world
Begins (Err _) old new = (w : World) → w.job ≡ None → old w → (begun w.deck.jobs w).did ≡ Acted

-- each represented world without a running job becomes the result of this function
abbrev pub AtRestBecomes : (World → World) → (World → Type 0) → (World → Type 0) → Type 0
AtRestBecomes change old new = (w : World) → w.job ≡ None → old w → new (change w)

-- each represented world without a running job starts this job, the first of those left
abbrev pub Starts : Result Job FaultyJob → (behind : List (Result Job FaultyJob)) → (World → Type 0) → (World → Type 0) → Type 0
Starts job behind old new = AtRestBecomes (λ w. started w.deck.number job (with_jobs behind w)) old new

-- ---- a turn
-- each represented world takes its turn; the call fails only if the turn acts
abbrev pub Turns : {E : Type 0} → Result Did E → (World → Type 0) → (World → Type 0) → Type 0
Turns (Ok did) old new = Steps Turn did old new
Turns (Err _) old new = (w : World) → old w → (step_of w Turn).did ≡ Acted

-- each represented world takes so many turns, which stop when a job ends; the call fails only if the first turn acts
abbrev pub TakesTurns : {E : Type 0} → Result Taken E → (World → Type 0) → (World → Type 0) → Type 0
TakesTurns (Ok taken) old new = Repeats Turn taken.times taken.did old new × StopsAtEnd Turn taken.times old
TakesTurns (Err _) old new = (w : World) → old w → (step_of w Turn).did ≡ Acted
