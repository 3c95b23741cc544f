-- Requests of an open job to its files: they are served as is meant, and their answers fit.
use Rattle.std.proofs.Common.{◌≡◌, ◌<◌, ℕ, zero, suc, Bool, true, false, List, [], ◌∷◌, length, map, refl, sym, ap, ◌∙◌, subst, arith, IsTrue}
use Rattle.std.specs.Prelude.{Option, Some, None, is_some, slice_get, Result, Ok, Err, IfOk}
use Rattle.std.proofs.lemmas.Bool.Decides.{nat_tests}
use Rattle.std.proofs.lemmas.Option.{none-some}
use Rattle.std.specs.Result.{IsErrAnd}
use Rattle.s3_cards.specs.declared.levels.LevelId.{LevelId}
use Rattle.s3_cards.specs.declared.name.Name.{Name}
use Rattle.s3_store.specs.Inner.State.{PoolState}
use Rattle.s3_store.specs.declared.sector_fault.SectorFault.{SectorFault}
use Rattle.s3_labels.specs.Inner.Areas.{Areas}
use Rattle.s3_match.specs.Inner.Types.{name_of_file}
use Rattle.s3_meaning.specs.Output.{filled}
use Rattle.s3_meaning.specs.Requests.{Answer}
use Rattle.s3_meaning.specs.Inner.Requests.{fits, fits_record}
use Rattle.s3_meaning.specs.Requests.{Sought as MeantSought}
use Rattle.s3_meaning.specs.declared.current.Current.{Current}
use Rattle.s3_job_files.specs.Inner.Calls.{found_answer, put_answer}
use Rattle.s3_job_files.specs.Files.{FilesInUse, FileAtWork, place_named}
use Rattle.s3_job_files.specs.Inner.Holds.{AllAt, Seen, seen, IsReady as AreFilesReady, Holds as HoldsInUse, Meets, Serves as Serving, job_file_of}
use Rattle.s3_job_files.specs.Inner.Packs.{LeavesPack}
use Rattle.s3_job_files.specs.Inner.Records.{changes_of}
use Rattle.s3_job_files.specs.Requests as meant
use Rattle.s3_job_files.specs.Requests.{Served, served_named, served_on, record_read, record_chained, record_appended, record_added, record_updated}
use Rattle.s3_job_files.specs.declared.file.OpenFile.{OpenFile}
use Rattle.s3_job_files.specs.declared.records.Put.{Put}
use Rattle.s3_job_files.proofs.Starting.{none_served, served_at, serves_named}
use Rattle.s3_job_files.proofs.Held.{at_work, standing_file}
use Rattle.s3_cycle.specs.declared.request.Answer.{Answer as ProgramAnswer}
use Rattle.s3_cycle.specs.declared.request.FileCall.{FileCall}
use Rattle.s3_cycle.specs.declared.request.FileCall.TheVariants as calls
use Rattle.s3_cycle.specs.declared.request.Request.TheVariants as asks
use Rattle.s3_cycle.specs.declared.request.Sought.{Sought}
use Rattle.s3_cycle.specs.declared.stepper.Stepper.{Stepper}
use Rattle.s3_cycle.specs.Inner.Following.{Resumes, asked, is_fit, put, waits}
use Rattle.s3_cycle.specs.Inner.Requests.{Allows, answer_of, request_to, sought_of}
use Rattle.s3_cycle.proofs.FollowLemmas.{waits_file}
use Rattle.s3_level.specs.declared.job.OpenJob.{OpenJob}
use Rattle.s3_level.specs.Inner.Calls.{CanServe, KeepsOpened, ServesJob}
use Rattle.s3_level.specs.Inner.Turning.{HasFile, KeepsPlace, ServesFile, SuitsSought}
use Rattle.s3_level.proofs.Leaving.{job_failed, job_passed, job_served}
use Rattle.s3_level.proofs.OfLines.{IsCalled, job_stays, place_at, place_within}

is_none_within : {X : Type 0} (xs : List X) (i : ℕ) → i < length xs → slice_get xs i ≡ None → ⊥
is_none_within [] i within none = omega (arith, within)
is_none_within (x ∷ xs) zero within none = none-some x (sym none)
is_none_within (x ∷ xs) (suc i) within none = is_none_within xs i (omega (arith, within)) none

-- ---- the call as the files have it
-- how a file serves a call that puts out these positions
abbrev pub serve_of : FileCall → (positions : List (Option ℕ)) → FileAtWork → FilesInUse → Served
serve_of (calls.Read size) positions = record_read
serve_of (calls.Chain size what) positions = record_chained (sought_of what)
serve_of calls.Append positions = record_appended (filled positions)
serve_of calls.Add positions = record_added (filled positions)
serve_of (calls.Update current) positions = record_updated current positions

served_call : (name : Name) (positions : List (Option ℕ)) (call : FileCall) (in_use : FilesInUse) → meant.served (request_to name positions call) in_use ≡ served_named name (serve_of call positions) in_use
unfolding meant.served
served_call name positions (calls.Read size) in_use = refl
served_call name positions (calls.Chain size what) in_use = refl
served_call name positions calls.Append in_use = refl
served_call name positions calls.Add in_use = refl
served_call name positions (calls.Update current) in_use = refl

-- a pending request to the file of this name, served so
record IsRequest (c : Stepper) (name : Name) (serve : FileAtWork → FilesInUse → Served) : Type 0 where
  served : (in_use : FilesInUse) → meant.served (waits c) in_use ≡ served_named name serve in_use

is_request : (c : Stepper) (file : ℕ) (call : FileCall) → asked c ≡ asks.File file call → IsRequest c (name_of_file c.program file) (serve_of call (put c))
is_request c file call is = record { served = λ in_use. ap (λ request. meant.served request in_use) (waits_file c file call is) ∙ served_call (name_of_file c.program file) (put c) call in_use }

-- ---- what serves it
-- the call at the place of that name serves it, and the run goes on with its answer
served_so : (old new : OpenJob) (before after : Seen) (name : Name) (serve : FileAtWork → FilesInUse → Served) (place : ℕ) (answer : Answer)
    → IsRequest old.cycle name serve
    → place_named name (map job_file_of old.files.files.items) ≡ Some place
    → Serving serve place answer (HoldsInUse old.files.level old.files.files.items before) (HoldsInUse old.files.level new.files.files.items after)
    → Resumes old.cycle new.cycle answer
    → ServesFile true old new before after
served_so old new before after name serve place answer is found serves resumes in_use held =
    by (served_named name serve in_use) (is.served in_use) (serves_named old.files.level old.files.files.items before name place serve answer (HoldsInUse old.files.level new.files.files.items after) found serves in_use held)
  where
    by : (o : Option Served) → meant.served (waits old.cycle) in_use ≡ o → Meets answer (HoldsInUse old.files.level new.files.files.items after) o
        → (one : Served) × (meant.served (waits old.cycle) in_use ≡ Some one) × (HoldsInUse old.files.level new.files.files.items after one.in_use × Resumes old.cycle new.cycle one.answer)
    by None e meets = absurd meets
    by (Some one) e meets = (one, e, (meets.1, subst (Resumes old.cycle new.cycle) meets.0 resumes))

-- where no file has the name nothing serves it
none_so : (job : OpenJob) (before : Seen) (name : Name) (serve : FileAtWork → FilesInUse → Served)
    → IsRequest job.cycle name serve
    → place_named name (map job_file_of job.files.files.items) ≡ None
    → (in_use : FilesInUse) → HoldsInUse job.files.level job.files.files.items before in_use → meant.served (waits job.cycle) in_use ≡ None
none_so job before name serve is none in_use held = is.served in_use ∙ none_served job.files.level job.files.files.items before in_use name serve held none

-- where a file has the name something serves it
has_so : (job : OpenJob) (before : Seen) (name : Name) (serve : FileAtWork → FilesInUse → Served) (place : ℕ)
    → AreFilesReady job.files.level job.files.files.items before
    → place < length job.files.files.items
    → IsRequest job.cycle name serve
    → place_named name (map job_file_of job.files.files.items) ≡ Some place
    → HasFile job before
has_so job before name serve place ready within is found in_use held = by (slice_get job.files.files.items place) refl
  where
    by : (o : Option OpenFile) → slice_get job.files.files.items place ≡ o → (one : Served) × (meant.served (waits job.cycle) in_use ≡ Some one)
    by None past = absurd (is_none_within job.files.files.items place within past)
    by (Some file) there = (
      serve (standing_file place file before.contents) in_use,
      is.served in_use ∙ served_at job.files.level job.files.files.items before in_use name place serve held found
          ∙ ap (λ at. served_on serve at in_use) (at_work job.files.level job.files.files.items before in_use place file ready held there),
    )

-- ---- a call at its place
-- what is sought, known
pub key_sought : (items : List OpenFile) (place : ℕ) (what known : Sought) → what ≡ known → AllAt items place (SuitsSought what) → AllAt items place (SuitsSought known)
key_sought items place what known is suits one at = subst (λ w. SuitsSought w one) is (suits one at)

-- what it serves is the same
pub chains_same : {E : Type 0} (result : Result Bool E) (what same_what : MeantSought) (place : ℕ) (answer : Bool → Answer) (old new : FilesInUse → Type 0) → what ≡ same_what
    → IfOk result (λ found. Serving (record_chained what) place (answer found) old new) → IfOk result (λ found. Serving (record_chained same_what) place (answer found) old new)
chains_same result what same_what place answer old new same serves = subst (λ (w : MeantSought). IfOk result (λ found. Serving (record_chained w) place (answer found) old new)) same serves

-- the codes of a record, with their positions, are what is put there
told_again : (positions : List (Option ℕ)) → changes_of (filled positions) (map is_some positions) ≡ positions
told_again [] = refl
told_again (None ∷ positions) = ap (λ (rest : List (Option ℕ)). None ∷ rest) (told_again positions)
told_again (Some code ∷ positions) = ap (λ (rest : List (Option ℕ)). Some code ∷ rest) (told_again positions)

pub updates_told : {E : Type 0} (result : Result Put E) (current : Option Current) (codes : List ℕ) (marks : List Bool) (positions : List (Option ℕ)) (place : ℕ) (old new : FilesInUse → Type 0)
    → codes ≡ filled positions → marks ≡ map is_some positions
    → IfOk result (λ stored. Serving (record_updated current (changes_of codes marks)) place (put_answer stored) old new)
    → IfOk result (λ stored. Serving (record_updated current positions) place (put_answer stored) old new)
updates_told result current codes marks positions place old new codes_are marks_are serves =
    let told : changes_of codes marks ≡ positions = (λ i. changes_of (codes_are i) (marks_are i)) ∙ told_again positions in
    subst (λ (serve : FileAtWork → FilesInUse → Served). IfOk result (λ stored. Serving serve place (put_answer stored) old new)) (λ i. record_updated current (told i)) serves

-- ---- answers that fit
-- a record of the length that is asked for, or none
pub length_fits : (size : ℕ) (found : Bool) (bytes : List ℕ) → length bytes ≡ size → fits_record size (found_answer found bytes) ≡ true
length_fits size true bytes long = grind (arith, nat_tests, long)
length_fits size false bytes long = refl

-- an answer that means one that fits the call
pub call_fits : {job : OpenJob} {slot : ℕ} {call : FileCall} {place : Option ℕ} (answer : ProgramAnswer) (meaning : Answer) → IsCalled job slot call place → answer_of answer ≡ meaning
    → fits (request_to (name_of_file job.cycle.program slot) (put job.cycle) call) meaning ≡ true → IsTrue (is_fit job.cycle answer)
unfolding is_fit
call_fits {job = job} {slot = slot} {call = call} answer meaning called same fitting = ap (fits (waits job.cycle)) same ∙ ap (λ request. fits request meaning) (waits_file job.cycle slot call called.is) ∙ fitting

-- and that is resumed with
pub resumes_meant : (old new : Stepper) (answer : ProgramAnswer) (meaning : Answer) → answer_of answer ≡ meaning → Resumes old new (answer_of answer) → Resumes old new meaning
resumes_meant old new answer meaning same resumes = subst (Resumes old new) same resumes

-- ---- a request to a file, done
-- the pending request is served so by the file at this place, where the job has it
record IsServedAt (job : OpenJob) (serve : FileAtWork → FilesInUse → Served) (place : Option ℕ) : Type 0 where
  name : Name
  request : IsRequest job.cycle name serve
  found : place_named name (map job_file_of job.files.files.items) ≡ place

served_at_slot : {job : OpenJob} {slot : ℕ} {call : FileCall} {place : Option ℕ} → IsCalled job slot call place → IsServedAt job (serve_of call (put job.cycle)) place
served_at_slot {job = job} {slot = slot} {call = call} {place = place} called = record {
  name = name_of_file job.cycle.program slot;
  request = is_request job.cycle slot call called.is;
  found = place_at job.files.level job slot place (Allows call (length (put job.cycle))) called.ready called.fits called.there;
}

-- the place is one of a file
pub is_there : {job : OpenJob} {slot : ℕ} {call : FileCall} {place : ℕ} → IsCalled job slot call (Some place) → place < length job.files.files.items
is_there {job = job} {place = place} called = let at = served_at_slot called in place_within at.name job.files.files.items place at.found

-- the job doesn't have the file
pub not_in_use : {job : OpenJob} {slot : ℕ} {call : FileCall} {areas : Areas} {s : PoolState} → IsCalled job slot call None → CanServe job (seen areas s.contents) → ServesJob (Ok false) job job areas areas s s
not_in_use {job = job} {call = call} {areas = areas} {s = s} called ready =
    let at = served_at_slot called in job_passed (none_so job (seen areas s.contents) at.name (serve_of call (put job.cycle)) at.request at.found, refl, refl) ready

-- it has the file, and the file failed
pub file_failed : {T : Type 0} {fault : SectorFault} {old new : OpenJob} {slot place : ℕ} {call : FileCall} {before after : Areas} {s t : PoolState} (result : Result Bool SectorFault) → IsErrAnd result (λ f. f ≡ fault)
    → IsCalled old slot call (Some place) → CanServe old (seen before s.contents) → KeepsPlace old new → LeavesPack {T = T} old.files.level (Err fault) before after s t → ServesJob result old new before after s t
file_failed {old = old} {place = place} {call = call} {before = before} {s = s} result fails called ready stays leaves =
    let at = served_at_slot called in
    job_failed result fails (has_so old (seen before s.contents) at.name (serve_of call (put old.cycle)) place ready.files (is_there called) at.request at.found) stays leaves

-- the file served it, and the run goes on with its answer
pub file_served : {T : Type 0} {first : T} {old new : OpenJob} {slot place : ℕ} {call : FileCall} {before after : Areas} {s t : PoolState} (serve : FileAtWork → FilesInUse → Served) (answer : Answer) → IsCalled old slot call (Some place)
    → serve ≡ serve_of call (put old.cycle) → CanServe old (seen before s.contents)
    → Serving serve place answer (HoldsInUse old.files.level old.files.files.items (seen before s.contents)) (HoldsInUse new.files.level new.files.files.items (seen after t.contents))
    → AreFilesReady new.files.level new.files.files.items (seen after t.contents) → KeepsOpened old.files new.files → new.places.items ≡ old.places.items → Resumes old.cycle new.cycle answer → KeepsPlace old new
    → LeavesPack old.files.level (Ok first) before after s t → ServesJob (Ok true) old new before after s t
file_served {old = old} {new = new} {place = place} {call = call} {before = before} {after = after} {s = s} {t = t} serve answer called so ready serves files_ready opened places resumes stays leaves =
    let at = served_at_slot called in
    job_served
    (served_so old new (seen before s.contents) (seen after t.contents) at.name (serve_of call (put old.cycle)) place answer at.request at.found
    (subst (λ (f : FileAtWork → FilesInUse → Served). Serving f place answer (HoldsInUse old.files.level old.files.files.items (seen before s.contents)) (HoldsInUse old.files.level new.files.files.items (seen after t.contents))) so
    (subst (λ (level : LevelId). Serving serve place answer (HoldsInUse old.files.level old.files.files.items (seen before s.contents)) (HoldsInUse level new.files.files.items (seen after t.contents))) opened.level serves))
    resumes)
    (record { files = files_ready; job = job_stays old.files.level old new ready.job opened.opened places (λ source stands. (resumes source stands).0) }) stays leaves
