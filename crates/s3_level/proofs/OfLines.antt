-- The open file of a request: the file of the F line that allows the request.
use Rattle.std.proofs.Common.{◌≡◌, ◌<◌, ◌≤◌, ◌+◌, ℕ, zero, suc, Bool, true, false, List, [], ◌∷◌, length, map, filter, get_or, refl, sym, ap, ◌∙◌, subst, arith}
use Rattle.std.specs.Prelude.{slice_get, Option, Some, None, is_some, unwrap_or, nat_le, cond}
use Rattle.std.specs.List.{position_from}
use Rattle.std.proofs.lemmas.Bool.{and_parts}
use Rattle.std.proofs.lemmas.Bool.Decides.{nat_tests}
use Rattle.std.proofs.lemmas.List.{length-map}
use Rattle.std.proofs.lemmas.Option.{slice_get-get_or}
use Rattle.s3_cards.specs.declared.name.Name.{Name}
use Rattle.s3_cards.specs.Names.{same_name}
use Rattle.s3_cards.proofs.NameLemmas.{same_name-equal}
use Rattle.s3_cards.specs.declared.levels.LevelId.{LevelId}
use Rattle.s3_lines.specs.Inner.Ranges.{file_in_range}
use Rattle.s3_lines.specs.Ranges.{is_between, longest_record}
use Rattle.s3_lines.specs.declared.sheet.Device.TheVariants.{Disk}
use Rattle.s3_lines.specs.declared.sheet.FileLine.{FileLine}
use Rattle.s3_lines.specs.declared.sheet.KeyField.{KeyField}
use Rattle.s3_program.specs.Inner.Positions.{are_in_range}
use Rattle.s3_program.specs.Inner.Stands.{parts_of}
use Rattle.s3_program.specs.Inner.Valid.{tables_of}
use Rattle.s3_program.specs.FileEntries.{file_entry}
use Rattle.s3_program.proofs.SlotLemmas.{kept, own_slot}
use Rattle.s3_program.specs.Inner.Tables.{slot_in}
use Rattle.s3_match.specs.Inner.Types.{name_of_file}
use Rattle.s3_job_files.specs.Files.{JobFile, place_named}
use Rattle.s3_job_files.specs.Inner.Holds.{AllAt, OpenedAs, TakesRecord as Takes, job_file_of, opened_as}
use Rattle.s3_job_files.specs.declared.file.OpenFile.{OpenFile}
use Rattle.s3_job_files.proofs.Lists.{found_passes, get_mapped, position_map, within_get}
use Rattle.s3_slots.specs.Labels.{is_indexed}
use Rattle.s3_slots.proofs.Runs.{all_at}
use Rattle.s3_opening.specs.Asked.{is_used, key_length_of}
use Rattle.s3_opening.specs.Inner.OpenFiles.{AreOfEach, IsLaidOutAs, IsOfLine}
use Rattle.s3_meaning.specs.Source.{Source}
use Rattle.s3_meaning.specs.Output.{filled}
use Rattle.s3_meaning.specs.declared.current.Current.{Current}
use Rattle.s3_cycle.specs.declared.request.FileCall.{FileCall}
use Rattle.s3_cycle.specs.declared.request.FileCall.TheVariants as calls
use Rattle.s3_cycle.specs.declared.request.Request.{Request as ProgramRequest}
use Rattle.s3_cycle.specs.declared.request.Request.TheVariants as asks
use Rattle.s3_cycle.specs.declared.request.Sought.{Sought}
use Rattle.s3_cycle.specs.declared.request.Sought.TheVariants.{Key, RecordNumber}
use Rattle.s3_cycle.specs.declared.stepper.Stepper.{Stepper}
use Rattle.s3_cycle.specs.Inner.Following.{StandsFor, asked, files, put}
use Rattle.s3_cycle.specs.Inner.Requests.{Allows, FitsFile, IsDiskFile, IsSoughtBy, TakesRecord}
use Rattle.s3_cycle.proofs.FollowLemmas.{files_stay, slot_named}
use Rattle.s3_level.specs.declared.job.OpenJob.{OpenJob}
use Rattle.s3_level.specs.Inner.Holds.{IsJobReady, places_of}
use Rattle.s3_level.specs.Inner.Turning.{SuitsSought}

-- ---- lists
some_same : {X : Type 0} (x y : X) → Some x ≡ Some y → x ≡ y
some_same x y same = cc

in_filtered : {X : Type 0} (test : X → Bool) (xs : List X) (i : ℕ) (x : X) → slice_get (filter test xs) i ≡ Some x → (k : ℕ) × (slice_get xs k ≡ Some x)
in_filtered test [] i x there = absurd cc
in_filtered {X} test (y ∷ xs) i x there = by (test y) i there (λ j is. in_filtered test xs j x is)
  where
    by : (passes : Bool) (i : ℕ) → slice_get (cond passes (y ∷ filter test xs) (filter test xs)) i ≡ Some x
        → ((j : ℕ) → slice_get (filter test xs) j ≡ Some x → (k : ℕ) × (slice_get xs k ≡ Some x)) → (k : ℕ) × (slice_get (y ∷ xs) k ≡ Some x)
    by true zero there behind = (0, there)
    by true (suc i) there behind = let later = behind i there in (suc later.0, later.1)
    by false i there behind = let later = behind i there in (suc later.0, later.1)

-- each open file is of one of the lines
line_of : (lines : List FileLine) (items : List OpenFile) (place : ℕ) (file : OpenFile) → AreOfEach lines items → slice_get items place ≡ Some file
    → (line : FileLine) × (slice_get lines place ≡ Some line) × IsOfLine line file
line_of [] [] place file each there = absurd cc
line_of [] (one ∷ items) place file each there = absurd each
line_of (line ∷ lines) [] place file each there = absurd each
line_of (line ∷ lines) (one ∷ items) zero file each there = (line, refl, subst (IsOfLine line) (some_same one file there) each.0)
line_of (line ∷ lines) (one ∷ items) (suc place) file each there = line_of lines items place file each.1 there

-- ---- the F lines of a program
-- no two have one name
line_named : (c : Stepper) (i j : ℕ) (one other : FileLine) → slice_get (files c) i ≡ Some one → slice_get (files c) j ≡ Some other → one.name ≡ other.name → one ≡ other
unfolding files
line_named c i j one other here there same =
    let table = (tables_of (parts_of c.program)).files in
    let distinct = (kept (parts_of c.program) c.program.valid).files_distinct in
    let first : slot_in table one.name ≡ i = own_slot table i (file_entry one) distinct (get_mapped file_entry c.program.files.items i one here) in
    let second : slot_in table other.name ≡ j = own_slot table j (file_entry other) distinct (get_mapped file_entry c.program.files.items j other there) in
    let at : i ≡ j = sym first ∙ ap (slot_in table) same ∙ second in
    some_same one other (sym here ∙ ap (slice_get c.program.files.items) at ∙ there)

-- a record of a file on disk has 1,024 bytes at most
few_bytes : (c : Stepper) (slot : ℕ) (line : FileLine) → slice_get (files c) slot ≡ Some line → line.device ≡ Disk → line.record_length ≤ 1024
unfolding files are_in_range
few_bytes c slot line there on_disk =
    let ranged = (and_parts _ _ (and_parts _ _ (and_parts _ _ (kept (parts_of c.program) c.program.valid).ranged).0).0).0 in
    let within : file_in_range line ≡ true = all_at file_in_range c.program.files.items slot line ranged there in
    let length_within : is_between 1 (longest_record line.device) line.record_length ≡ true = (and_parts _ _ (and_parts _ _ (and_parts _ _ (and_parts _ _ (and_parts _ _ (and_parts _ _ within).0).0).0).0).0).1 in
    let to_disk : is_between 1 1024 line.record_length ≡ true = ap (λ device. is_between 1 (longest_record device) line.record_length) (sym on_disk) ∙ length_within in
    at_most line.record_length 1024 (and_parts (nat_le 1 line.record_length) (nat_le line.record_length 1024) to_disk).1
  where
    at_most : (m n : ℕ) → nat_le m n ≡ true → m ≤ n
    at_most m n is = grind (arith, nat_tests, is)

-- ---- the open file of a slot
-- the file that is open under the name of a slot is of its line
file_of_line : (level : LevelId) (job : OpenJob) (slot place : ℕ) (line : FileLine) (file : OpenFile) → IsJobReady level job → slice_get (files job.cycle) slot ≡ Some line
    → place_named (name_of_file job.cycle.program slot) (map job_file_of job.files.files.items) ≡ Some place → slice_get job.files.files.items place ≡ Some file → IsOfLine line file
file_of_line level job slot place line file ready there found at =
    let named : file.name ≡ line.name =
    same_name-equal file.name (name_of_file job.cycle.program slot)
    (found_passes (λ one. same_name one.name (name_of_file job.cycle.program slot)) (map job_file_of job.files.files.items) place (job_file_of file) found (get_mapped job_file_of job.files.files.items place file at))
    ∙ slot_named job.cycle slot line there in
    let is = line_of (filter (is_used ready.switches) (files job.cycle)) job.files.files.items place file ready.lines.each at in
    let among = in_filtered (is_used ready.switches) (files job.cycle) place is.0 is.1 in
    subst (λ (one : FileLine). IsOfLine one file) (line_named job.cycle among.0 slot is.0 line among.1 there (sym is.2.name ∙ named)) is.2

-- the place that a slot has is the place of the file of its name
named_at : (level : LevelId) (job : OpenJob) (slot : ℕ) (line : FileLine) → IsJobReady level job → slice_get (files job.cycle) slot ≡ Some line
    → slice_get job.places.items slot ≡ Some (place_named line.name (map job_file_of job.files.files.items))
named_at level job slot line ready there =
    ap (λ (places : List (Option ℕ)). slice_get places slot) ready.places ∙ get_mapped (λ (one : FileLine). place_named one.name (map job_file_of job.files.files.items)) (files job.cycle) slot line there

slot_there : (level : LevelId) (job : OpenJob) (slot : ℕ) (Suits : FileLine → Type 0) → IsJobReady level job → IsDiskFile (files job.cycle) slot Suits → slot < length job.places.items
slot_there level job slot Suits ready is = within_get job.places.items slot _ (named_at level job slot is.line ready is.there)

-- the slot of the file that is called
pub called_within : {job : OpenJob} {request : ProgramRequest} {slot : ℕ} {call : FileCall} → IsJobReady job.files.level job → request ≡ asked job.cycle → FitsFile (files job.cycle) (asked job.cycle) (put job.cycle) → request ≡ asks.File slot call
    → slot < length job.places.items
called_within {job = job} {slot = slot} {call = call} ready pends fits is =
    slot_there job.files.level job slot (Allows call (length (put job.cycle))) ready (subst (λ (r : ProgramRequest). FitsFile (files job.cycle) r (put job.cycle)) (sym pends ∙ is) fits)

-- what was read there is this place
abbrev pub IsPlace : (job : OpenJob) (slot : ℕ) (place : Option ℕ) → Type 0
IsPlace job slot place = (read : Option ℕ) × (read ≡ get_or job.places.items slot read) × (read ≡ place)

pub place_at : (level : LevelId) (job : OpenJob) (slot : ℕ) (place : Option ℕ) (Suits : FileLine → Type 0) → IsJobReady level job → IsDiskFile (files job.cycle) slot Suits
    → IsPlace job slot place → place_named (name_of_file job.cycle.program slot) (map job_file_of job.files.files.items) ≡ place
place_at level job slot place Suits ready is there =
    ap (λ (name : Name). place_named name (map job_file_of job.files.files.items)) (slot_named job.cycle slot is.line is.there)
    ∙ some_same _ _ (sym (named_at level job slot is.line ready is.there)
    ∙ slice_get-get_or job.places.items slot there.0 (slot_there level job slot Suits ready is) ∙ ap Some (sym there.1 ∙ there.2))

-- a place that was found is one of a file
found_within : {X : Type 0} (t : X → Bool) (i : ℕ) (xs : List X) (p : ℕ) → position_from t i xs ≡ Some p → p < i + length xs
found_within t i [] p found = absurd cc
found_within {X} t i (x ∷ xs) p found = by (t x) found (found_within t (i + 1) xs p)
  where
    by : (b : Bool) → cond b (Some i) (position_from t (i + 1) xs) ≡ Some p → (position_from t (i + 1) xs ≡ Some p → p < i + 1 + length xs) → p < i + length (x ∷ xs)
    by true here behind = let same : i ≡ p = cc in omega (arith, same)
    by false there behind = omega (arith, behind there)

pub place_within : (name : Name) (items : List OpenFile) (place : ℕ) → place_named name (map job_file_of items) ≡ Some place → place < length items
place_within name items place found =
    let within : place < 0 + length items =
    found_within (λ (file : OpenFile). same_name file.name name) 0 items place (sym (position_map job_file_of (λ (file : JobFile). same_name file.name name) 0 items) ∙ found) in
    omega (arith, within)

-- ---- what a request asks of it
-- what a file on disk is asked, and the line that its open file is of
record IsOpenAs (Suits : FileLine → Type 0) (file : OpenFile) : Type 0 where
  line : FileLine
  suits : Suits line
  of_line : IsOfLine line file

open_as : (level : LevelId) (job : OpenJob) (slot place : ℕ) (Suits : FileLine → Type 0) → IsJobReady level job → IsDiskFile (files job.cycle) slot Suits
    → IsPlace job slot (Some place) → AllAt job.files.files.items place (IsOpenAs Suits)
open_as level job slot place Suits ready fits there file at =
    record { line = fits.line; suits = fits.suits; of_line = file_of_line level job slot place fits.line file ready fits.there (place_at level job slot (Some place) Suits ready fits there) at }

-- its keys are as long as the one that is sought
sought_by : (key : Option KeyField) (what : Sought) (line : FileLine) (file : OpenFile) → line.key ≡ key → IsSoughtBy key what → IsOfLine line file → SuitsSought what file
sought_by (Some field) (Key key) line file is long of_line = (of_line.layout.indexed ∙ ap (λ (k : Option KeyField). is_some k) is, long ∙ sym (of_line.layout.key_length ∙ ap key_length_of is))
sought_by (Some field) (RecordNumber number) line file is wrong of_line = absurd wrong
sought_by None (Key key) line file is wrong of_line = absurd wrong
sought_by None (RecordNumber number) line file is right of_line = tt

-- where records are put it is the level's own
takes_record : (line : FileLine) (file : OpenFile) (bytes : List ℕ) → TakesRecord (length bytes) line → IsOfLine line file → Takes bytes file
takes_record line file bytes takes of_line = record { own = of_line.own takes.put_out; long = takes.long ∙ sym of_line.layout.record_length }

-- an open job that calls the file of a slot, with the place of that slot
pub record IsCalled (job : OpenJob) (slot : ℕ) (call : FileCall) (place : Option ℕ) : Type 0 where
  pub ready : IsJobReady job.files.level job
  pub is : asked job.cycle ≡ asks.File slot call
  pub fits : IsDiskFile (files job.cycle) slot (Allows call (length (put job.cycle)))
  pub there : IsPlace job slot place

-- it calls a file where it asks for something of one
pub called : {job : OpenJob} {request : ProgramRequest} {slot : ℕ} {call known : FileCall} {place : Option ℕ} → IsJobReady job.files.level job → request ≡ asked job.cycle → FitsFile (files job.cycle) (asked job.cycle) (put job.cycle)
    → request ≡ asks.File slot call → call ≡ known → IsPlace job slot place → IsCalled job slot known place
called {job = job} {slot = slot} {known = known} ready pends fits is which there =
    let calls : asked job.cycle ≡ asks.File slot known = sym pends ∙ is ∙ ap (asks.File slot) which in
    record { ready = ready; is = calls; fits = subst (λ (r : ProgramRequest). FitsFile (files job.cycle) r (put job.cycle)) calls fits; there = there }

call_open : {job : OpenJob} {slot place : ℕ} (call : FileCall) → IsCalled job slot call (Some place) → AllAt job.files.files.items place (IsOpenAs (Allows call (length (put job.cycle))))
call_open {job = job} {slot = slot} {place = place} call it = open_as job.files.level job slot place (Allows call (length (put job.cycle))) it.ready it.fits it.there

-- the file at the place of a slot has records of the length that is read
pub read_long : {job : OpenJob} {slot place size : ℕ} (n : ℕ) → IsCalled job slot (calls.Read size) (Some place) → n ≡ size → AllAt job.files.files.items place (λ one. n ≡ one.label.record_length)
read_long {size = size} n it same = λ one at. let opened = call_open (calls.Read size) it one at in same ∙ opened.suits.long ∙ sym opened.of_line.layout.record_length

pub chain_long : {job : OpenJob} {slot place size : ℕ} {what : Sought} (n : ℕ) → IsCalled job slot (calls.Chain size what) (Some place) → n ≡ size → AllAt job.files.files.items place (λ one. n ≡ one.label.record_length)
chain_long {size = size} {what = what} n it same = λ one at. let opened = call_open (calls.Chain size what) it one at in same ∙ opened.suits.long ∙ sym opened.of_line.layout.record_length

-- it can be sought there
pub chain_suits : {job : OpenJob} {slot place size : ℕ} {what : Sought} → IsCalled job slot (calls.Chain size what) (Some place) → AllAt job.files.files.items place (SuitsSought what)
chain_suits {size = size} {what = what} it = λ one at. let opened = call_open (calls.Chain size what) it one at in sought_by opened.line.key what opened.line one refl opened.suits.sought_by opened.of_line

-- it takes the record
record_long : (positions : List (Option ℕ)) (bytes : List ℕ) (line : FileLine) → bytes ≡ filled positions → TakesRecord (length positions) line → TakesRecord (length bytes) line
record_long positions bytes line laid takes =
    let long : length positions ≡ length bytes = sym (ap length laid ∙ length-map positions (λ position. unwrap_or position 0x40)) in
    subst (λ n. TakesRecord n line) long takes

pub append_takes : {job : OpenJob} {slot place : ℕ} (bytes : List ℕ) → IsCalled job slot calls.Append (Some place) → bytes ≡ filled (put job.cycle) → AllAt job.files.files.items place (Takes bytes)
append_takes {job = job} bytes it laid = λ one at. let opened = call_open calls.Append it one at in takes_record opened.line one bytes (record_long (put job.cycle) bytes opened.line laid opened.suits) opened.of_line

pub add_takes : {job : OpenJob} {slot place : ℕ} (bytes : List ℕ) → IsCalled job slot calls.Add (Some place) → bytes ≡ filled (put job.cycle) → AllAt job.files.files.items place (Takes bytes)
add_takes {job = job} bytes it laid = λ one at. let opened = call_open calls.Add it one at in takes_record opened.line one bytes (record_long (put job.cycle) bytes opened.line laid opened.suits.takes) opened.of_line

-- by its key
pub add_indexed : {job : OpenJob} {slot place : ℕ} → IsCalled job slot calls.Add (Some place) → AllAt job.files.files.items place (λ one. is_indexed one.label.organization ≡ true)
add_indexed it = λ one at. let opened = call_open calls.Add it one at in opened.of_line.layout.indexed ∙ opened.suits.keyed

-- it is the level's own
pub update_own : {job : OpenJob} {slot place : ℕ} {current : Option Current} → IsCalled job slot (calls.Update current) (Some place) → AllAt job.files.files.items place (λ one. one.is_master ≡ false)
update_own {current = current} it = λ one at. let opened = call_open (calls.Update current) it one at in opened.of_line.own opened.suits.takes.put_out

-- its records have 1,024 bytes at most
pub few_read : {job : OpenJob} {slot size : ℕ} {place : Option ℕ} → IsCalled job slot (calls.Read size) place → size ≤ 1024
few_read {job = job} {slot = slot} it = subst (λ k. k ≤ 1024) (sym it.fits.suits.long) (few_bytes job.cycle slot it.fits.line it.fits.there it.fits.on_disk)

pub few_chained : {job : OpenJob} {slot size : ℕ} {what : Sought} {place : Option ℕ} → IsCalled job slot (calls.Chain size what) place → size ≤ 1024
few_chained {job = job} {slot = slot} it = subst (λ k. k ≤ 1024) (sym it.fits.suits.long) (few_bytes job.cycle slot it.fits.line it.fits.there it.fits.on_disk)

-- ---- after a request
still_of_line : (line : FileLine) (old new : OpenFile) → opened_as new ≡ opened_as old → IsOfLine line old → IsOfLine line new
still_of_line line old new same is = record {
  name = ap (λ (o : OpenedAs). o.name) same ∙ is.name;
  layout = subst (IsLaidOutAs line) (sym (ap (λ (o : OpenedAs). o.label) same)) is.layout;
  own = λ put_out. ap (λ (o : OpenedAs). o.is_master) same ∙ is.own put_out;
}

still_of_each : (lines : List FileLine) (old new : List OpenFile) → map opened_as new ≡ map opened_as old → AreOfEach lines old → AreOfEach lines new
still_of_each [] [] [] same each = each
still_of_each [] [] (b ∷ new) same each = absurd cc
still_of_each [] (a ∷ old) new same each = absurd each
still_of_each (line ∷ lines) [] new same each = absurd each
still_of_each (line ∷ lines) (a ∷ old) [] same each = absurd cc
still_of_each (line ∷ lines) (a ∷ old) (b ∷ new) same each =
    let first : opened_as b ≡ opened_as a = cc in
    let rest : map opened_as new ≡ map opened_as old = cc in
    (still_of_line line a b first each.0, still_of_each lines old new rest each.1)

-- where a file is open one was, as it was opened
was_open : (old new : List OpenFile) (i : ℕ) (file : OpenFile) → map opened_as new ≡ map opened_as old → slice_get new i ≡ Some file
    → (before : OpenFile) × (slice_get old i ≡ Some before) × (opened_as file ≡ opened_as before)
was_open [] [] i file same there = absurd cc
was_open [] (b ∷ new) i file same there = absurd cc
was_open (a ∷ old) [] i file same there = absurd cc
was_open (a ∷ old) (b ∷ new) zero file same there =
    let first : opened_as b ≡ opened_as a = cc in
    (a, refl, ap opened_as (sym (some_same b file there)) ∙ first)
was_open (a ∷ old) (b ∷ new) (suc i) file same there =
    let rest : map opened_as new ≡ map opened_as old = cc in
    was_open old new i file rest there

-- the place of a name
name_stays : (name : Name) (i : ℕ) (old new : List OpenFile) → map opened_as new ≡ map opened_as old
    → position_from (λ (file : JobFile). same_name file.name name) i (map job_file_of new) ≡ position_from (λ (file : JobFile). same_name file.name name) i (map job_file_of old)
name_stays name i [] [] same = refl
name_stays name i [] (b ∷ new) same = absurd cc
name_stays name i (a ∷ old) [] same = absurd cc
name_stays name i (a ∷ old) (b ∷ new) same =
    let first : opened_as b ≡ opened_as a = cc in
    let rest : map opened_as new ≡ map opened_as old = cc in
    (λ k. cond (same_name (first k).name name) (Some i) (name_stays name (i + 1) old new rest k))

places_stay : (lines : List FileLine) (old new : List OpenFile) → map opened_as new ≡ map opened_as old → places_of lines new ≡ places_of lines old
places_stay [] old new same = refl
places_stay (line ∷ lines) old new same = (λ k. name_stays line.name 0 old new same k ∷ places_stay lines old new same k)

-- the files of the job are still those of its lines, and at the same places
pub job_stays : (level : LevelId) (old new : OpenJob) → IsJobReady level old → map opened_as new.files.files.items ≡ map opened_as old.files.files.items → new.places.items ≡ old.places.items
    → ((source : Source) → StandsFor old.cycle source → StandsFor new.cycle source) → IsJobReady new.files.level new
job_stays level old new ready same same_places stays = record {
  level_of_files = refl;
  switches = ready.switches;
  lines = record {
    each = subst (λ (lines : List FileLine). AreOfEach (filter (is_used ready.switches) lines) new.files.files.items) (sym (files_stay old.cycle new.cycle stays))
        (still_of_each (filter (is_used ready.switches) (files old.cycle)) old.files.files.items new.files.files.items same ready.lines.each);
    distinct = λ i j first second here there named.
        let a = was_open old.files.files.items new.files.files.items i first same here in
        let b = was_open old.files.files.items new.files.files.items j second same there in
        ready.lines.distinct i j a.0 b.0 a.1 b.1
        (ap (λ (o : OpenedAs). same_name o.name b.0.name) (sym a.2) ∙ ap (λ (o : OpenedAs). same_name first.name o.name) (sym b.2) ∙ named);
  };
  places = same_places ∙ ready.places ∙ ap (λ (lines : List FileLine). places_of lines old.files.files.items) (sym (files_stay old.cycle new.cycle stays))
      ∙ sym (places_stay (files new.cycle) old.files.files.items new.files.files.items same);
}
