-- Answers that fit, and how the run continues after each.
use Rattle.std.proofs.Common.{◌≡◌, ◌≢◌, ◌==◌, ◌≤◌, ◌<◌, ℕ, zero, suc, Bool, true, false, List, [], ◌∷◌, length, map, Option, Some, slice_get, nat_le, get_or, if◌then◌else◌, refl, sym, ap, ◌∙◌, subst, arith, ne_eqb, true≢false}
use Rattle.std.proofs.Math.Path.{fun_ext}
use Rattle.std.proofs.lemmas.Bool.{and_parts}
use Rattle.std.proofs.lemmas.Bool.Decides.{nat_tests}
use Rattle.std.proofs.lemmas.Option.{slice_get-get_or, unwrap_or-slice_get}
use Rattle.s3_lines.specs.declared.indicator.Indicator.{Indicator}
use Rattle.s3_lines.specs.declared.indicator.Indicator.TheVariants.{LastRecord, FirstPage}
use Rattle.s3_lines.specs.declared.sheet.Device.{Device}
use Rattle.s3_lines.specs.declared.sheet.Device.TheVariants.{CardReader, Printer, Disk}
use Rattle.s3_lines.specs.declared.sheet.FileLine.{FileLine}
use Rattle.s3_lines.specs.Ranges.{is_between, longest_record}
use Rattle.s3_lines.specs.Inner.Ranges.{file_in_range}
use Rattle.s3_lines.specs.Files.{is_card_reader}
use Rattle.s3_operator.specs.declared.halt_code.HaltCode.{HaltCode}
use Rattle.s3_meaning.specs.Environment.{Environment, turn, with_last_record}
use Rattle.s3_meaning.specs.Requests as Meant
use Rattle.s3_meaning.specs.Inner.Requests.{fits, fits_done, fits_record, fits_reply, refuses_append, refuses_add, refuses_update}
use Rattle.s3_meaning.specs.Source.{Source}
use Rattle.s3_meaning.specs.Runs.{Rest, ended, halted, replied, to_totals}
use Rattle.s3_meaning.specs.Requests.{Answer}
use Rattle.s3_meaning.specs.Cycle.{again, file_read, last_time}
use Rattle.s3_meaning.specs.Output.{stored_or_halted}
use Rattle.s3_meaning.proofs.Equations.{again-last, again-read}
use Rattle.s3_program.specs.declared.program.Program.{Program}
use Rattle.s3_program.specs.declared.starts.Walk.{Walk}
use Rattle.s3_program.specs.Inner.Positions.{are_in_range}
use Rattle.s3_program.specs.Inner.Stands.{parts_of}
use Rattle.s3_program.proofs.SlotLemmas.{Kept, kept}
use Rattle.s3_operations.proofs.ValueLemmas.{all_at}
use Rattle.s3_match.specs.declared.heads.InputFile.{InputFile}
use Rattle.s3_match.specs.Inner.Heads.{no_file, file_at, input_of}
use Rattle.s3_match.specs.Inner.Reading.{input_at}
use Rattle.s3_match.proofs.ReadingLemmas.{input_slot}
use Rattle.s3_cycle.specs.declared.request.Answer as Code
use Rattle.s3_cycle.specs.declared.request.Answer.TheVariants.{Found, Nothing, Done, Refused, Reply}
use Rattle.s3_cycle.specs.declared.request.FileCall.TheVariants as calls
use Rattle.s3_cycle.specs.declared.request.Request.{Request}
use Rattle.s3_cycle.specs.declared.request.Request.TheVariants as asks
use Rattle.s3_cycle.specs.declared.progress.Progress.{Progress}
use Rattle.s3_cycle.specs.declared.progress.Continuation.{Continuation}
use Rattle.s3_cycle.specs.declared.progress.Point.{Point}
use Rattle.s3_cycle.specs.declared.stepper.Stepper.{Stepper}
use Rattle.s3_cycle.specs.Inner.Requests.{request_of, answer_of}
use Rattle.s3_cycle.specs.Inner.Rest.{continued, head_again, head_put, inputs_in, lines_from}
use Rattle.s3_cycle.specs.Inner.Answers.{IsRecordOrNothing, is_done_or_refused, is_reply}
use Rattle.s3_cycle.specs.Inner.Going.{own, held_by, here, Changes, GoesOn, IsChainRequest, IsHeadRequest, IsRunning, IsWaiting, Waits, is_ask, is_record_request}
use Rattle.s3_cycle.proofs.GoingLemmas.{goes_as, goes_changed}

-- ---- which answers fit
done_fits : (refuses : HaltCode → Bool) (answer : Code.Answer) → fits_done refuses (answer_of answer) ≡ true → is_done_or_refused answer ≡ true
unfolding answer_of
done_fits refuses (Found bytes) h = h
done_fits refuses Nothing h = h
done_fits refuses Done h = refl
done_fits refuses (Refused code) h = refl
done_fits refuses (Reply digit) h = h

pub stored_fits : (p : Program) (positions : List (Option ℕ)) (request : Request) (answer : Code.Answer) → is_record_request request ≡ true → fits (request_of p positions request) (answer_of answer) ≡ true → is_done_or_refused answer ≡ true
unfolding request_of
stored_fits p positions asks.Card answer is h = absurd (true≢false (sym is))
stored_fits p positions (asks.File file (calls.Read size)) answer is h = absurd (true≢false (sym is))
stored_fits p positions (asks.File file (calls.Chain size sought)) answer is h = absurd (true≢false (sym is))
stored_fits p positions (asks.File file calls.Append) answer is h = done_fits refuses_append answer h
stored_fits p positions (asks.File file calls.Add) answer is h = done_fits refuses_add answer h
stored_fits p positions (asks.File file (calls.Update current)) answer is h = done_fits refuses_update answer h
stored_fits p positions (asks.Print page line) answer is h = absurd (true≢false (sym is))
stored_fits p positions asks.Jump answer is h = absurd (true≢false (sym is))
stored_fits p positions (asks.Ask code) answer is h = absurd (true≢false (sym is))
stored_fits p positions (asks.End at_once) answer is h = absurd (true≢false (sym is))

reply_fits : (code : HaltCode) (answer : Code.Answer) → fits_reply code (answer_of answer) ≡ true → is_reply answer ≡ true
unfolding answer_of
reply_fits code (Found bytes) h = h
reply_fits code Nothing h = h
reply_fits code Done h = h
reply_fits code (Refused other) h = h
reply_fits code (Reply digit) h = refl

pub asked_fits : (p : Program) (positions : List (Option ℕ)) (request : Request) (answer : Code.Answer) → is_ask request ≡ true → fits (request_of p positions request) (answer_of answer) ≡ true → is_reply answer ≡ true
unfolding request_of
asked_fits p positions asks.Card answer is h = absurd (true≢false (sym is))
asked_fits p positions (asks.File file call) answer is h = absurd (true≢false (sym is))
asked_fits p positions (asks.Print page line) answer is h = absurd (true≢false (sym is))
asked_fits p positions asks.Jump answer is h = absurd (true≢false (sym is))
asked_fits p positions (asks.Ask code) answer is h = reply_fits code answer h
asked_fits p positions (asks.End at_once) answer is h = absurd (true≢false (sym is))

-- ---- records
pub number_is : (m n : ℕ) → (m == n) ≡ true → m ≡ n
number_is m n h = grind (arith, nat_tests, h)

record_fits : (file : FileLine) (size : ℕ) (answer : Code.Answer) → file.record_length ≤ size → size ≤ 1024 → fits_record size (answer_of answer) ≡ true → IsRecordOrNothing file answer
unfolding answer_of
record_fits file size (Found bytes) long short h =
    let is : length bytes.now ≡ size = number_is (length bytes.now) size h in
    record { long = omega (arith, is, long); short = omega (arith, is, short) }
record_fits file size Nothing long short h = tt
record_fits file size Done long short h = absurd (true≢false (sym h))
record_fits file size (Refused code) long short h = absurd (true≢false (sym h))
record_fits file size (Reply digit) long short h = absurd (true≢false (sym h))

pub at_most : (a b : ℕ) → nat_le a b ≡ true → a ≤ b
at_most a b h = grind (arith, nat_tests, h)

-- the records of a file are at most as long as its device allows
pub file_ranged : (p : Program) (file : ℕ) → file < length p.files.items → is_between 1 (longest_record (file_at p file).device) (file_at p file).record_length ≡ true
unfolding are_in_range
file_ranged p file within =
    let k : Kept (parts_of p) = kept (parts_of p) p.valid in
    let there : slice_get p.files.items file ≡ Some (file_at p file) =
    slice_get-get_or p.files.items file no_file within ∙ ap (λ (f : FileLine). Some f) (sym (unwrap_or-slice_get p.files.items file no_file)) in
    let ranged : file_in_range (file_at p file) ≡ true = all_at file_in_range p.files.items file (file_at p file) (and_parts _ _ (and_parts _ _ (and_parts _ _ k.ranged).0).0).0 there in
    let all1 = and_parts _ _ ranged in
    let all2 = and_parts _ _ all1.0 in
    let all3 = and_parts _ _ all2.0 in
    let all4 = and_parts _ _ all3.0 in
    let all5 = and_parts _ _ all4.0 in
    (and_parts _ _ all5.0).1

few_by : (device : Device) (n : ℕ) → is_between 1 (longest_record device) n ≡ true → n ≤ 1024
few_by CardReader n h = let e = at_most n 96 (and_parts (nat_le 1 n) (nat_le n 96) h).1 in omega (arith, e)
few_by Printer n h = let e = at_most n 132 (and_parts (nat_le 1 n) (nat_le n 132) h).1 in omega (arith, e)
few_by Disk n h = at_most n 1024 (and_parts (nat_le 1 n) (nat_le n 1024) h).1

card_by : (device : Device) (n : ℕ) → is_card_reader device ≡ true → is_between 1 (longest_record device) n ≡ true → n ≤ 96
card_by CardReader n is h = at_most n 96 (and_parts (nat_le 1 n) (nat_le n 96) h).1
card_by Printer n is h = absurd (true≢false (sym is))
card_by Disk n is h = absurd (true≢false (sym is))

pub chained_fits : (p : Program) (positions : List (Option ℕ)) (file : ℕ) (missing : Option Indicator) (request : Request) (answer : Code.Answer) → IsChainRequest p file missing request → fits (request_of p positions request) (answer_of answer) ≡ true
    → IsRecordOrNothing (file_at p file) answer
unfolding request_of
chained_fits p positions file missing asks.Card answer is h = absurd is
chained_fits p positions file missing (asks.File slot (calls.Read size)) answer is h = absurd is
chained_fits p positions file missing (asks.File slot (calls.Chain size sought)) answer is h =
    let few : (file_at p file).record_length ≤ 1024 = few_by (file_at p file).device (file_at p file).record_length (file_ranged p file is.0.within) in
    let same : size ≡ (file_at p file).record_length = is.1 in
    record_fits (file_at p file) size answer (omega (arith, same)) (omega (arith, same, few)) h
chained_fits p positions file missing (asks.File slot calls.Append) answer is h = absurd is
chained_fits p positions file missing (asks.File slot calls.Add) answer is h = absurd is
chained_fits p positions file missing (asks.File slot (calls.Update current)) answer is h = absurd is
chained_fits p positions file missing (asks.Print page line) answer is h = absurd is
chained_fits p positions file missing asks.Jump answer is h = absurd is
chained_fits p positions file missing (asks.Ask code) answer is h = absurd is
chained_fits p positions file missing (asks.End at_once) answer is h = absurd is

-- ---- the file of a head
pub record IsFileRanged (file : FileLine) : Type 0 where
  pub ranged : is_between 1 (longest_record file.device) file.record_length ≡ true

pub read_fits : (p : Program) (progress : Progress) (positions : List (Option ℕ)) (place : ℕ) (request : Request) (answer : Code.Answer) → IsFileRanged (input_at (inputs_in p progress) place).file
    → IsHeadRequest p progress place request → fits (request_of p positions request) (answer_of answer) ≡ true → IsRecordOrNothing (input_at (inputs_in p progress) place).file answer
unfolding request_of
read_fits p progress positions place asks.Card answer in_range is h =
    record_fits _ 96 answer (card_by (input_at (inputs_in p progress) place).file.device (input_at (inputs_in p progress) place).file.record_length is in_range.ranged) (omega arith) h
read_fits p progress positions place (asks.File slot (calls.Read size)) answer in_range is h =
    let few : (input_at (inputs_in p progress) place).file.record_length ≤ 1024 = few_by (input_at (inputs_in p progress) place).file.device (input_at (inputs_in p progress) place).file.record_length in_range.ranged in
    let same : size ≡ (input_at (inputs_in p progress) place).file.record_length = is in
    record_fits _ size answer (omega (arith, same)) (omega (arith, same, few)) h
read_fits p progress positions place (asks.File slot (calls.Chain size sought)) answer in_range is h = absurd is
read_fits p progress positions place (asks.File slot calls.Append) answer in_range is h = absurd is
read_fits p progress positions place (asks.File slot calls.Add) answer in_range is h = absurd is
read_fits p progress positions place (asks.File slot (calls.Update current)) answer in_range is h = absurd is
read_fits p progress positions place (asks.Print page line) answer in_range is h = absurd is
read_fits p progress positions place asks.Jump answer in_range is h = absurd is
read_fits p progress positions place (asks.Ask code) answer in_range is h = absurd is
read_fits p progress positions place (asks.End at_once) answer in_range is h = absurd is

-- ---- the point at which the run waits
pub waits_at : (c : Stepper) (point : Point) → IsWaiting c → c.point ≡ point → Waits c.program c.progress c.request point
waits_at c point waiting is = subst (Waits c.program c.progress c.request) is waiting.waits

-- ---- replies
pub reply_zero : (old new : Stepper) (next : Continuation) (digit : ℕ) → digit ≡ 0 → GoesOn old new (here old (λ source program progress. continued source program progress next))
    → GoesOn old new (here old (λ source program progress. replied (again source) (continued source program progress next) (Meant.Reply digit)))
unfolding replied
reply_zero old new next digit is goes =
    goes_as old new _ _ (ap (λ (d : ℕ). replied (again (own old)) (continued (own old) old.program old.progress next) (Meant.Reply d) (held_by old)) is) goes

pub reply_two : (old new : Stepper) (next : Continuation) (digit : ℕ) → digit ≡ 2 → GoesOn old new (here old (λ source program progress. to_totals (again source)))
    → GoesOn old new (here old (λ source program progress. replied (again source) (continued source program progress next) (Meant.Reply digit)))
unfolding replied
reply_two old new next digit is goes =
    goes_as old new _ _ (ap (λ (d : ℕ). replied (again (own old)) (continued (own old) old.program old.progress next) (Meant.Reply d) (held_by old)) is) goes

pub reply_else : (old new : Stepper) (next : Continuation) (digit : ℕ) → digit ≢ 0 → digit ≢ 2 → GoesOn old new (here old (λ source program progress. ended true))
    → GoesOn old new (here old (λ source program progress. replied (again source) (continued source program progress next) (Meant.Reply digit)))
unfolding replied
reply_else old new next digit no_zero no_two goes =
    let off : (digit == 0) ≡ false = ne_eqb digit 0 no_zero in
    let other : (digit == 2) ≡ false = ne_eqb digit 2 no_two in
    goes_as old new _ _
    (λ i. (if off i then continued (own old) old.program old.progress next else (if other i then to_totals (again (own old)) else ended true)) (held_by old)) goes

-- ---- reply 2
last_is : (source : Source) (e : Environment) → (again source).last e ≡ last_time source (again source) e
last_is source e = fun_ext (λ (answers : List Answer). again-last source e answers)

to_totals_when : (source : Source) (e : Environment) (b : Bool) → e.on LastRecord ≡ b → to_totals (again source) e ≡ (if b then ended true else (again source).last) (turn FirstPage false (with_last_record e))
unfolding to_totals
to_totals_when source e b is = ap (λ (b' : Bool). (if b' then ended true else (again source).last) (turn FirstPage false (with_last_record e))) is

both_changed : (old one two new : Stepper) (meant : Source → Rest) → Changes old one (λ source. with_last_record) → Changes one two (λ source. turn FirstPage false) → GoesOn two new (here two (λ source program progress. meant source))
    → GoesOn old new (here old (λ source program progress e. meant source (turn FirstPage false (with_last_record e))))
both_changed old one two new meant first second goes =
    goes_changed old one new (λ source. with_last_record) (λ source program progress e. meant source (turn FirstPage false e)) first
    (goes_changed one two new (λ source. turn FirstPage false) (λ source program progress. meant source) second goes)

pub totals_ended : (old one two new : Stepper) → (held_by old).on LastRecord ≡ true → Changes old one (λ source. with_last_record) → Changes one two (λ source. turn FirstPage false)
    → GoesOn two new (here two (λ source program progress. ended true)) → GoesOn old new (here old (λ source program progress. to_totals (again source)))
totals_ended old one two new on first second goes =
    goes_as old new _ _ (to_totals_when (own old) (held_by old) true on) (both_changed old one two new (λ source. ended true) first second goes)

pub totals_reached : (old one two new : Stepper) → (held_by old).on LastRecord ≡ false → Changes old one (λ source. with_last_record) → Changes one two (λ source. turn FirstPage false)
    → GoesOn two new (here two (λ source program progress. last_time source (again source))) → GoesOn old new (here old (λ source program progress. to_totals (again source)))
totals_reached old one two new off first second goes =
    goes_as old new _ _ (to_totals_when (own old) (held_by old) false off ∙ last_is (own old) (turn FirstPage false (with_last_record (held_by old))))
    (both_changed old one two new (λ source. last_time source (again source)) first second goes)

-- ---- the file being read
ranged_at : (p : Program) (files : List InputFile) (k : ℕ) → k < length files → ((j : ℕ) (x : InputFile) → j < length files → x ≡ get_or files j x → x.file < length p.files.items)
    → IsFileRanged (input_at (map (input_of p) files) k).file
ranged_at p [] k within all = absurd (omega (arith, within))
ranged_at p (x ∷ xs) zero within all = record { ranged = file_ranged p x.file (all 0 x (omega arith) refl) }
ranged_at p (x ∷ xs) (suc k) within all = ranged_at p xs k (omega (arith, within)) (λ j y inside there. all (suc j) y (omega (arith, inside)) there)

pub head_ranged : (c : Stepper) (place : ℕ) → IsRunning c → place < length c.progress.reading.files.items → IsFileRanged (input_at (inputs_in c.program c.progress) place).file
head_ranged c place running within =
    ranged_at c.program c.progress.reading.files.items place within (λ j x inside there. input_slot c.program c.progress.reading j x running.reading inside there)

-- ---- the actual answer
pub answered_by : (old new : Stepper) (answer other : Code.Answer) (meant : Answer → Source → Program → Progress → Rest) → answer ≡ other → GoesOn old new (here old (meant (answer_of other))) → GoesOn old new (here old (meant (answer_of answer)))
answered_by old new answer other meant is goes =
    let P : Code.Answer → Type 0 = λ a. GoesOn old new (here old (meant (answer_of a))) in subst P (sym is) goes

pub continues_at : (old new : Stepper) (next other : Continuation) → next ≡ other → GoesOn old new (here old (λ source program progress. continued source program progress other))
    → GoesOn old new (here old (λ source program progress. continued source program progress next))
continues_at old new next other is goes =
    let P : Continuation → Type 0 = λ t. GoesOn old new (here old (λ source program progress. continued source program progress t)) in subst P (sym is) goes

-- a record is written to its file, or refused
pub stored_done : (old new : Stepper) (walk : Walk) (next : ℕ) → GoesOn old new (here old (λ source program progress. lines_from source program progress walk next))
    → GoesOn old new (here old (λ source program progress. stored_or_halted (again source) (lines_from source program progress walk next) Meant.Done))
unfolding stored_or_halted
stored_done old new walk next goes = goes

pub stored_refused : (old new : Stepper) (walk : Walk) (next : ℕ) (code : HaltCode) → GoesOn old new (here old (λ source program progress. halted (again source) code (lines_from source program progress walk next)))
    → GoesOn old new (here old (λ source program progress. stored_or_halted (again source) (lines_from source program progress walk next) (Meant.Refused code)))
unfolding stored_or_halted
stored_refused old new walk next code goes = goes

-- a job that has ended has no answer
pub never_answered : (p : Program) (positions : List (Option ℕ)) (request : Request) (at_once : Bool) (answer : Answer) → request ≡ asks.End at_once → fits (request_of p positions request) answer ≡ true → ⊥
unfolding request_of
never_answered p positions request at_once answer is h =
    true≢false (sym h ∙ ap (λ (r : Request). fits (request_of p positions r) answer) is)

-- a file is read again
pub head_read : (old new : Stepper) (place : ℕ) → GoesOn old new (here old (λ source program progress. file_read source (again source) (input_at (inputs_in program progress) place) (head_put source program progress place)))
    → GoesOn old new (here old (λ source program progress. head_again source program progress place))
head_read old new place goes =
    goes_as old new _ _
    (fun_ext (λ (answers : List Answer). again-read (own old) (input_at (inputs_in old.program old.progress) place) (head_put (own old) old.program old.progress place) (held_by old) answers)) goes
