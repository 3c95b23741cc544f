-- Files are read in turn: the answer for one file, then the files after it.
use Rattle.std.proofs.Common.{◌≡◌, ℕ, ◌+◌, ◌<◌, ◌≤◌, length, set, List, [], ◌∷◌, Bool, true, false, not, ◌||◌, refl, sym, ◌∙◌, ap, subst, zero, suc, arith}
use Rattle.std.specs.Prelude.{Option, Some, None, is_some, filter_map, find, if◌then◌else◌}
use Rattle.std.specs.Option.{option_or}
use Rattle.std.specs.List.{list_any, list_all}
use Rattle.std.proofs.lemmas.Bool.{and_parts, true≢false}
use Rattle.std.proofs.lemmas.List.{length-map}
use Rattle.s3_lines.specs.declared.indicator.Indicator.TheVariants.{LastRecord}
use Rattle.s3_operator.specs.declared.halt_code.HaltCode.TheVariants.{OutOfSequence, UnidentifiedRecord}
use Rattle.s3_meaning.specs.Source.{Source}
use Rattle.s3_meaning.specs.Environment.{with_last_record}
use Rattle.s3_meaning.specs.Requests.{Found, Nothing}
use Rattle.s3_meaning.specs.Runs.{Run, Rest, halted}
use Rattle.s3_meaning.specs.Selection as meaning
use Rattle.s3_meaning.specs.Selection.{Selected, type_of, match_key, in_sequence, select, selectable, has_met_end, select_at_end, least, primary_first}
use Rattle.s3_meaning.specs.Cycle.{again, counted_read, file_read, cleared, last_time, reading_time, selected_or_last}
use Rattle.s3_program.specs.declared.program.Program.{Program}
use Rattle.s3_program.specs.declared.starts.TypeStart.{TypeStart}
use Rattle.s3_operations.specs.Inner.Indicating.{cleared_of}
use Rattle.s3_match.specs.declared.heads.InputFile.{InputFile}
use Rattle.s3_match.specs.declared.reading.Reading.{Reading}
use Rattle.s3_match.specs.Inner.Heads.{ended, put}
use Rattle.s3_match.specs.Inner.Selecting.{inputs_of}
use Rattle.s3_match.specs.Inner.Reading.{reading_in, input_at, changed_at, read_from, read_behind, on_record, AreRead, IsNextUnread}
use Rattle.s3_match.specs.Inner.Types.{kind_at}
use Rattle.s3_match.proofs.ReadLemmas.{read_whole, read_next, read_none}
use Rattle.s3_match.proofs.AnswerLemmas.{record_counted, record_stands, record_out_of_sequence, record_unidentified, file_ended}
use Rattle.s3_cycle.specs.declared.progress.Progress.{Progress}
use Rattle.s3_cycle.specs.declared.progress.Continuation.TheVariants as after
use Rattle.s3_cycle.specs.declared.stepper.Stepper.{Stepper}
use Rattle.s3_cycle.specs.Inner.Rest.{continued, cycle_from, head_answered, head_put, heads_read, inputs_in}
use Rattle.s3_cycle.specs.Inner.Going.{own, held_by, here, CanBegin, Changes, GoesOn}
use Rattle.s3_cycle.proofs.GoingLemmas.{goes_then, goes_as, goes_changed}

-- ---- the run with another reading
abbrev pub with_reading : Stepper → Reading → Stepper
with_reading c reading = record c { progress = record c.progress { reading = reading } }

-- a continuation of the inputs, after a file has changed
pub by_reading : (source : Source) (program : Program) (old new : Progress) (place : ℕ) (change : meaning.InputFile → meaning.InputFile) (meant : List meaning.InputFile → (List meaning.InputFile → Rest) → Run)
    → reading_in program new.reading ≡ changed_at place change (reading_in program old.reading)
    → meant (inputs_in program new) (heads_read source program new) ≡ meant (set (inputs_in program old) place (change (input_at (inputs_in program old) place))) (heads_read source program old)
unfolding heads_read
by_reading source program old new place change meant same =
    ap (λ (r : meaning.Reading). meant r.files (λ inputs. selected_or_last source (again source) (record { files = inputs; primary_key = r.primary_key }) (select (record { files = inputs; primary_key = r.primary_key })))) same

-- ---- a cycle begins
pub cycle_cleared : (old mid new : Stepper) → Changes old mid cleared_of
    → GoesOn mid new (here mid (λ source program progress e. (if e.on LastRecord then last_time source (again source) else reading_time source (again source) (reading_in program progress.reading)) e)) → GoesOn old new (here old cycle_from)
unfolding cycle_from cleared
cycle_cleared old mid new changes goes =
    goes_changed old mid new cleared_of (λ source program progress e. (if e.on LastRecord then last_time source (again source) else reading_time source (again source) (reading_in program progress.reading)) e) changes goes

pub begins_last : (old mid new : Stepper) (b : Bool) → Changes old mid cleared_of → b ≡ (held_by mid).on LastRecord → b ≡ true → GoesOn mid new (here mid (λ source program progress. last_time source (again source))) → GoesOn old new (here old cycle_from)
begins_last old mid new b changes is on goes =
    cycle_cleared old mid new changes
    (goes_as mid new _ _ (ap (λ (b : Bool). (if b then last_time (own mid) (again (own mid)) else reading_time (own mid) (again (own mid)) (reading_in mid.program mid.progress.reading)) (held_by mid)) (sym is ∙ on)) goes)

pub begins_reading : (old mid new : Stepper) (b : Bool) → Changes old mid cleared_of → b ≡ (held_by mid).on LastRecord → b ≡ false
    → GoesOn mid new (here mid (λ source program progress. read_from source (again source) (inputs_in program progress) 0 (heads_read source program progress))) → GoesOn old new (here old cycle_from)
unfolding reading_time heads_read
begins_reading old mid new b changes is off goes =
    cycle_cleared old mid new changes
    (goes_as mid new _ _
    (ap (λ (b : Bool). (if b then last_time (own mid) (again (own mid)) else reading_time (own mid) (again (own mid)) (reading_in mid.program mid.progress.reading)) (held_by mid)) (sym is ∙ off)
    ∙ ap (λ (r : Rest). r (held_by mid)) (read_whole (own mid) (again (own mid)) (inputs_in mid.program mid.progress) (heads_read (own mid) mid.program mid.progress))) goes)

-- ---- the next file
pub reads_next : (c new : Stepper) (from place : ℕ) → IsNextUnread (inputs_in c.program c.progress) from place
    → GoesOn c new (here c (λ source program progress. file_read source (again source) (input_at (inputs_in program progress) place) (head_put source program progress place)))
    → GoesOn c new (here c (λ source program progress. read_from source (again source) (inputs_in program progress) from (heads_read source program progress)))
reads_next c new from place next goes =
    goes_as c new _ _ (read_next (own c) (again (own c)) (inputs_in c.program c.progress) from place (heads_read (own c) c.program c.progress) (held_by c) next) goes

-- the run and the semantics have equally many files
pub all_read : (program : Program) (files : List InputFile) (from : ℕ) → AreRead (inputs_of program files) from (length files) → AreRead (inputs_of program files) from (length (inputs_of program files))
all_read program files from read = subst (AreRead (inputs_of program files) from) (sym (length-map files _)) read

pub reads_none : (c new : Stepper) (from : ℕ) → from ≤ length c.progress.reading.files.items → AreRead (inputs_in c.program c.progress) from (length c.progress.reading.files.items)
    → GoesOn c new (here c (λ source program progress. heads_read source program progress (inputs_in program progress)))
    → GoesOn c new (here c (λ source program progress. read_from source (again source) (inputs_in program progress) from (heads_read source program progress)))
reads_none c new from within read goes =
    goes_as c new _ _
    (read_none (own c) (again (own c)) (inputs_in c.program c.progress) from (heads_read (own c) c.program c.progress) (held_by c)
    (subst (λ (n : ℕ). from ≤ n) (sym (length-map c.progress.reading.files.items _)) within) (all_read c.program c.progress.reading.files.items from read)) goes

-- ---- if no file is unread, none has a head
none_unread : (inputs : List meaning.InputFile) → ((k : ℕ) → k < length inputs → meaning.is_unread (input_at inputs k) ≡ false) → list_any meaning.is_unread inputs ≡ false
none_unread [] each = refl
none_unread (input ∷ inputs) each =
    (λ i. each zero (omega arith) i || list_any meaning.is_unread inputs) ∙ none_unread inputs (λ k h. each (suc k) (omega (arith, h)))

no_selectable : (inputs : List meaning.InputFile) → list_all (λ input. not (is_some (meaning.head_of input))) inputs ≡ true → filter_map selectable inputs ≡ []
no_selectable [] none = refl
no_selectable (input ∷ inputs) none =
    let parts = and_parts (not (is_some (meaning.head_of input))) (list_all (λ input. not (is_some (meaning.head_of input))) inputs) none in
    by (meaning.head_of input) refl parts.0 (no_selectable inputs parts.1)
  where
    by : (o : Option meaning.Head) → meaning.head_of input ≡ o → not (is_some (meaning.head_of input)) ≡ true → filter_map selectable inputs ≡ [] → filter_map selectable (input ∷ inputs) ≡ []
    by None e h later = rw e later
    by (Some head) e h later = absurd (true≢false (sym (sym (ap (λ (o : Option meaning.Head). not (is_some o)) e) ∙ h)))

none_selected : (reading : meaning.Reading) → list_all (λ input. not (is_some (meaning.head_of input))) reading.files ≡ true → select reading ≡ None
none_selected reading none = at_either (has_met_end reading.files)
  where
    at_either : (b : Bool) → (if b then select_at_end (filter_map selectable reading.files) reading.primary_key else option_or (find (λ selected. not (is_some (meaning.key_of selected))) (filter_map selectable reading.files)) (least (primary_first (filter_map selectable reading.files)))) ≡ None
    at_either true = ap (λ heads. select_at_end heads reading.primary_key) (no_selectable reading.files none)
    at_either false = ap (λ heads. option_or (find (λ selected. not (is_some (meaning.key_of selected))) heads) (least (primary_first heads))) (no_selectable reading.files none)

pub reads_last : (c new : Stepper) → CanBegin c.program c.progress → AreRead (inputs_in c.program c.progress) 0 (length c.progress.reading.files.items)
    → GoesOn c new (here c (λ source program progress e. last_time source (again source) (with_last_record e)))
    → GoesOn c new (here c (λ source program progress. read_from source (again source) (inputs_in program progress) 0 (heads_read source program progress)))
unfolding heads_read selected_or_last
reads_last c new begins read goes =
    reads_none c new 0 (omega arith) read
    (goes_as c new _ _ (ap (λ (o : Option Selected). selected_or_last (own c) (again (own c)) (reading_in c.program c.progress.reading) o (held_by c)) (none_selected (reading_in c.program c.progress.reading) headless)) goes)
  where
    none : list_any meaning.is_unread (inputs_in c.program c.progress) ≡ false
    none = none_unread (inputs_in c.program c.progress) (λ k h. (all_read c.program c.progress.reading.files.items 0 read).each k (omega arith) h)

    headless : list_all (λ input. not (is_some (meaning.head_of input))) (inputs_in c.program c.progress) ≡ true
    headless = sym (ap (λ (b : Bool). b || list_all (λ input. not (is_some (meaning.head_of input))) (inputs_in c.program c.progress)) none) ∙ begins

-- ---- the answer
pub goes_ended : (old new : Stepper) (reading : Reading) (place : ℕ) → reading_in old.program reading ≡ changed_at place ended (reading_in old.program old.progress.reading)
    → GoesOn (with_reading old reading) new (here (with_reading old reading) (λ source program progress. read_from source (again source) (inputs_in program progress) (place + 1) (heads_read source program progress)))
    → GoesOn old new (here old (λ source program progress. head_answered source program progress place Nothing))
goes_ended old new reading place same goes =
    goes_then old (with_reading old reading) new _ _ refl
    (file_ended (own old) (again (own old)) (inputs_in old.program old.progress) place Nothing (heads_read (own old) old.program old.progress) (held_by old) refl
    ∙ sym (by_reading (own old) old.program old.progress (record old.progress { reading = reading }) place ended (λ inputs go. read_from (own old) (again (own old)) inputs (place + 1) go (held_by old)) same)) goes

pub goes_counted : (old new : Stepper) (reading : Reading) (place : ℕ) (bytes : List ℕ) → place < length old.progress.reading.files.items → reading_in old.program reading ≡ changed_at place counted_read (reading_in old.program old.progress.reading)
    → GoesOn (with_reading old reading) new (here (with_reading old reading) (λ source program progress. on_record source (again source) (inputs_in program progress) place bytes (heads_read source program progress)))
    → GoesOn old new (here old (λ source program progress. head_answered source program progress place (Found bytes)))
goes_counted old new reading place bytes within same goes =
    goes_then old (with_reading old reading) new _ _ refl
    (record_counted (own old) (again (own old)) (inputs_in old.program old.progress) place bytes (heads_read (own old) old.program old.progress) (held_by old)
    (subst (λ (n : ℕ). place < n) (sym (length-map old.progress.reading.files.items _)) within)
    ∙ sym (by_reading (own old) old.program old.progress (record old.progress { reading = reading }) place counted_read (λ inputs go. on_record (own old) (again (own old)) inputs place bytes go (held_by old)) same)) goes

pub goes_unidentified : (c new : Stepper) (place : ℕ) (bytes : List ℕ) → type_of (own c) (input_at (inputs_in c.program c.progress) place).file.name bytes ≡ None
    → GoesOn c new (here c (λ source program progress. halted (again source) UnidentifiedRecord (continued source program progress (after.Head place))))
    → GoesOn c new (here c (λ source program progress. on_record source (again source) (inputs_in program progress) place bytes (heads_read source program progress)))
goes_unidentified c new place bytes typed goes =
    goes_as c new _ _ (record_unidentified (own c) (again (own c)) (inputs_in c.program c.progress) place bytes (heads_read (own c) c.program c.progress) (held_by c) typed) goes

pub goes_put : (old new : Stepper) (reading : Reading) (place : ℕ) (start : TypeStart) (bytes : List ℕ) → type_of (own old) (input_at (inputs_in old.program old.progress) place).file.name bytes ≡ Some (kind_at old.program start)
    → in_sequence (match_key (kind_at old.program start) bytes) (input_at (inputs_in old.program old.progress) place).last_key ≡ true → reading_in old.program reading ≡ changed_at place (put old.program start bytes) (reading_in old.program old.progress.reading)
    → GoesOn (with_reading old reading) new (here (with_reading old reading) (λ source program progress. read_from source (again source) (inputs_in program progress) (place + 1) (heads_read source program progress)))
    → GoesOn old new (here old (λ source program progress. on_record source (again source) (inputs_in program progress) place bytes (heads_read source program progress)))
goes_put old new reading place start bytes typed sequence same goes =
    goes_then old (with_reading old reading) new _ _ refl
    (record_stands old.program (again (own old)) (inputs_in old.program old.progress) place start bytes (heads_read (own old) old.program old.progress) (held_by old) typed sequence
    ∙ sym (by_reading (own old) old.program old.progress (record old.progress { reading = reading }) place (put old.program start bytes) (λ inputs go. read_from (own old) (again (own old)) inputs (place + 1) go (held_by old)) same)) goes

pub goes_unsequenced : (old new : Stepper) (reading : Reading) (place : ℕ) (start : TypeStart) (bytes : List ℕ) → type_of (own old) (input_at (inputs_in old.program old.progress) place).file.name bytes ≡ Some (kind_at old.program start)
    → in_sequence (match_key (kind_at old.program start) bytes) (input_at (inputs_in old.program old.progress) place).last_key ≡ false → reading_in old.program reading ≡ reading_in old.program old.progress.reading
    → GoesOn (with_reading old reading) new (here (with_reading old reading) (λ source program progress. halted (again source) OutOfSequence (continued source program progress (after.Head place))))
    → GoesOn old new (here old (λ source program progress. on_record source (again source) (inputs_in program progress) place bytes (heads_read source program progress)))
unfolding heads_read
goes_unsequenced old new reading place start bytes typed sequence same goes =
    goes_then old (with_reading old reading) new _ _ refl
    (record_out_of_sequence (own old) (again (own old)) (inputs_in old.program old.progress) place (kind_at old.program start) bytes (heads_read (own old) old.program old.progress) (held_by old) typed sequence
    ∙ sym (ap (λ (r : meaning.Reading). halted (again (own old)) OutOfSequence
    ((again (own old)).read (input_at r.files place) (read_behind (own old) (again (own old)) r.files place
    (λ inputs. selected_or_last (own old) (again (own old)) (record { files = inputs; primary_key = r.primary_key }) (select (record { files = inputs; primary_key = r.primary_key }))))) (held_by old)) same)) goes

-- the result if the record is in sequence
pub where_put : {A : Type 0} (b : Bool) (x y z : A) → b ≡ true → z ≡ (if b then x else y) → z ≡ x
where_put b x y z is e = e ∙ ap (λ (b : Bool). if b then x else y) is

pub where_not_put : {A : Type 0} (b : Bool) (x y z : A) → b ≡ false → z ≡ (if b then x else y) → z ≡ y
where_not_put b x y z is e = e ∙ ap (λ (b : Bool). if b then x else y) is
