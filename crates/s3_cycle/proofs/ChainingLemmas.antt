-- CHAIN: its request, and how the run continues if no record is found.
use Rattle.std.proofs.Common.{◌≡◌, ℕ, suc, ◌+◌, ◌<◌, arith, ℤ, List, [], ◌∷◌, Bool, true, false, length, refl, sym, ap, ◌∙◌, subst}
use Rattle.std.specs.Prelude.{Option, Some, None, slice_get, unwrap_or, if◌then◌else◌}
use Rattle.std.specs.List.{list_all}
use Rattle.std.proofs.lemmas.Bool.{and_parts}
use Rattle.std.proofs.lemmas.Option.{slice_get_within, slice_get-get_or, unwrap_or-slice_get}
use Rattle.s3_lines.specs.Files.{is_chained}
use Rattle.s3_cards.specs.declared.name.Name.{Name}
use Rattle.s3_lines.specs.declared.indicator.Indicator.{Indicator}
use Rattle.s3_lines.specs.declared.sheet.Factor.TheVariants.{Named}
use Rattle.s3_lines.specs.declared.sheet.KeyField.{KeyField}
use Rattle.s3_lines.specs.declared.sheet.FileLine.{FileLine}
use Rattle.s3_lines.specs.declared.sheet.Operation.TheVariants as op
use Rattle.s3_lines.specs.declared.sheet.CalculationLine.{CalculationLine}
use Rattle.s3_meaning.specs.Names.{entries}
use Rattle.s3_meaning.specs.Selection.{type_of}
use Rattle.s3_meaning.specs.Source.{Source, file_named}
use Rattle.s3_meaning.specs.Environment.{Environment, turn}
use Rattle.s3_meaning.specs.Requests.{Answer, Found, Nothing, Done, Refused, Reply, Key, RecordNumber, Chain as ChainRequest}
use Rattle.s3_meaning.specs.Output.{is_served}
use Rattle.s3_meaning.specs.Runs.{Run, Rest, ask}
use Rattle.s3_meaning.specs.Calculations.{name_in}
use Rattle.s3_meaning.specs.Calculating.{all_turned, bytes_in, number_in, sought_in, first_indicator, forgotten, not_found, chained_to, on_chain, performed, chained}
use Rattle.s3_meaning.specs.Cycle.{again}
use Rattle.s3_program.specs.declared.program.Program.{Program}
use Rattle.s3_program.specs.declared.program.Reference.{Reference}
use Rattle.s3_program.specs.declared.program.Reference.TheVariants.{File}
use Rattle.s3_operations.specs.Inner.Chaining.{file_sought, is_chained_file}
use Rattle.s3_operations.specs.Inner.Fits.{named_line}
use Rattle.s3_operations.specs.Inner.Held.{held}
use Rattle.s3_operations.specs.Inner.Indicators.{entry_on, is_settable_entry}
use Rattle.s3_instructions.specs.declared.calculation.chained.Chained.{Chained}
use Rattle.s3_instructions.specs.Inner.Chains.{IsChained}
use Rattle.s3_instructions.specs.Inner.Guards.{test_holds}
use Rattle.s3_operations.proofs.FitLemmas.{brings}
use Rattle.s3_instructions.proofs.ChainLemmas.{file_is_sought}
use Rattle.s3_match.specs.Inner.Heads.{no_file, file_at}
use Rattle.s3_match.specs.Inner.Types.{name_of_file}
use Rattle.s3_match.proofs.ReadingLemmas.{file_named as file_of_name}
use Rattle.s3_sections.specs.declared.course.Course.{Course}
use Rattle.s3_sections.specs.Inner.Courses.{spots_of}
use Rattle.s3_cycle.specs.declared.progress.Progress.{Progress}
use Rattle.s3_cycle.specs.declared.progress.Point.TheVariants as at
use Rattle.s3_cycle.specs.declared.request.FileCall.TheVariants as calls
use Rattle.s3_cycle.specs.declared.request.Request.TheVariants as asks
use Rattle.s3_cycle.specs.declared.request.Sought.{Sought}
use Rattle.s3_cycle.specs.declared.went.Calculated.{Calculated}
use Rattle.s3_cycle.specs.declared.went.Calculated.TheVariants as one
use Rattle.s3_cycle.specs.Inner.Requests.{IsSoughtBy, IsDiskFile, IsChainedBy, request_of}
use Rattle.s3_cycle.specs.declared.stepper.Stepper.{Stepper}
use Rattle.s3_cycle.specs.Inner.Rest.{calculating, answered, chain_answered}
use Rattle.s3_cycle.specs.Inner.Going.{own, held_by, here, IsRunning, CanCalculate, IsChainOf, IsLineAt, IsPastChain, GoesOn, Changes}
use Rattle.s3_cycle.specs.Inner.Entries.{turn_entry}
use Rattle.s3_cycle.specs.Inner.Environment.{environment}
use Rattle.s3_cycle.specs.Inner.Calculating.{Does, IsPerformed, ShowsMiss, Misses, lines_left, performing}
use Rattle.s3_cycle.specs.Inner.Chaining.{DoesChain, Seeks, chaining}
use Rattle.s3_cycle.proofs.GoingLemmas.{changed_running, changed_program, changed_progress, changed_stays, here_changed, goes_as, goes_then, goes_wait}
use Rattle.s3_cycle.proofs.CourseLemmas.{moved, fewer_left}
use Rattle.s3_cycle.proofs.CalculatingLemmas.{with_course, calculating_from, performed_behind}
use Rattle.s3_cycle.proofs.PerformingLemmas.{performs}
use Rattle.s3_cycle.proofs.FileLemmas.{file_tabled, chained_on_disk}

-- ---- the indicator of a CHAIN
first_settable : (entries : List (Option Indicator)) → list_all is_settable_entry entries ≡ true → is_settable_entry (first_indicator entries) ≡ true
first_settable [] all = refl
first_settable (entry ∷ entries) all = (and_parts (is_settable_entry entry) (list_all is_settable_entry entries) all).0

pub chain_settable : (p : Program) (place : ℕ) (line : CalculationLine Reference) → slice_get p.calculations.items place ≡ Some line → line.operation ≡ Some op.Chain → is_settable_entry (first_indicator line.indicators) ≡ true
chain_settable p place line there bears = first_settable line.indicators (brings p line op.Chain (record { place = place; there = there; bears = bears }) refl).settable

-- the indicator of an answered CHAIN isn't a switch
pub answered_settable : (p : Program) (file : ℕ) (missing : Option Indicator) → IsChainOf p file missing → is_settable_entry missing ≡ true
answered_settable p file missing chain = ap is_settable_entry chain.misses ∙ chain_settable p chain.place chain.line chain.there chain.operation

-- ---- the file of a CHAIN
file_there : (p : Program) (file : ℕ) → file < length p.files.items → slice_get p.files.items file ≡ Some (file_at p file)
file_there p file within = slice_get-get_or p.files.items file no_file within ∙ ap (λ (f : FileLine). Some f) (sym (unwrap_or-slice_get p.files.items file no_file))

sought_file : (p : Program) (place file : ℕ) (line : CalculationLine Reference) → slice_get p.calculations.items place ≡ Some line → line.operation ≡ Some op.Chain → line.factor2 ≡ Some (Named (File file)) → file < length p.files.items
    → file_sought p line ≡ Some (file_at p file)
sought_file p place file line there bears names within = (file_is_sought p line file (record { place = place; there = there; bears = bears }) names).file ∙ file_there p file within

pub seeks_key : (source : Source) (e : Environment) (line : CalculationLine Name) (f : FileLine) (key : KeyField) (bytes : List ℕ) → f.key ≡ Some key → bytes ≡ bytes_in source e line.factor1 → Key bytes ≡ sought_in source e line f
seeks_key source e line f key bytes is same = rw is (ap (λ (b : List ℕ). Key b) same)

pub seeks_number : (source : Source) (e : Environment) (line : CalculationLine Name) (f : FileLine) (number : ℤ) → f.key ≡ None → number ≡ (number_in source e line.factor1).numerator → RecordNumber number ≡ sought_in source e line f
seeks_number source e line f number is same = rw is (ap (λ (n : ℤ). RecordNumber n) same)

pub chain_fits : (p : Program) (line : CalculationLine Reference) (place file size : ℕ) (sought_there : Sought) → slice_get p.calculations.items place ≡ Some line → line.operation ≡ Some op.Chain → line.factor2 ≡ Some (Named (File file))
    → file < length p.files.items → size ≡ (file_at p file).record_length → IsSoughtBy (file_at p file).key sought_there → IsDiskFile p.files.items file (IsChainedBy size sought_there)
chain_fits p line place file size sought_there there bears names within sized fits =
    let listed : slice_get p.files.items file ≡ Some (file_at p file) = file_there p file within in
    let chained : is_chained (file_at p file).designation ≡ true =
    ap is_chained_file (sym (sought_file p place file line there bears names within)) ∙ (file_is_sought p line file (record { place = place; there = there; bears = bears }) names).chained in
    record {
      line = file_at p file;
      there = listed;
      on_disk = chained_on_disk (file_at p file) (file_tabled p file (file_at p file) listed) chained;
      suits = record { long = sized; chained = chained; sought_by = fits };
    }

-- ---- no record is found
pub shows_miss : (c new : Stepper) (missing : Option Indicator) (indicator : Indicator) → missing ≡ Some indicator → IsRunning c → Changes c new (λ source. turn indicator true) → ShowsMiss c new missing
unfolding not_found
shows_miss c new missing indicator is running changes = record {
  program = changed_program c new (λ source. turn indicator true) changes;
  progress = changed_progress c new (λ source. turn indicator true) changes;
  running = changed_running c new (λ source. turn indicator true) changes running;
  runs =
      ap (λ (entry : Option Indicator). not_found (again (own c)) entry (calculating (own c) c.program c.progress) (held_by c)) is
      ∙ sym (here_changed c new (λ source. turn indicator true) calculating changes);
}

pub halts_missing : (c new : Stepper) (missing : Option Indicator) → missing ≡ None
    → GoesOn c new (here c (λ source program progress. not_found (again source) None (calculating source program progress)))
    → GoesOn c new (here c (λ source program progress. not_found (again source) missing (calculating source program progress)))
halts_missing c new missing is goes =
    goes_as c new _ _ (ap (λ (entry : Option Indicator). not_found (again (own c)) entry (calculating (own c) c.program c.progress) (held_by c)) is) goes

-- CHAIN finds no record, and the calculations after it continue
pub missed_on : (c mid new : Stepper) (missing : Option Indicator) → ShowsMiss c mid missing → GoesOn mid new (here mid calculating)
    → GoesOn c new (here c (λ source program progress. not_found (again source) missing (calculating source program progress)))
missed_on c mid new missing shows goes = goes_then c mid new _ _ shows.program shows.runs goes

-- ---- a CHAIN, then the calculations after it
-- a line that is a CHAIN in this file
pub record IsChainIn (p : Program) (place : ℕ) (line : CalculationLine Reference) (file : ℕ) : Type 0 where
  pub there : slice_get p.calculations.items place ≡ Some line
  pub bears : line.operation ≡ Some op.Chain
  pub names : line.factor2 ≡ Some (Named (File file))
  pub within : file < length p.files.items

pub chain_in : (p : Program) (place : ℕ) (line : CalculationLine Reference) (chain : Chained) → slice_get p.calculations.items place ≡ Some line → line.operation ≡ Some op.Chain → IsChained p line chain → IsChainIn p place line chain.file
chain_in p place line chain there bears is =
    record { there = there; bears = bears; names = is.names; within = slice_get_within p.files.items chain.file is.file is.there }

chaining_at : (c : Stepper) (place : ℕ) (line : CalculationLine Reference) → slice_get c.program.calculations.items place ≡ Some line
    → here c (chaining place)
    ≡ chained (own c) (again (own c)) (named_line c.program line) (file_named (own c) (name_in (named_line c.program line).factor2)) (calculating (own c) c.program c.progress) (held_by c)
unfolding chaining
chaining_at c place line there = rw there refl

chains_so : (c : Stepper) (place file : ℕ) (line : CalculationLine Reference) → IsChainIn c.program place line file → (b : Bool) → b ≡ is_served (held_by c) (file_at c.program file)
    → here c (chaining place)
    ≡ (if b
    then (λ e'. ask (ChainRequest (name_of_file c.program file) (file_at c.program file).record_length (sought_in (own c) (held_by c) (named_line c.program line) (file_at c.program file)))
    (λ answer. on_chain (own c) (again (own c)) (named_line c.program line) (name_of_file c.program file) (calculating (own c) c.program c.progress) answer e'))
    else not_found (again (own c)) (first_indicator line.indicators) (calculating (own c) c.program c.progress)) (forgotten (own c) (name_of_file c.program file) (held_by c))
unfolding chained
chains_so c place file line it b served =
    chaining_at c place line it.there
    ∙ (ap (λ (o : Option FileLine). chained (own c) (again (own c)) (named_line c.program line) o (calculating (own c) c.program c.progress) (held_by c))
    (sought_file c.program place file line it.there it.bears it.names it.within)
    ∙ (ap (λ (name : Name). run name (is_served (held_by c) (file_at c.program file))) (sym (file_of_name c.program file it.within)) ∙ ap (run (name_of_file c.program file)) (sym served)))
  where
    run : Name → Bool → Run
    run name z =
        (if z
        then (λ e'. ask (ChainRequest name (file_at c.program file).record_length (sought_in (own c) (held_by c) (named_line c.program line) (file_at c.program file)))
        (λ answer. on_chain (own c) (again (own c)) (named_line c.program line) name (calculating (own c) c.program c.progress) answer e'))
        else not_found (again (own c)) (first_indicator line.indicators) (calculating (own c) c.program c.progress)) (forgotten (own c) name (held_by c))

-- whether the file's condition is on
pub served_as : (c : Stepper) (line : CalculationLine Reference) (chain : Chained) (result : Bool) → IsChained c.program line chain → result ≡ test_holds c.state.values.indicators chain.served
    → result ≡ is_served (held_by c) (file_at c.program chain.file)
unfolding environment held
served_as c line chain result is same =
    same ∙ (is.served c.state.values.indicators ∙ (on is.file.condition ∙ ap (λ (o : Option FileLine). entry_served (unwrap_or o no_file)) (sym is.there)))
  where
    entry_served : FileLine → Bool
    entry_served f = is_served (held_by c) f

    on : (entry : Option Indicator) → entry_on c.state.values.indicators entry ≡ is_served (held_by c) (record is.file { condition = entry })
    on None = refl
    on (Some indicator) = refl

-- CHAIN seeks or finds no record
pub chains_missing : (c mid new : Stepper) (place file : ℕ) (missing : Option Indicator) (line : CalculationLine Reference) (result : Calculated) → IsChainIn c.program place line file → missing ≡ first_indicator line.indicators
    → Changes c mid (λ source. forgotten source (name_of_file c.program file)) → false ≡ is_served (held_by c) (file_at c.program file) → Misses mid new missing result → DoesChain c new place result
chains_missing c mid new place file missing line result it is changes served misses = by result misses
  where
    change : Source → Environment → Environment
    change source = forgotten source (name_of_file c.program file)

    same : here c (chaining place) ≡ here mid (λ source program progress. not_found (again source) missing (calculating source program progress))
    same =
        chains_so c place file line it false served
        ∙ (ap (λ (entry : Option Indicator). not_found (again (own c)) entry (calculating (own c) c.program c.progress) (forgotten (own c) (name_of_file c.program file) (held_by c))) (sym is)
        ∙ sym (here_changed c mid change (λ source program progress. not_found (again source) missing (calculating source program progress)) changes))

    by : (r : Calculated) → Misses mid new missing r → DoesChain c new place r
    by one.GoesOn m = record {
      program = m.program ∙ changed_program c mid change changes;
      progress = m.progress ∙ changed_progress c mid change changes;
      running = m.running;
      runs = sym (same ∙ m.runs);
    }
    by one.Waits m = goes_then c mid new _ _ (changed_program c mid change changes) same m

-- an indicator, if there is one, is turned off
entry_off : (entry : Option Indicator) (e : Environment) → all_turned false (entries (entry ∷ [])) e ≡ turn_entry entry false e
entry_off None e = refl
entry_off (Some indicator) e = refl

-- what follows an answer depends only on the file and the indicator
answered_so : (source : Source) (p : Program) (progress : Progress) (file : ℕ) (missing : Option Indicator) (line : CalculationLine Reference) (e : Environment) → missing ≡ first_indicator line.indicators → (answer : Answer)
    → on_chain source (again source) (named_line p line) (name_of_file p file) (calculating source p progress) answer e ≡ chain_answered source p progress file missing answer e
unfolding on_chain
answered_so source p progress file missing line e is (Found bytes) =
    ap (chained_to (again source) (name_of_file p file) bytes (type_of source (name_of_file p file) bytes) (calculating source p progress))
    (entry_off (first_indicator line.indicators) e ∙ ap (λ (entry : Option Indicator). turn_entry entry false e) (sym is))
answered_so source p progress file missing line e is Nothing = ap (λ (entry : Option Indicator). not_found (again source) entry (calculating source p progress) e) (sym is)
answered_so source p progress file missing line e is Done = ap (λ (entry : Option Indicator). not_found (again source) entry (calculating source p progress) e) (sym is)
answered_so source p progress file missing line e is (Refused code) = ap (λ (entry : Option Indicator). not_found (again source) entry (calculating source p progress) e) (sym is)
answered_so source p progress file missing line e is (Reply digit) = ap (λ (entry : Option Indicator). not_found (again source) entry (calculating source p progress) e) (sym is)

-- CHAIN seeks a record
pub chains_waiting : (c mid new : Stepper) (place file size : ℕ) (missing : Option Indicator) (line : CalculationLine Reference) (seeks : Sought) → IsRunning c → CanCalculate c.program c.progress → c.progress.course.here.place ≡ place + 1 → IsChainIn c.program place line file
    → missing ≡ first_indicator line.indicators → Changes c mid (λ source. forgotten source (name_of_file c.program file)) → true ≡ is_served (held_by c) (file_at c.program file) → size ≡ (file_at c.program file).record_length → Seeks c line file seeks
    → new ≡ record mid { request = asks.File file (calls.Chain size seeks); point = at.Chained file missing } → GoesOn c new (here c (chaining place))
unfolding request_of
chains_waiting c mid new place file size missing line seeks running calculates next it is changes served sized sought_there same =
    goes_then c mid new _ _ (changed_program c mid change changes) refl
    (goes_wait mid new (asks.File file (calls.Chain size seeks)) (at.Chained file missing) (here c (chaining place)) same
    (changed_running c mid change changes running)
    (changed_stays (λ p progress. (IsChainOf p file missing × (size ≡ (file_at p file).record_length)) × (CanCalculate p progress × IsPastChain p progress)) c mid change changes
    ((record { place = place; line = line; there = it.there; operation = it.bears; names = it.names; within = it.within; misses = is }, sized), (calculates, record { place = place; is_chain = record { line = line; there = it.there; operation = it.bears }; is_next = next })))
    tt
    (changed_stays (λ p progress. IsDiskFile p.files.items file (IsChainedBy size seeks)) c mid change changes
    (chain_fits c.program line place file size seeks it.there it.bears it.names it.within sized sought_there.by))
    (chains_so c place file line it true served ∙ asked))
  where
    change : Source → Environment → Environment
    change source = forgotten source (name_of_file c.program file)

    named : CalculationLine Name
    named = named_line c.program line

    after_answer : (answer : Answer)
        → on_chain (own c) (again (own c)) named (name_of_file c.program file) (calculating (own c) c.program c.progress) answer (forgotten (own c) (name_of_file c.program file) (held_by c))
        ≡ here mid (λ source program progress. answered source program progress (at.Chained file missing) answer)
    after_answer answer =
        answered_so (own c) c.program c.progress file missing line (forgotten (own c) (name_of_file c.program file) (held_by c)) is answer
        ∙ sym (here_changed c mid change (λ source program progress. answered source program progress (at.Chained file missing) answer) changes)

    asked : ask (ChainRequest (name_of_file c.program file) (file_at c.program file).record_length (sought_in (own c) (held_by c) named (file_at c.program file)))
        (λ answer. on_chain (own c) (again (own c)) named (name_of_file c.program file) (calculating (own c) c.program c.progress) answer (forgotten (own c) (name_of_file c.program file) (held_by c)))
        ≡ ask (request_of mid.program mid.composition (asks.File file (calls.Chain size seeks))) (λ answer. answered (own mid) mid.program mid.progress (at.Chained file missing) answer (held_by mid))
    asked =
        λ i. ask
        (ChainRequest (name_of_file (sym (changed_program c mid change changes) i) file) (sym sized i) (sym sought_there.value i))
        (λ answer. after_answer answer i)

-- ---- a performed CHAIN: the course continues after it
pub chain_line : (c : Stepper) (place : ℕ) → IsPerformed c place op.Chain → IsLineAt c.program place op.Chain
chain_line c place performs_it = record { line = performs_it.line; there = performs_it.there; operation = performs_it.bears }

performs_chain : (c : Stepper) (course : Course) (place : ℕ) → IsPerformed c place op.Chain → course ≡ moved c.progress.course (suc place) → here c (performing place) ≡ here (with_course c c.state course) (chaining place)
unfolding performed
performs_chain c course place performs_it there =
    subst (λ (k : Course). here c (performing place) ≡ here (with_course c c.state k) (chaining place)) (sym there)
    (performs c place op.Chain performs_it
    ∙ (ap (λ (go : Rest). chained (own c) (again (own c)) (named_line c.program performs_it.line) (file_named (own c) (name_in (named_line c.program performs_it.line).factor2)) go (held_by c))
    (sym (calculating_from c (moved c.progress.course (suc place))))
    ∙ sym (chaining_at (with_course c c.state (moved c.progress.course (suc place))) place performs_it.line performs_it.there)))

pub chains_done : (c new : Stepper) (course : Course) (place : ℕ) (result : Calculated) → IsPerformed c place op.Chain → course ≡ moved c.progress.course (suc place) → DoesChain (with_course c c.state course) new place result
    → Does (here c (performing place)) c new result
chains_done c new course place result performs_it there does = by result does
  where
    same : here c (performing place) ≡ here (with_course c c.state course) (chaining place)
    same = performs_chain c course place performs_it there

    fewer : lines_left c.program (spots_of course) < lines_left c.program (spots_of c.progress.course)
    fewer = subst (λ (k : Course). lines_left c.program (spots_of k) < lines_left c.program (spots_of c.progress.course)) (sym there)
        (fewer_left c.program c.progress.course place (suc place) performs_it.line performs_it.there performs_it.ahead (omega arith))

    by : (r : Calculated) → DoesChain (with_course c c.state course) new place r → Does (here c (performing place)) c new r
    by one.GoesOn d = record {
      calculates = record {
        program = d.program;
        reading = ap (λ (g : Progress). g.reading) d.progress;
        time = ap (λ (g : Progress). g.time) d.progress;
        running = d.running;
      };
      calls = subst (λ (p : Program). CanCalculate p new.progress) (sym d.program) (subst (λ (g : Progress). CanCalculate c.program g) (sym d.progress) (performed_behind c course place op.Chain performs_it there));
      runs = d.runs ∙ sym same;
      fewer = subst (λ (p : Program). lines_left p (spots_of new.progress.course) < lines_left c.program (spots_of c.progress.course)) (sym d.program)
          (subst (λ (g : Progress). lines_left c.program (spots_of g.course) < lines_left c.program (spots_of c.progress.course)) (sym d.progress) fewer);
    }
    by one.Waits d = goes_then c (with_course c c.state course) new _ _ refl same d
