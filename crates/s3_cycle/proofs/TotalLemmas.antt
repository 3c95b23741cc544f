-- Total time, overflow lines and detail time: sections from their start, and what follows them.
use Rattle.std.proofs.Common.{◌≡◌, ◌||◌, ℕ, Bool, true, false, List, [], ◌∷◌, ◌++◌, Option, Some, None, if◌then◌else◌, ◌⊎◌, inl, inr, refl, sym, ap, ◌∙◌, subst}
use Rattle.s3_lines.specs.declared.indicator.Indicator.{Indicator}
use Rattle.s3_lines.specs.declared.indicator.Indicator.TheVariants.{LastRecord}
use Rattle.s3_meaning.specs.Calculations.{Calculation}
use Rattle.s3_meaning.specs.Calculating.{calculated}
use Rattle.s3_meaning.specs.Environment.{Environment}
use Rattle.s3_meaning.specs.Source.{Source, total_calculations, overflow_of}
use Rattle.s3_meaning.specs.Runs.{Rest, Anew, ended}
use Rattle.s3_meaning.specs.Output.{is_heading_or_detail, is_total_line, lines_put}
use Rattle.s3_meaning.specs.Cycle.{again, totals, last_time, without_overflow, has_overflowed, overflow_lines}
use Rattle.s3_program.specs.declared.program.Program.{Program}
use Rattle.s3_program.specs.declared.starts.Walk.{Walk}
use Rattle.s3_program.specs.declared.starts.Walk.TheVariants as walk
use Rattle.s3_program.specs.Inner.Stands.{source_named}
use Rattle.s3_sections.specs.declared.spot.Spot.{Spot}
use Rattle.s3_sections.specs.declared.course.Course.{Course}
use Rattle.s3_sections.specs.Inner.Sections.{rest_of}
use Rattle.s3_sections.specs.Inner.Courses.{IsCourse, goes_through, spots_of}
use Rattle.s3_cycle.specs.declared.progress.Progress.{Progress}
use Rattle.s3_cycle.specs.declared.progress.Selection.{Selection}
use Rattle.s3_cycle.specs.declared.progress.Time.{Time}
use Rattle.s3_cycle.specs.declared.progress.Time.TheVariants as time
use Rattle.s3_cycle.specs.declared.stepper.Stepper.{Stepper}
use Rattle.s3_cycle.specs.Inner.Rest.{after_calculations, after_lines, calculating, lines_from, lines_then, overflow_end, record_moved, totals_done, totals_end}
use Rattle.s3_operations.specs.declared.values.Values.{Values}
use Rattle.s3_operations.specs.Inner.Held.{IsSound}
use Rattle.s3_instructions.specs.Inner.Calculations.{passed_over}
use Rattle.s3_instructions.specs.Inner.Guards.{guard_holds}
use Rattle.s3_instructions.proofs.StandLemmas.{forgets}
use Rattle.s3_cycle.specs.Inner.Calculating.{IsAtTotals, IsOver}
use Rattle.s3_cycle.specs.Inner.Environment.{environment, others}
use Rattle.s3_cycle.specs.Inner.Entries.{turn_entry, is_entry_on}
use Rattle.s3_cycle.specs.Inner.Going.{own, held_by, here, Changes, GoesOn, IsOverflowTime, IsRunning, IsTaken, IsTime, IsTotalTime}
use Rattle.s3_cycle.specs.Inner.Lines.{PassesAll}
use Rattle.s3_cycle.proofs.CalculatingLemmas.{at_values, moved_running, with_values}
use Rattle.s3_cycle.proofs.GoingLemmas.{goes_then, goes_as, goes_changed}
use Rattle.s3_cycle.proofs.PrintLemmas.{own_overflow}
use Rattle.s3_cycle.proofs.WalkLemmas.{all_lines}

-- ---- a run at another time
abbrev pub at_time : Stepper → Time → Course → Stepper
at_time c t course = record c { progress = record c.progress { time = t; course = course } }

-- ---- a section from its start
pub record Begins (program : Program) (lines : List Calculation) (spot : Spot) (course : Course) : Type 0 where
  pub is : IsCourse program course
  pub here : course.here ≡ spot
  pub returns : course.returns.items ≡ []
  pub whole : lines ≡ rest_of program spot.section spot.begin
  pub all : spot.place ≡ spot.begin

pub section_begun : (program : Program) (anew : Anew) (go : Rest) (lines : List Calculation) (spot : Spot) (course : Course) → Begins program lines spot course
    → goes_through program anew go (spots_of course) ≡ calculated (source_named program) anew lines go None lines
section_begun program anew go lines spot course begins =
    (λ i. goes_through program anew go (begins.returns i ++ begins.here i ∷ []))
    ∙ (ap (λ (k : ℕ). calculated (source_named program) anew (rest_of program spot.section spot.begin) go None (rest_of program spot.section k)) begins.all
    ∙ ap (λ (ls : List Calculation). calculated (source_named program) anew ls go None ls) (sym begins.whole))

-- the total calculations
pub at_totals : (program : Program) (spot : Spot) (course : Course) → Begins program (total_calculations (source_named program)) spot course → IsAtTotals program course
at_totals program spot course begins = record {
  whole = ap (λ (k : Spot). rest_of program k.section k.begin) begins.here ∙ sym begins.whole;
  first = ap (λ (k : Spot). k.place) begins.here ∙ (begins.all ∙ ap (λ (k : Spot). k.begin) (sym begins.here));
  returns = begins.returns;
}

-- the run after total calculations that were passed over
abbrev pub totals_passed : Stepper → Stepper
totals_passed c = at_values c (passed_over c.totals_guard.divides c.state.values)

passed_sound : (p : Program) (divides : Bool) (values : Values) → IsSound p values → IsSound p (passed_over divides values)
passed_sound p true values sound = forgets p values sound
passed_sound p false values sound = sound

-- if the totals guard doesn't hold, all total calculations are passed over
pub totals_over : (c : Stepper) → IsRunning c → IsAtTotals c.program c.progress.course → guard_holds c.state.values.indicators c.totals_guard.levels ≡ false → IsOver c (totals_passed c)
unfolding environment
totals_over c running totals off =
    let go : Rest = after_calculations (own c) c.program c.progress c.progress.time in
    let values : Values = passed_over c.totals_guard.divides c.state.values in
    record {
      calculates = record {
        program = refl;
        reading = refl;
        time = refl;
        running = moved_running c (with_values c.state values) c.progress.course running (record { values = passed_sound c.program c.totals_guard.divides c.state.values running.state.values; current = running.state.current });
      };
      runs =
          (λ i. goes_through c.program (again (own c)) go (totals.returns i ++ c.progress.course.here ∷ []) (held_by c))
          ∙ (ap (λ (k : ℕ). calculated (own c) (again (own c)) (rest_of c.program c.progress.course.here.section c.progress.course.here.begin) go None (rest_of c.program c.progress.course.here.section k) (held_by c)) totals.first
          ∙ (ap (λ (lines : List Calculation). calculated (own c) (again (own c)) lines go None lines (held_by c)) totals.whole
          ∙ running.totals_guard c.state.values off (again (own c)) go (others c.program c.state)));
    }

-- total calculations, T lines, and what follows
totals_begun : (program : Program) (go : Rest) (spot : Spot) (course : Course) → Begins program (total_calculations (source_named program)) spot course
    → goes_through program (again (source_named program)) (lines_then (source_named program) program walk.Totals 0 go) (spots_of course) ≡ totals (source_named program) (again (source_named program)) go
unfolding totals
totals_begun program go spot course begins =
    section_begun program (again (source_named program)) (lines_then (source_named program) program walk.Totals 0 go) (total_calculations (source_named program)) spot course begins
    ∙ ap (λ (rest : Rest). calculated (source_named program) (again (source_named program)) (total_calculations (source_named program)) rest None (total_calculations (source_named program)))
    (all_lines program walk.Totals go)

pub last_totals : (old new : Stepper) (spot : Spot) (course : Course) → Begins old.program (total_calculations (own old)) spot course
    → GoesOn (at_time old time.Last course) new (here (at_time old time.Last course) calculating) → GoesOn old new (here old (λ source program progress. last_time source (again source)))
unfolding last_time
last_totals old new spot course begins goes =
    goes_then old (at_time old time.Last course) new _ _ refl (sym (ap (λ (run : Rest). run (held_by old)) (totals_begun old.program (ended false) spot course begins))) goes

pub record_totals : (old new : Stepper) (selection : Selection) (spot : Spot) (course : Course) → Begins old.program (total_calculations (own old)) spot course
    → GoesOn (at_time old (time.Totals selection) course) new (here (at_time old (time.Totals selection) course) calculating)
    → GoesOn old new (here old (λ source program progress. totals source (again source) (totals_done source program progress selection)))
unfolding totals_done record_moved
record_totals old new selection spot course begins goes =
    goes_then old (at_time old (time.Totals selection) course) new _ _ refl
    (sym (ap (λ (run : Rest). run (held_by old)) (totals_begun old.program (totals_done (own old) old.program old.progress selection) spot course begins))) goes

-- ---- after calculations
-- T lines are written at total time
pub total_lines : (p : Program) (progress : Progress) (t : Time) → IsOverflowTime p progress t → IsTotalTime p progress t
total_lines p progress (time.Details selection) is = is
total_lines p progress (time.Totals selection) is = is
total_lines p progress time.Last is = tt

pub before_record : (p : Program) (progress : Progress) (t : Time) (selection : Selection) → t ≡ time.Totals selection → IsTotalTime p progress t → IsOverflowTime p progress t
before_record p progress (time.Details other) selection same is = is
before_record p progress (time.Totals other) selection same is = is
before_record p progress time.Last selection same is = cc

details_totals : (p : Program) (progress : Progress) (selection other : Selection) → time.Details selection ≡ time.Totals other → IsTotalTime p progress (time.Details selection)
details_totals p progress selection other is = cc

details_last : (p : Program) (progress : Progress) (selection : Selection) → time.Details selection ≡ time.Last → IsTotalTime p progress (time.Details selection)
details_last p progress selection is = cc

pub totals_time : (p : Program) (progress : Progress) (t : Time) → IsTime p progress t → ((selection : Selection) × (t ≡ time.Totals selection)) ⊎ (t ≡ time.Last) → IsTotalTime p progress t
totals_time p progress (time.Details selection) is (inl totals) = details_totals p progress selection totals.0 totals.1
totals_time p progress (time.Details selection) is (inr last) = details_last p progress selection last
totals_time p progress (time.Totals selection) is which = is
totals_time p progress time.Last is which = is

-- T lines follow total calculations
lines_after : (source : Source) (p : Program) (progress : Progress) (t : Time) → IsTotalTime p progress t → after_calculations source p progress t ≡ lines_then source p walk.Totals 0 (totals_end source p progress t)
lines_after source p progress (time.Details selection) is = absurd is
lines_after source p progress (time.Totals selection) is = refl
lines_after source p progress time.Last is = refl

pub lines_follow : (old new : Stepper) → IsTotalTime old.program old.progress old.progress.time → GoesOn old new (here old (λ source program progress. lines_from source program progress walk.Totals 0))
    → GoesOn old new (here old (λ source program progress. after_calculations source program progress progress.time))
lines_follow old new is goes =
    goes_as old new _ _ (ap (λ (rest : Rest). rest (held_by old)) (lines_after (own old) old.program old.progress old.progress.time is)) goes

pub total_lines_follow : (old mid new : Stepper) → IsOver old mid → IsOverflowTime mid.program mid.progress mid.progress.time
    → GoesOn mid new (here mid (λ source program progress. lines_from source program progress walk.Totals 0)) → GoesOn old new (here old calculating)
total_lines_follow old mid new over is goes =
    goes_then old mid new _ _ over.calculates.program over.runs (lines_follow mid new (total_lines mid.program mid.progress mid.progress.time is) goes)

-- ---- after output lines
pub passed_all : (old mid new : Stepper) (w : Walk) (next : ℕ) (meant : Source → Program → Progress → Rest) → mid ≡ old → PassesAll old w next
    → after_lines (own old) old.program old.progress w (held_by old) ≡ here old meant → GoesOn mid new (here mid meant)
    → GoesOn old new (here old (λ source program progress. lines_from source program progress w next))
passed_all old mid new w next meant same passes after goes =
    let P : Stepper → Type 0 = λ k. GoesOn k new (here k meant) in
    goes_as old new _ _ (passes (after_lines (own old) old.program old.progress w) ∙ after) (subst P same goes)

pub same_running : (old mid : Stepper) → mid ≡ old → IsRunning old → IsRunning mid
same_running old mid same running = let P : Stepper → Type 0 = λ k. IsRunning k in subst P (sym same) running

pub same_taken : (old mid : Stepper) (selection : Selection) → mid ≡ old → IsTaken old.program old.progress selection → IsTaken mid.program mid.progress selection
same_taken old mid selection same taken = let P : Stepper → Type 0 = λ k. IsTaken k.program k.progress selection in subst P (sym same) taken

pub same_totals : (old mid : Stepper) → mid ≡ old → IsOverflowTime old.program old.progress old.progress.time → IsOverflowTime mid.program mid.progress mid.progress.time
same_totals old mid same is = let P : Stepper → Type 0 = λ k. IsOverflowTime k.program k.progress k.progress.time in subst P (sym same) is

-- ---- step 8
pub ends_there : (old new : Stepper) (selection : Selection) → (held_by old).on LastRecord ≡ true
    → GoesOn old new (here old (λ source program progress. ended false)) → GoesOn old new (here old (λ source program progress. totals_done source program progress selection))
unfolding totals_done
ends_there old new selection on goes =
    goes_as old new _ _
    (ap (λ (b : Bool). (if b then ended false else overflow_lines (own old) (again (own old)) (record_moved (own old) old.program old.progress selection)) (held_by old)) on) goes

pub goes_past : (old new : Stepper) (selection : Selection) → (held_by old).on LastRecord ≡ false
    → GoesOn old new (here old (λ source program progress. overflow_lines source (again source) (record_moved source program progress selection)))
    → GoesOn old new (here old (λ source program progress. totals_done source program progress selection))
unfolding totals_done
goes_past old new selection off goes =
    goes_as old new _ _
    (ap (λ (b : Bool). (if b then ended false else overflow_lines (own old) (again (own old)) (record_moved (own old) old.program old.progress selection)) (held_by old)) off) goes

-- the end of the job at the totals before a record
pub total_ends : (old new : Stepper) (t : Time) → IsOverflowTime old.program old.progress t → (held_by old).on LastRecord ≡ true
    → GoesOn old new (here old (λ source program progress. ended false)) → GoesOn old new (here old (λ source program progress. totals_end source program progress t))
total_ends old new (time.Details selection) is on goes = absurd is
total_ends old new (time.Totals selection) is on goes = ends_there old new selection on goes
total_ends old new time.Last is on goes = absurd is

pub total_passes : (old new : Stepper) (selection : Selection) → old.progress.time ≡ time.Totals selection → (held_by old).on LastRecord ≡ false
    → GoesOn old new (here old (λ source program progress. overflow_lines source (again source) (record_moved source program progress selection)))
    → GoesOn old new (here old (λ source program progress. totals_end source program progress progress.time))
total_passes old new selection is off goes =
    let P : Time → Type 0 = λ t. GoesOn old new (here old (λ source program progress. totals_end source program progress t)) in
    subst P (sym is) (goes_past old new selection off goes)

-- ---- step 9
has_is : (source : Source) (e : Environment) (entry : Option Indicator) → overflow_of source.files ≡ entry → has_overflowed source e ≡ is_entry_on e entry
has_is source e None is = rw is refl
has_is source e (Some indicator) is = rw is refl

without_is : (source : Source) (e : Environment) (entry : Option Indicator) → overflow_of source.files ≡ entry → without_overflow source e ≡ turn_entry entry false e
without_is source e None is = rw is refl
without_is source e (Some indicator) is = rw is refl

abbrev overflow_by : Stepper → Selection → Bool → Rest
overflow_by c selection b =
    if b
    then lines_put (own c) (again (own c)) (λ kind. is_heading_or_detail kind || is_total_line kind) true (own c).outputs (λ e. record_moved (own c) c.program c.progress selection (without_overflow (own c) e))
    else record_moved (own c) c.program c.progress selection

overflow_when : (c : Stepper) (selection : Selection) (b : Bool) → IsRunning c → is_entry_on (held_by c) c.overflow ≡ b
    → overflow_lines (own c) (again (own c)) (record_moved (own c) c.program c.progress selection) (held_by c) ≡ overflow_by c selection b (held_by c)
unfolding overflow_lines
overflow_when c selection b running is =
    ap (λ (b' : Bool). overflow_by c selection b' (held_by c)) (has_is (own c) (held_by c) c.overflow (own_overflow c running) ∙ is)

pub overflow_begun : (old new : Stepper) (selection : Selection) → IsRunning old → is_entry_on (held_by old) old.overflow ≡ true
    → GoesOn (at_time old (time.Totals selection) old.progress.course) new (here (at_time old (time.Totals selection) old.progress.course) (λ source program progress. lines_from source program progress walk.Overflow 0))
    → GoesOn old new (here old (λ source program progress. overflow_lines source (again source) (record_moved source program progress selection)))
unfolding record_moved
overflow_begun old new selection running on goes =
    goes_then old (at_time old (time.Totals selection) old.progress.course) new _ _ refl
    (overflow_when old selection true running on
    ∙ sym (ap (λ (rest : Rest). rest (held_by old)) (all_lines old.program walk.Overflow (λ e. record_moved (own old) old.program old.progress selection (without_overflow (own old) e))))) goes

pub overflow_passed : (old new : Stepper) (selection : Selection) → IsRunning old → is_entry_on (held_by old) old.overflow ≡ false
    → GoesOn old new (here old (λ source program progress. record_moved source program progress selection))
    → GoesOn old new (here old (λ source program progress. overflow_lines source (again source) (record_moved source program progress selection)))
overflow_passed old new selection running off goes = goes_as old new _ _ (overflow_when old selection false running off) goes

-- after the overflow lines the overflow indicator goes off
pub overflow_ended : (old mid turned new : Stepper) (selection : Selection) (next : ℕ) → IsRunning old → mid ≡ old → PassesAll old walk.Overflow next → old.progress.time ≡ time.Totals selection
    → Changes mid turned (λ source. turn_entry mid.overflow false) → GoesOn turned new (here turned (λ source program progress. record_moved source program progress selection))
    → GoesOn old new (here old (λ source program progress. lines_from source program progress walk.Overflow next))
overflow_ended old mid turned new selection next running same passes is turns goes =
    let P : Stepper → Type 0 = λ k. Changes k turned (λ source. turn_entry k.overflow false) in
    let changed : GoesOn old new (here old (λ source program progress e. record_moved source program progress selection (turn_entry old.overflow false e))) =
    goes_changed old turned new (λ source. turn_entry old.overflow false) (λ source program progress. record_moved source program progress selection) (subst P same turns) goes in
    passed_all old old new walk.Overflow next (λ source program progress e. record_moved source program progress selection (turn_entry old.overflow false e)) refl passes
    (ap (λ (t : Time). overflow_end (own old) old.program old.progress t (held_by old)) is
    ∙ ap (record_moved (own old) old.program old.progress selection) (without_is (own old) (held_by old) old.overflow (own_overflow old running))) changed
