-- The record that CHAIN finds is kept as the current record of its file, and its fields are moved.
use Rattle.std.proofs.Common.{◌≡◌, ℕ, ◌<◌, ◌≤◌, List, length, Option, Some, slice_set, if◌then◌else◌, refl, sym, ap, ◌∙◌, subst, length-set, Vec, Global, true}
use Rattle.std.proofs.Math.Path.{fun_ext}
use Rattle.s3_cards.specs.declared.name.Name.{Name}
use Rattle.s3_cards.specs.Names.{same_name}
use Rattle.s3_lines.specs.declared.indicator.Indicator.{Indicator}
use Rattle.s3_lines.specs.declared.sheet.FieldLine.{FieldLine}
use Rattle.s3_meaning.specs.declared.current.Current.{Current}
use Rattle.s3_meaning.specs.declared.current.Current.TheVariants.{LastChained}
use Rattle.s3_meaning.specs.Source.{Source}
use Rattle.s3_meaning.specs.Environment.{Environment, put_current, turn}
use Rattle.s3_meaning.specs.Runs.{Rest}
use Rattle.s3_meaning.specs.Moving.{fields_moved}
use Rattle.s3_meaning.specs.Selection.{type_of}
use Rattle.s3_meaning.specs.Calculating.{chained_to}
use Rattle.s3_meaning.specs.Cycle.{again}
use Rattle.s3_program.specs.declared.program.Program.{Program}
use Rattle.s3_program.specs.declared.starts.TypeStart.{TypeStart}
use Rattle.s3_program.specs.Inner.Stands.{source_named}
use Rattle.s3_operations.specs.Inner.Held.{held}
use Rattle.s3_cycle.proofs.WithinLemmas.{fields_within, file_found}
use Rattle.s3_match.specs.Inner.Heads.{file_at}
use Rattle.s3_match.specs.Inner.Types.{is_type_start, kind_at, name_of_file}
use Rattle.s3_match.proofs.ReadingLemmas.{file_named}
use Rattle.s3_sections.specs.Inner.Courses.{goes_through, spots_of}
use Rattle.s3_cycle.specs.declared.progress.Progress.{Progress}
use Rattle.s3_cycle.specs.declared.progress.Time.{Time}
use Rattle.s3_cycle.specs.declared.progress.Time.TheVariants as time
use Rattle.s3_cycle.specs.declared.progress.Moves.TheVariants as moves
use Rattle.s3_cycle.specs.declared.stepper.Stepper.{Stepper}
use Rattle.s3_cycle.specs.Inner.Rest.{after_calculations, calculating, details_done, fields_at, fields_from, record_moved, totals_done}
use Rattle.s3_cycle.specs.Inner.Environment.{current_in, environment}
use Rattle.s3_cycle.specs.Inner.Fields.{found_from}
use Rattle.s3_cycle.specs.Inner.Going.{AreWithin, CanCalculate, CanMove, Changes, GoesOn, IsRunning, IsTime, held_by, here, own}
use Rattle.s3_cycle.proofs.CurrentLemmas.{current_set}
use Rattle.s3_cycle.proofs.GoingLemmas.{goes_as, goes_changed, goes_then}
use Rattle.s3_cycle.proofs.HeadLemmas.{EndWithin, at_most, file_there}
use Rattle.s3_match.proofs.FieldLemmas.{kind_fields}

-- the fields of a record's type lie within the record
pub chained_within : (p : Program) (file : ℕ) (start : TypeStart) (bytes : List ℕ) → file < length p.files.items → is_type_start p start ≡ true → type_of (source_named p) (name_of_file p file) bytes ≡ Some (kind_at p start)
    → (file_at p file).record_length ≤ length bytes → EndWithin bytes (fields_at p start.fields)
chained_within p file start bytes within starts typed long =
    subst (EndWithin bytes) (kind_fields p start starts)
    (at_most (file_at p file).record_length bytes (kind_at p start).fields
    (fields_within p (file_at p file).name bytes (kind_at p start) (file_at p file) (ap (λ (name : Name). type_of (source_named p) name bytes) (sym (file_named p file within)) ∙ typed)
    (file_found p file (file_at p file) (file_there p.files.items file within)))
    long)

pub chained_put : (c : Stepper) (file : ℕ) (current : Vec (Option Current) Global) → IsRunning c → file < length c.program.files.items → current.items ≡ slice_set c.state.current.items file (Some LastChained)
    → Changes c (record c { state = record c.state { current = current } }) (λ source. put_current (name_of_file c.program file) (Some LastChained))
unfolding environment held
chained_put c file current running within is =
    let old : Environment = environment c.program c.state in
    let named : (name : Name) → current_in c.program current.items name ≡ (if same_name name (name_of_file c.program file) then Some LastChained else current_in c.program c.state.current.items name) =
    λ name. ap (λ (items : List (Option Current)). current_in c.program items name) is
    ∙ current_set c.program c.state.current.items file (Some LastChained) name within running.state.current in
    record {
      stays = refl;
      sound = record { values = running.state.values; current = ap (λ (items : List (Option Current)). length items) is ∙ (length-set c.state.current.items file (Some LastChained) ∙ running.state.current) };
      held = ap (λ (currents : Name → Option Current). record old { current = currents }) (fun_ext named);
    }

-- ---- the record is kept
abbrev pub with_record : Progress → Progress → Progress
with_record progress other = record progress { «record» = other.«record» }

still_time : (p : Program) (progress other : Progress) (t : Time) → IsTime p progress t → IsTime p (with_record progress other) t
still_time p progress other (time.Details selection) taken = record {
  record_there = record { within = taken.record_there.within; starts = taken.record_there.starts; fields = taken.record_there.fields };
  begins = taken.begins;
}
still_time p progress other (time.Totals selection) taken = record {
  record_there = record { within = taken.record_there.within; starts = taken.record_there.starts; fields = taken.record_there.fields };
  begins = taken.begins;
}
still_time p progress other time.Last taken = taken

still_behind : (source : Source) (p : Program) (progress other : Progress) (t : Time) → after_calculations source p (with_record progress other) t ≡ after_calculations source p progress t
unfolding details_done totals_done record_moved
still_behind source p progress other (time.Details selection) = refl
still_behind source p progress other (time.Totals selection) = refl
still_behind source p progress other time.Last = refl

still_calculating : (source : Source) (p : Program) (progress other : Progress) → calculating source p (with_record progress other) ≡ calculating source p progress
still_calculating source p progress other = ap (λ (go : Rest). goes_through p (again source) go (spots_of progress.course)) (still_behind source p progress other progress.time)

-- the run with the record that CHAIN found
abbrev pub kept : Stepper → List ℕ → Stepper
kept c bytes = record c { progress = record c.progress { «record» = bytes } }

pub kept_running : (c : Stepper) (bytes : List ℕ) → IsRunning c → IsRunning (kept c bytes)
kept_running c bytes running = record { overflow = running.overflow; state = running.state; reading = running.reading; heads = running.heads; calculations = running.calculations; totals_guard = running.totals_guard; inputs = running.inputs; outputs = running.outputs }

-- ---- the fields of the kept record are moved
pub kept_moves : (c : Stepper) (place : ℕ) (found bytes : List ℕ) → found ≡ bytes → CanCalculate c.program c.progress → AreWithin c.program bytes place → CanMove c.program (kept c found).progress moves.Chained place
kept_moves c place found bytes same calculates within = record {
  moves = record { time = still_time c.program c.progress (kept c found).progress c.progress.time calculates.time; course = calculates.course };
  within = subst (λ (xs : List ℕ). AreWithin c.program xs place) (sym same) within;
}

found_begun : (c : Stepper) (place : ℕ) (bytes : List ℕ) → here c (found_from bytes place) ≡ here (kept c bytes) (λ source program progress. fields_from source program progress moves.Chained place)
unfolding fields_from
found_begun c place bytes =
    ap (λ (go : Rest). fields_moved (again (own c)) (fields_at c.program place) bytes go (held_by c)) (sym (still_calculating (own c) c.program c.progress (kept c bytes).progress))

pub found_moved : (old new : Stepper) (place : ℕ) (found bytes : List ℕ) → found ≡ bytes
    → GoesOn (kept old found) new (here (kept old found) (λ source program progress. fields_from source program progress moves.Chained place)) → GoesOn old new (here old (found_from bytes place))
found_moved old new place found bytes same goes =
    goes_then old (kept old found) new _ _ refl
    (found_begun old place bytes ∙ ap (λ (xs : List ℕ). here (kept old xs) (λ source program progress. fields_from source program progress moves.Chained place)) (sym same)) goes

-- the fields of the kept record lie within it
pub ends_within : (old current : Stepper) (start : TypeStart) (bytes : List ℕ) → current.program ≡ old.program → EndWithin bytes (fields_at old.program start.fields) → AreWithin current.program bytes start.fields
ends_within old current start bytes program within = subst (λ (p : Program). EndWithin bytes (fields_at p start.fields)) (sym program) within

-- the fields of a record of this type are moved, and calculations continue
abbrev pub moved_then : TypeStart → List ℕ → Source → Program → Progress → Rest
moved_then start bytes source program progress = fields_moved (again source) (kind_at program start).fields bytes (calculating source program progress)

goes_found : (old new : Stepper) (start : TypeStart) (bytes : List ℕ) → is_type_start old.program start ≡ true → GoesOn old new (here old (found_from bytes start.fields)) → GoesOn old new (here old (moved_then start bytes))
goes_found old new start bytes starts goes =
    goes_as old new _ _ (ap (λ (fields : List (FieldLine Name)). fields_moved (again (own old)) fields bytes (calculating (own old) old.program old.progress) (held_by old)) (kind_fields old.program start starts)) goes

pub takes_chained : (old turned current new : Stepper) (file : ℕ) (start : TypeStart) (bytes : List ℕ) (indicator : Indicator) → is_type_start old.program start ≡ true → indicator ≡ (kind_at old.program start).indicator
    → turned.program ≡ old.program → current.program ≡ turned.program
    → Changes old turned (λ source. turn indicator true) → Changes turned current (λ source. put_current (name_of_file turned.program file) (Some LastChained))
    → GoesOn current new (here current (found_from bytes start.fields))
    → GoesOn old new (here old (λ source program progress. chained_to (again source) (name_of_file program file) bytes (Some (kind_at program start)) (calculating source program progress)))
unfolding chained_to
takes_chained old turned current new file start bytes indicator starts is program program' turns puts goes =
    let starts' : is_type_start current.program start ≡ true = subst (λ (p : Program). is_type_start p start ≡ true) (sym (program' ∙ program)) starts in
    let behind : GoesOn turned new (here turned (λ source program progress e. moved_then start bytes source program progress (put_current (name_of_file turned.program file) (Some LastChained) e))) =
    goes_changed turned current new (λ source. put_current (name_of_file turned.program file) (Some LastChained)) (moved_then start bytes) puts (goes_found current new start bytes starts' goes) in
    goes_as old new _ _
    (ap (λ (i : Indicator). moved_then start bytes (own old) old.program old.progress (put_current (name_of_file old.program file) (Some LastChained) (turn i true (held_by old)))) (sym is))
    (goes_changed old turned new (λ source. turn indicator true) (λ source program progress e. moved_then start bytes source program progress (put_current (name_of_file program file) (Some LastChained) e)) turns behind)
