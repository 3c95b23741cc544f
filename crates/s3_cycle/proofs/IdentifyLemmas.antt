-- The record identifying indicator goes on, and control breaks are detected.
use Rattle.std.proofs.Common.{◌≡◌, ℕ, ◌<◌, length, get_or, drop, map, List, [], ◌∷◌, true, ◌||◌, refl, sym, ◌∙◌, ap, subst, zero, suc}
use Rattle.std.specs.Prelude.{Option, is_some, unwrap_or, option_map}
use Rattle.std.specs.Option.{option_or}
use Rattle.std.specs.List.{list_all}
use Rattle.std.proofs.Math.Path.{fun_ext}
use Rattle.std.proofs.lemmas.Bool.{and_parts, true≢false}
use Rattle.std.proofs.lemmas.Option.{slice_get-get_or}
use Rattle.s3_lines.specs.declared.indicator.Indicator.{Indicator}
use Rattle.s3_lines.specs.declared.sheet.InputLine.{InputLine}
use Rattle.s3_lines.specs.declared.sheet.InputLine.TheVariants.{Record, And as AndCodes, Or as OrCodes, Field as InputField}
use Rattle.s3_meaning.specs.Environment.{turn}
use Rattle.s3_meaning.specs.Selection.{Head, broken, control_value, is_level_to}
use Rattle.s3_program.specs.declared.program.Program.{Program}
use Rattle.s3_program.specs.declared.program.Reference.{Reference}
use Rattle.s3_program.specs.declared.starts.TypeStart.{TypeStart}
use Rattle.s3_program.specs.Inner.Started.{type_on}
use Rattle.s3_operations.specs.declared.values.Values.{Values}
use Rattle.s3_operations.specs.Inner.Fits.{tables}
use Rattle.s3_operations.specs.Inner.Held.{held, Changes as ChangesValues}
use Rattle.s3_operations.specs.Inner.Indicating.{type_indicator, with_levels_to}
use Rattle.s3_operations.specs.Inner.Indicators.{is_settable, is_settable_entry}
use Rattle.s3_operations.proofs.IndicatingLemmas.{types_settable}
use Rattle.s3_match.proofs.FieldLemmas.{type_is}
use Rattle.s3_match.specs.declared.controls.Controls.{Controls}
use Rattle.s3_match.specs.declared.heads.InputFile.{InputFile}
use Rattle.s3_match.specs.Inner.Controls.{break_of, held_in}
use Rattle.s3_match.specs.Inner.Reading.{bytes_at}
use Rattle.s3_match.specs.Inner.Types.{no_type, is_type_start, kind_at}
use Rattle.s3_cycle.specs.declared.progress.Selection.{Selection}
use Rattle.s3_cycle.specs.declared.state.State.{State}
use Rattle.s3_cycle.specs.declared.stepper.Stepper.{Stepper}
use Rattle.s3_cycle.specs.Inner.Rest.{selected_of}
use Rattle.s3_cycle.specs.Inner.Environment.{environment, others}
use Rattle.s3_cycle.specs.Inner.Going.{held_by, Changes}
use Rattle.s3_cycle.specs.Inner.Selecting.{identified}

-- ---- a type's indicator isn't a switch
all_behind : (k : ℕ) (lines : List (InputLine Reference)) → list_all is_settable_entry (map type_indicator lines) ≡ true → list_all is_settable_entry (map type_indicator (drop k lines)) ≡ true
all_behind zero lines all = all
all_behind (suc k) [] all = refl
all_behind (suc k) (line ∷ lines) all = all_behind k lines (and_parts (is_settable_entry (type_indicator line)) (list_all is_settable_entry (map type_indicator lines)) all).1

pub kind_settable : (program : Program) (start : TypeStart) → is_type_start program start ≡ true → is_settable (kind_at program start).indicator ≡ true
kind_settable program start starts = by (drop start.place program.inputs.items) (all_behind start.place program.inputs.items (types_settable program)) (type_is program start starts)
  where
    by : (lines : List (InputLine Reference)) → list_all is_settable_entry (map type_indicator lines) ≡ true → is_some (type_on (tables program) program.inputs.items start lines) ≡ true
        → is_settable (unwrap_or (type_on (tables program) program.inputs.items start lines) no_type).indicator ≡ true
    by [] all h = absurd (true≢false (sym h))
    by (Record file indicator codes ∷ lines) all h = (and_parts (is_settable indicator) (list_all is_settable_entry (map type_indicator lines)) all).0
    by (AndCodes codes ∷ lines) all h = absurd (true≢false (sym h))
    by (OrCodes indicator codes ∷ lines) all h = (and_parts (is_settable indicator) (list_all is_settable_entry (map type_indicator lines)) all).0
    by (InputField field ∷ lines) all h = absurd (true≢false (sym h))

-- ---- the break
pub bytes_there : (files : List InputFile) (place : ℕ) (x : InputFile) → place < length files → x ≡ get_or files place x → x.bytes ≡ bytes_at files place
bytes_there files place x within there =
    ap (λ (y : InputFile). y.bytes) there
    ∙ sym (ap (λ (o : Option InputFile). unwrap_or (option_map (λ (input : InputFile). input.bytes) o) []) (slice_get-get_or files place x within))

breaks : (program : Program) (s : State) (values : Values) (controls : Controls) (head : Head) (level : ℕ) → level ≡ break_of (held_in s.controls.held) head.kind head.bytes → ChangesValues program s.values values (λ source. with_levels_to level)
    → ((n : ℕ) → held_in controls.held n ≡ option_or (control_value head.kind head.bytes n) (held_in s.controls.held n)) → environment program (record s { values = values; controls = controls }) ≡ broken head (environment program s)
unfolding environment held
breaks program s values controls head level is changes holds =
    changes.held (others program (record s { values = values; controls = controls }))
    ∙ (λ i. record (environment program s) {
      on = λ (indicator : Indicator). is_level_to (is i) indicator || (environment program s).on indicator;
      held = fun_ext holds i;
    })

pub identifies : (old mid : Stepper) (values : Values) (controls : Controls) (selection : Selection) (indicator : Indicator) (level : ℕ) → Changes old mid (λ source. turn indicator true) → indicator ≡ (kind_at old.program selection.start).indicator
    → level ≡ break_of (held_in mid.state.controls.held) (kind_at mid.program selection.start) (bytes_at mid.progress.reading.files.items selection.place) → ChangesValues mid.program mid.state.values values (λ source. with_levels_to level)
    → ((n : ℕ) → held_in controls.held n ≡ option_or (control_value (kind_at mid.program selection.start) (bytes_at mid.progress.reading.files.items selection.place) n) (held_in mid.state.controls.held n))
    → Changes old (record mid { state = record mid.state { values = values; controls = controls } }) (λ source. identified (selected_of old.program old.progress selection))
identifies old mid values controls selection indicator level before is =
    subst
    (λ (k : Stepper). level ≡ break_of (held_in k.state.controls.held) (kind_at k.program selection.start) (bytes_at k.progress.reading.files.items selection.place) → ChangesValues k.program k.state.values values (λ source. with_levels_to level)
    → ((n : ℕ) → held_in controls.held n ≡ option_or (control_value (kind_at k.program selection.start) (bytes_at k.progress.reading.files.items selection.place) n) (held_in k.state.controls.held n))
    → Changes old (record k { state = record k.state { values = values; controls = controls } }) (λ source. identified (selected_of old.program old.progress selection))) (sym before.stays)
    (λ level_is changes holds. record {
      stays = refl;
      sound = record { values = changes.sound; current = before.sound.current };
      held = breaks old.program mid.state values controls (selected_of old.program old.progress selection).head level level_is changes holds
          ∙ ap (broken (selected_of old.program old.progress selection).head) (before.held ∙ ap (λ (i : Indicator). turn i true (held_by old)) is);
    })
