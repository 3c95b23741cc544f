-- The start of a run: nothing has been read, and no file has a current record.
use Rattle.std.proofs.Common.{◌≡◌, ℕ, ◌<◌, ◌++◌, ◌∙◌, Vec, length, take, get_or, map, replicate, List, [], ◌∷◌, Bool, true, false, not, ◌||◌, refl, sym, ap, subst, zero, suc, arith}
use Rattle.std.specs.Prelude.{Option, None, is_some, slice_get, filter, if◌then◌else◌}
use Rattle.std.specs.Option.{option_and_then}
use Rattle.std.specs.List.{All, list_all, list_any}
use Rattle.std.proofs.Math.Path.{fun_ext}
use Rattle.std.proofs.lemmas.List.{append-nil, drop_all, length-replicate, length-take-le, with_items_is}
use Rattle.std.specs.Vec.{with_items}
use borrow.Rule.Slice.PartMut.{put_mid}
use Rattle.s3_cards.specs.declared.name.Name.{Name}
use Rattle.s3_lines.specs.declared.sheet.FileLine.{FileLine}
use Rattle.s3_meaning.specs.declared.current.Current.{Current}
use Rattle.s3_meaning.specs.Source.{is_input}
use Rattle.s3_meaning.specs.Environment.{Environment, at_first}
use Rattle.s3_meaning.specs.Output.{is_served}
use Rattle.s3_meaning.specs.Selection as meaning
use Rattle.s3_meaning.specs.Cycle.{first_reading, first_standing}
use Rattle.s3_program.specs.declared.program.Program.{Program}
use Rattle.s3_program.specs.Inner.Stands.{source_named}
use Rattle.s3_program.specs.Inner.Tables.{slot_in}
use Rattle.s3_operations.specs.Inner.Fits.{tables}
use Rattle.s3_operations.specs.Inner.Beginning.{Begins}
use Rattle.s3_match.specs.Inner.BeginningEnvironment.{BeginsWith}
use Rattle.s3_match.specs.Inner.Controls.{held_in}
use Rattle.s3_match.specs.Inner.Reading.{IsReading, reading_in}
use Rattle.s3_cycle.specs.declared.progress.Progress.{Progress}
use Rattle.s3_cycle.specs.declared.state.State.{State}
use Rattle.s3_cycle.specs.Inner.Environment.{environment, others}
use Rattle.s3_cycle.specs.Inner.Starting.{BeginsState, BeginsProgress}
use Rattle.s3_cycle.proofs.HeadLemmas.{IsWithin, none_within, heads_kept}

-- ---- no file has a head
headless : (b : Bool) (file : FileLine) → is_some (meaning.head_of (record { file = file; standing = if b then meaning.Unread else meaning.Ended; reads = 0; last_key = None })) ≡ false
headless true file = refl
headless false file = refl

first_headless : (e : Environment) (files : List FileLine) → list_all (λ input. not (is_some (meaning.head_of input))) (map (first_standing e) files) ≡ true
first_headless e [] = refl
first_headless e (file ∷ files) = rw (headless (is_served e file) file, first_headless e files) refl

first_within : (e : Environment) (files : List FileLine) (k : ℕ) (d : meaning.InputFile) → k < length (map (first_standing e) files) → IsWithin (get_or (map (first_standing e) files) k d)
first_within e [] k d within = absurd (omega (arith, within))
first_within e (file ∷ files) zero d within = none_within (first_standing e file) (headless (is_served e file) file)
first_within e (file ∷ files) (suc k) d within = first_within e files k d (omega (arith, within))

either : (a b : Bool) → b ≡ true → (a || b) ≡ true
either true b h = refl
either false b h = h

pub begins_progress : (program : Program) (switches : ℕ) (progress : Progress) → IsReading program progress.reading → ((e : Environment) → BeginsWith switches e → reading_in program progress.reading ≡ first_reading (source_named program) e)
    → BeginsProgress program switches progress
begins_progress program switches progress sound first = record {
  reading = sound;
  heads = heads_kept program progress.reading.files.items sound.inputs (subst (All IsWithin) (sym inputs) (first_within e (filter is_input (source_named program).files)));
  begins = either (list_any meaning.is_unread (reading_in program progress.reading).files) _ (ap (list_all (λ input. not (is_some (meaning.head_of input)))) inputs ∙ first_headless e (filter is_input (source_named program).files));
  first = λ date. first (at_first (source_named program) switches date) (record { on = λ indicator. refl });
}
  where
    e : Environment
    e = at_first (source_named program) switches []

    inputs : (reading_in program progress.reading).files ≡ map (first_standing e) (filter is_input (source_named program).files)
    inputs = ap (λ (r : meaning.Reading). r.files) (first e (record { on = λ indicator. refl }))

-- ---- no file has a current record
pub all_forgotten : {Z : Type 0} (current : Vec (Option Current) Z) (seen given : List (Option Current)) (size : ℕ) → size ≡ length current.items → seen ≡ current.items → given ≡ replicate (length (take size seen)) None
    → (with_items current (put_mid 0 size seen given)).items ≡ replicate (length current.items) None
all_forgotten current seen given size same whole is =
    let none : Option Current = None in
    let long : length seen ≡ length current.items = ap length whole in
    let taken : length (take size seen) ≡ length current.items = length-take-le size seen (omega (arith, long, same)) ∙ same in
    let put : put_mid 0 size seen given ≡ replicate (length current.items) None =
    (λ i. (is ∙ ap (λ n. replicate n None) taken) i ++ drop_all size seen (omega (arith, long, same)) i) ∙ append-nil (replicate (length current.items) None) in
    with_items_is current (put_mid 0 size seen given) (ap length put ∙ omega (arith, current.ok, length-replicate (length current.items) none)) ∙ put

none_there : (files k : ℕ) → option_and_then (λ (entry : Option Current). entry) (slice_get (replicate files None) k) ≡ None
none_there zero k = refl
none_there (suc files) zero = refl
none_there (suc files) (suc k) = none_there files k

pub begins_state : (program : Program) (switches : ℕ) (date : List ℕ) (state : State) → Begins program switches date state.values → state.current.items ≡ replicate (length program.files.items) None
    → ((level : ℕ) → held_in state.controls.held level ≡ None) → state.is_totals_due ≡ false → state.carriage.page ≡ 1 → state.carriage.line ≡ 1 → BeginsState program switches date state
unfolding environment
begins_state program switches date state begins none_current none_held due page line = record {
  sound = record { values = begins.sound; current = ap length none_current ∙ length-replicate (length program.files.items) None };
  held = begins.held (others program state)
      ∙ (λ i. record (at_first (source_named program) switches date) {
        current = fun_ext no_current i;
        held = fun_ext none_held i;
        totals_due = due i;
        page = page i;
        line = line i;
      });
}
  where
    no_current : (name : Name) → (others program state).current name ≡ None
    no_current name =
        ap (λ (current : List (Option Current)). option_and_then (λ entry. entry) (slice_get current (slot_in (tables program).files name))) none_current
        ∙ none_there (length program.files.items) (slot_in (tables program).files name)
