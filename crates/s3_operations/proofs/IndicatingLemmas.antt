-- Indicators that the cycle itself turns on or off.
use Rattle.std.proofs.Common.{◌≡◌, ℕ, ◌+◌, List, [], ◌∷◌, Bool, true, false, not, ◌&&◌, ◌||◌, refl, ◌∙◌, ap, arith}
use Rattle.std.specs.Prelude.{map, if◌then◌else◌}
use Rattle.std.specs.List.{list_all}
use Rattle.std.proofs.Math.Path.{fun_ext}
use Rattle.std.proofs.lemmas.Bool.{and_parts}
use Rattle.std.proofs.lemmas.Bool.Decides.{nat_tests}
use Rattle.s3_lines.specs.declared.indicator.Indicator.{Indicator}
use Rattle.s3_lines.specs.declared.indicator.Indicator.TheVariants.{General, Level, LastRecord, Matching, Halt, FirstPage, Overflow, Switch}
use Rattle.s3_lines.specs.declared.sheet.InputLine.{InputLine}
use Rattle.s3_lines.specs.declared.sheet.InputLine.TheVariants.{Record, And as AndCodes, Or as OrCodes, Field as InputField}
use Rattle.s3_lines.specs.Ranges.{is_record_indicator}
use Rattle.s3_lines.specs.Inner.Ranges.{input_in_range}
use Rattle.s3_meaning.specs.Names.{same_indicator}
use Rattle.s3_meaning.specs.Selection.{is_level_to}
use Rattle.s3_meaning.specs.Environment.{Environment}
use Rattle.s3_program.specs.declared.program.Program.{Program}
use Rattle.s3_program.specs.declared.program.Reference.{Reference}
use Rattle.s3_program.specs.Tables.{Tables}
use Rattle.s3_program.specs.Inner.Tables.{slot_in}
use Rattle.s3_program.specs.Inner.Positions.{are_in_range}
use Rattle.s3_program.specs.Inner.Valid.{meant_input}
use Rattle.s3_program.specs.Inner.Stands.{parts_of}
use Rattle.s3_program.proofs.SlotLemmas.{kept}
use Rattle.s3_operations.specs.declared.values.Values.{Values}
use Rattle.s3_operations.specs.Inner.Fits.{tables}
use Rattle.s3_operations.specs.Inner.Held.{held, number_at, remainder_in, IsSound, Changes}
use Rattle.s3_operations.specs.Inner.Texts.{text_at, texts_of}
use Rattle.s3_operations.specs.Inner.Indicators.{on_in, is_settable, is_settable_entry}
use Rattle.s3_operations.specs.Inner.Indicating.{type_indicator}
use Rattle.s3_operations.proofs.ValueLemmas.{sound_carried}

-- only indicators change
pub turned_by : (f : (Indicator → Bool) → Indicator → Bool) (p : Program) (old new : Values) → IsSound p old → new.numbers.items ≡ old.numbers.items → new.forms.items ≡ old.forms.items → new.texts ≡ old.texts → new.division ≡ old.division
    → ((other : Indicator) → on_in new.indicators other ≡ f (on_in old.indicators) other) → Changes p old new (λ source e. record e { on = f e.on })
unfolding held
turned_by f p old new sound numbers forms texts division turned = record {
  sound = sound_carried p old new sound numbers forms texts;
  held = λ rest i. record rest {
    numbers = λ other. number_at (numbers i) (slot_in (tables p).fields other);
    texts = λ other. text_at (texts_of (texts i)) (slot_in (tables p).fields other);
    on = fun_ext turned i;
    remainder = remainder_in (division i);
  };
}

-- the state of an indicator in the environment
pub held_on : (p : Program) (s : Values) (rest : Environment) (indicator : Indicator) → (held p s rest).on indicator ≡ on_in s.indicators indicator
unfolding held
held_on p s rest indicator = refl

-- ---- levels
pub no_level_yet : (other : Indicator) (to v : Bool) → v ≡ (if is_level_to 0 other then to else v)
no_level_yet (General n) to v = refl
no_level_yet (Level n) to v = rw (none n) refl
  where
    none : (n : ℕ) → is_level_to 0 (Level n) ≡ false
    none n = grind (arith, nat_tests)
no_level_yet LastRecord to v = refl
no_level_yet Matching to v = refl
no_level_yet (Halt n) to v = refl
no_level_yet FirstPage to v = refl
no_level_yet (Overflow n) to v = refl
no_level_yet (Switch n) to v = refl

either : (a b to v : Bool) → (if a then to else (if b then to else v)) ≡ (if (a || b) then to else v)
either true b to v = refl
either false b to v = refl

pub level_more : (k : ℕ) (other : Indicator) (to v w : Bool) → w ≡ (if is_level_to k other then to else v)
    → (if same_indicator other (Level (k + 1)) then to else w) ≡ (if is_level_to (k + 1) other then to else v)
level_more k other to v w before =
    ap (λ (x : Bool). if same_indicator other (Level (k + 1)) then to else x) before
    ∙ (either (same_indicator other (Level (k + 1))) (is_level_to k other) to v ∙ ap (λ (b : Bool). if b then to else v) (next other))
  where
    next : (other : Indicator) → (same_indicator other (Level (k + 1)) || is_level_to k other) ≡ is_level_to (k + 1) other
    next (General n) = refl
    next (Level n) = grind (arith, nat_tests)
    next LastRecord = refl
    next Matching = refl
    next (Halt n) = refl
    next FirstPage = refl
    next (Overflow n) = refl
    next (Switch n) = refl

pub raised_to : (a v : Bool) → (if a then true else v) ≡ (a || v)
raised_to true v = refl
raised_to false v = refl

-- ---- record types
pub turn_once : (a b to v : Bool) → (if b then to else (if a then to else v)) ≡ (if (a || (b || false)) then to else v)
turn_once true true to v = refl
turn_once true false to v = refl
turn_once false true to v = refl
turn_once false false to v = refl

pub record_settable : (indicator : Indicator) → is_record_indicator indicator ≡ true → is_settable indicator ≡ true
record_settable (General n) h = refl
record_settable (Level n) h = refl
record_settable LastRecord h = refl
record_settable Matching h = refl
record_settable (Halt n) h = refl
record_settable FirstPage h = refl
record_settable (Overflow n) h = refl
record_settable (Switch n) h = h

all_settable : (tables : Tables) (lines : List (InputLine Reference)) → list_all input_in_range (map (meant_input tables) lines) ≡ true → list_all is_settable_entry (map type_indicator lines) ≡ true
all_settable tables [] ranged = refl
all_settable tables (Record file indicator codes ∷ lines) ranged =
    let parts = and_parts _ (list_all input_in_range (map (meant_input tables) lines)) ranged in
    rw (record_settable indicator (and_parts (is_record_indicator indicator) _ parts.0).0, all_settable tables lines parts.1) refl
all_settable tables (AndCodes codes ∷ lines) ranged = all_settable tables lines (and_parts _ (list_all input_in_range (map (meant_input tables) lines)) ranged).1
all_settable tables (OrCodes indicator codes ∷ lines) ranged =
    let parts = and_parts _ (list_all input_in_range (map (meant_input tables) lines)) ranged in
    rw (record_settable indicator (and_parts (is_record_indicator indicator) _ parts.0).0, all_settable tables lines parts.1) refl
all_settable tables (InputField field ∷ lines) ranged = all_settable tables lines (and_parts _ (list_all input_in_range (map (meant_input tables) lines)) ranged).1

pub types_settable : (p : Program) → list_all is_settable_entry (map type_indicator p.inputs.items) ≡ true
unfolding are_in_range
types_settable p =
    all_settable (tables p) p.inputs.items (and_parts _ _ (and_parts _ _ (and_parts _ _ (kept (parts_of p) p.valid).ranged).0).0).1

pub off_where : (b v : Bool) → (if b then false else v) ≡ (v && not b)
off_where true true = refl
off_where true false = refl
off_where false true = refl
off_where false false = refl
