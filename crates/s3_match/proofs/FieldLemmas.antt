-- The fields of a record type line by line.
use Rattle.std.proofs.Common.{◌≡◌, ℕ, ◌+◌, ◌<◌, ◌≤◌, ◌==◌, ◌&&◌, length, drop, get_or, List, [], ◌∷◌, Bool, true, false, refl, sym, ◌∙◌, ap, zero, suc, arith, add-zero}
use Rattle.std.specs.Prelude.{Option, Some, None, is_some, IsTrue, IfSome, unwrap_or, option_map, map, filter, find, if◌then◌else◌}
use Rattle.std.specs.Option.{option_and_then, option_or}
use Rattle.std.specs.List.{list_all}
use Rattle.std.proofs.lemmas.Bool.{and_parts, true≢false}
use Rattle.std.proofs.lemmas.Bool.Decides.{nat_tests}
use Rattle.std.proofs.lemmas.List.{at_drop_more, at_drop_all, drop-drop, length-drop, get_or-drop}
use Rattle.s3_cards.specs.declared.name.Name.{Name}
use Rattle.s3_lines.specs.declared.indicator.Indicator.{Indicator}
use Rattle.s3_lines.specs.declared.sheet.FieldLine.{FieldLine}
use Rattle.s3_lines.specs.declared.sheet.InputLine.{InputLine}
use Rattle.s3_lines.specs.declared.sheet.InputLine.TheVariants.{Record, And as AndCodes, Or as OrCodes, Field as InputField}
use Rattle.s3_lines.specs.Inner.Ranges.{field_in_range, input_in_range}
use Rattle.s3_meaning.specs.RecordTypes.{RecordType, group_fields}
use Rattle.s3_meaning.specs.Source.{is_field_of}
use Rattle.s3_program.specs.declared.mark.Key.{Key}
use Rattle.s3_program.specs.declared.mark.Key.TheVariants as key
use Rattle.s3_program.specs.declared.program.Program.{Program}
use Rattle.s3_program.specs.declared.program.Reference.{Reference}
use Rattle.s3_program.specs.declared.starts.TypeStart.{TypeStart}
use Rattle.s3_program.specs.Lines.{map_field}
use Rattle.s3_program.specs.Inner.Positions.{are_in_range}
use Rattle.s3_program.specs.Inner.Started.{type_at, type_on}
use Rattle.s3_program.specs.Inner.Starts.{fields_begin, first_from}
use Rattle.s3_program.specs.Inner.Stands.{parts_of}
use Rattle.s3_program.specs.Tables.{Tables}
use Rattle.s3_program.specs.Inner.Tables.{name_of}
use Rattle.s3_program.specs.Inner.Valid.{named_input, meant_input}
use Rattle.s3_program.proofs.SlotLemmas.{kept}
use Rattle.s3_match.specs.Inner.Types.{tables_in, kind_at, no_type, is_type_start}
use Rattle.s3_match.specs.Inner.Fields.{named_field, is_own, has_level, level_of, field_on, begins_group, first_field, indicator_on, field_of_type, field_at}

-- ---- a loop over lines
field_here : (indicator : Indicator) (key : Key) (level : Option ℕ) (inputs : List (InputLine Reference)) (from k : ℕ) (d : InputLine Reference) → k < length inputs
    → first_field indicator key level (drop from inputs) ≡ first_field indicator key level (drop k inputs)
    → first_field indicator key level (drop from inputs)
    ≡ (if begins_group (get_or inputs k d) then None else option_or (field_on indicator key level (get_or inputs k d)) (first_field indicator key level (drop (k + 1) inputs)))
unfolding first_field
field_here indicator key level inputs from k d within before = before ∙ at_drop_more (first_field indicator key level) inputs k d within

pub group_ends : (indicator : Indicator) (key : Key) (level : Option ℕ) (inputs : List (InputLine Reference)) (from k : ℕ) (d : InputLine Reference) (begins : Bool) → k < length inputs
    → first_field indicator key level (drop from inputs) ≡ first_field indicator key level (drop k inputs)
    → begins ≡ begins_group (get_or inputs k d) → begins ≡ true → None ≡ first_field indicator key level (drop from inputs)
group_ends indicator key level inputs from k d begins within before e is =
    sym (field_here indicator key level inputs from k d within before
    ∙ ap (λ (b : Bool). if b then None else option_or (field_on indicator key level (get_or inputs k d)) (first_field indicator key level (drop (k + 1) inputs))) (sym e ∙ is))

pub no_end : (indicator : Indicator) (key : Key) (level : Option ℕ) (inputs : List (InputLine Reference)) (from k : ℕ) (d : InputLine Reference) (begins : Bool) (field : Option (FieldLine Reference)) → k < length inputs
    → first_field indicator key level (drop from inputs) ≡ first_field indicator key level (drop k inputs)
    → begins ≡ begins_group (get_or inputs k d) → begins ≡ false → field ≡ field_on indicator key level (get_or inputs k d)
    → first_field indicator key level (drop from inputs) ≡ option_or field (first_field indicator key level (drop (k + 1) inputs))
no_end indicator key level inputs from k d begins field within before e off f =
    field_here indicator key level inputs from k d within before
    ∙ ap (λ (b : Bool). if b then None else option_or (field_on indicator key level (get_or inputs k d)) (first_field indicator key level (drop (k + 1) inputs))) (sym e ∙ off)
    ∙ ap (λ (o : Option (FieldLine Reference)). option_or o (first_field indicator key level (drop (k + 1) inputs))) (sym f)

some_or : {X : Type 0} (o rest : Option X) → is_some o ≡ true → option_or o rest ≡ o
some_or None rest is = absurd (true≢false (sym is))
some_or (Some x) rest is = refl

none_or : {X : Type 0} (o rest : Option X) → is_some o ≡ false → option_or o rest ≡ rest
none_or None rest off = refl
none_or (Some x) rest off = absurd (true≢false off)

pub field_found : (indicator : Indicator) (key : Key) (level : Option ℕ) (inputs : List (InputLine Reference)) (from k : ℕ) (d : InputLine Reference) (begins : Bool) (field : Option (FieldLine Reference)) → k < length inputs
    → first_field indicator key level (drop from inputs) ≡ first_field indicator key level (drop k inputs)
    → begins ≡ begins_group (get_or inputs k d) → begins ≡ false → field ≡ field_on indicator key level (get_or inputs k d) → is_some field ≡ true
    → field ≡ first_field indicator key level (drop from inputs)
field_found indicator key level inputs from k d begins field within before e off f is =
    sym (no_end indicator key level inputs from k d begins field within before e off f ∙ some_or field (first_field indicator key level (drop (k + 1) inputs)) is)

pub field_later : (indicator : Indicator) (key : Key) (level : Option ℕ) (inputs : List (InputLine Reference)) (from k : ℕ) (d : InputLine Reference) (begins : Bool) (field : Option (FieldLine Reference)) → k < length inputs
    → first_field indicator key level (drop from inputs) ≡ first_field indicator key level (drop k inputs)
    → begins ≡ begins_group (get_or inputs k d) → begins ≡ false → field ≡ field_on indicator key level (get_or inputs k d) → is_some field ≡ false
    → first_field indicator key level (drop from inputs) ≡ first_field indicator key level (drop (k + 1) inputs)
field_later indicator key level inputs from k d begins field within before e off f none =
    no_end indicator key level inputs from k d begins field within before e off f ∙ none_or field (first_field indicator key level (drop (k + 1) inputs)) none

pub field_nowhere : (indicator : Indicator) (key : Key) (level : Option ℕ) (inputs : List (InputLine Reference)) (from k : ℕ) → length inputs ≤ k
    → first_field indicator key level (drop from inputs) ≡ first_field indicator key level (drop k inputs) → None ≡ first_field indicator key level (drop from inputs)
unfolding first_field
field_nowhere indicator key level inputs from k past before = sym (before ∙ at_drop_all (first_field indicator key level) inputs k past)

-- ---- the fields of the type
step : (kind : RecordType) (wanted : FieldLine Name → Bool) (tables : Tables) (field : FieldLine Reference) (fields : List (FieldLine Name)) (rest : Option (FieldLine Reference)) (own here : Bool)
    → is_field_of kind (map_field (name_of tables) field) ≡ own → wanted (map_field (name_of tables) field) ≡ here
    → option_map (map_field (name_of tables)) rest ≡ find wanted (filter (is_field_of kind) fields)
    → option_map (map_field (name_of tables)) (option_or (if own && here then Some field else None) rest) ≡ find wanted (filter (is_field_of kind) (map_field (name_of tables) field ∷ fields))
step kind wanted tables field fields rest true true e f later = rw e (rw f refl)
step kind wanted tables field fields rest true false e f later = rw e (rw f later)
step kind wanted tables field fields rest false here e f later = rw e later

fields_named : (kind : RecordType) (key : Key) (level : Option ℕ) (tables : Tables) (lines : List (InputLine Reference))
    → option_map (map_field (name_of tables)) (first_field kind.indicator key level lines) ≡ find (λ field. has_level level (level_of key field)) (filter (is_field_of kind) (group_fields (map (named_input tables) lines)))
unfolding first_field
fields_named kind key level tables [] = refl
fields_named kind key level tables (Record file indicator codes ∷ lines) = refl
fields_named kind key level tables (AndCodes codes ∷ lines) = fields_named kind key level tables lines
fields_named kind key level tables (OrCodes indicator codes ∷ lines) = fields_named kind key level tables lines
fields_named kind key.Control level tables (InputField field ∷ lines) =
    step kind (λ field. has_level level (level_of key.Control field)) tables field (group_fields (map (named_input tables) lines)) (first_field kind.indicator key.Control level lines)
    (is_own kind.indicator field.relation) (has_level level field.control_level) refl refl (fields_named kind key.Control level tables lines)
fields_named kind key.Match level tables (InputField field ∷ lines) =
    step kind (λ field. has_level level (level_of key.Match field)) tables field (group_fields (map (named_input tables) lines)) (first_field kind.indicator key.Match level lines)
    (is_own kind.indicator field.relation) (has_level level field.match_level) refl refl (fields_named kind key.Match level tables lines)

-- a type's fields are those from where they begin, and its indicator that of its line
pub record Started (tables : Tables) (inputs : List (InputLine Reference)) (start : TypeStart) (lines : List (InputLine Reference)) (kind : RecordType) : Type 0 where
  pub fields : kind.fields ≡ group_fields (map (named_input tables) (drop start.fields inputs))
  pub there : 0 < length lines
  pub indicator : (d : InputLine Reference) → indicator_on (get_or lines 0 d) ≡ Some kind.indicator

started_on : (tables : Tables) (inputs : List (InputLine Reference)) (start : TypeStart) (lines : List (InputLine Reference)) → is_some (type_on tables inputs start lines) ≡ true
    → Started tables inputs start lines (unwrap_or (type_on tables inputs start lines) no_type)
started_on tables inputs start [] is = absurd (true≢false (sym is))
started_on tables inputs start (Record file indicator codes ∷ lines) is = record { fields = refl; there = omega arith; indicator = λ d. refl }
started_on tables inputs start (AndCodes codes ∷ lines) is = absurd (true≢false (sym is))
started_on tables inputs start (OrCodes indicator codes ∷ lines) is = record { fields = refl; there = omega arith; indicator = λ d. refl }
started_on tables inputs start (InputField field ∷ lines) is = absurd (true≢false (sym is))

pub type_is : (program : Program) (start : TypeStart) → is_type_start program start ≡ true → is_some (type_at (tables_in program) program.inputs.items start) ≡ true
type_is program start is = (and_parts (is_some (type_at (tables_in program) program.inputs.items start)) (start.fields == fields_begin (start.place + 1) (drop (start.place + 1) program.inputs.items)) is).0

fields_are : (program : Program) (start : TypeStart) → is_type_start program start ≡ true → start.fields ≡ fields_begin (start.place + 1) (drop (start.place + 1) program.inputs.items)
fields_are program start is =
    number start.fields _ (and_parts (is_some (type_at (tables_in program) program.inputs.items start)) (start.fields == fields_begin (start.place + 1) (drop (start.place + 1) program.inputs.items)) is).1
  where
    number : (m n : ℕ) → (m == n) ≡ true → m ≡ n
    number m n h = grind (arith, nat_tests, h)

started : (program : Program) (start : TypeStart) → is_type_start program start ≡ true
    → Started (tables_in program) program.inputs.items start (drop start.place program.inputs.items) (kind_at program start)
started program start is = started_on (tables_in program) program.inputs.items start (drop start.place program.inputs.items) (type_is program start is)

pub kind_fields : (program : Program) (start : TypeStart) → is_type_start program start ≡ true
    → (kind_at program start).fields ≡ group_fields (map (named_input (tables_in program)) (drop start.fields program.inputs.items))
kind_fields program start is = (started program start is).fields

pub start_within : (program : Program) (start : TypeStart) → is_type_start program start ≡ true → start.place < length program.inputs.items
start_within program start is = omega (arith, length-drop start.place program.inputs.items, (started program start is).there)

pub start_indicator : (program : Program) (start : TypeStart) (d : InputLine Reference) → is_type_start program start ≡ true
    → indicator_on (get_or program.inputs.items start.place d) ≡ Some (kind_at program start).indicator
start_indicator program start d is = ap indicator_on (sym (get_or-drop start.place program.inputs.items 0 d ∙ ap (λ n. get_or program.inputs.items n d) (add-zero start.place))) ∙ (started program start is).indicator d

pub field_is : (program : Program) (start : TypeStart) (key : Key) (level : Option ℕ) (indicator : Indicator) → is_type_start program start ≡ true → indicator ≡ (kind_at program start).indicator
    → option_map (named_field program) (first_field indicator key level (drop start.fields program.inputs.items)) ≡ field_at program start key level
field_is program start key level indicator is e =
    ap (λ (i : Indicator). option_map (named_field program) (first_field i key level (drop start.fields program.inputs.items))) e
    ∙ fields_named (kind_at program start) key level (tables_in program) (drop start.fields program.inputs.items)
    ∙ ap (λ (fields : List (FieldLine Name)). find (λ field. has_level level (level_of key field)) (filter (is_field_of (kind_at program start)) fields)) (sym (kind_fields program start is))

-- no field is among the AND and OR lines before the first one
behind_codes : (indicator : Indicator) (key : Key) (level : Option ℕ) (all : List (InputLine Reference)) (k : ℕ) (lines : List (InputLine Reference)) → drop k all ≡ lines
    → first_field indicator key level lines ≡ first_field indicator key level (drop (fields_begin k lines) all)
unfolding first_field first_from
behind_codes indicator key level all k [] here = ap (first_field indicator key level) (sym here)
behind_codes indicator key level all k (Record file other codes ∷ lines) here = ap (first_field indicator key level) (sym here)
behind_codes indicator key level all k (AndCodes codes ∷ lines) here = behind_codes indicator key level all (k + 1) lines (sym (drop-drop 1 k all) ∙ ap (drop 1) here)
behind_codes indicator key level all k (OrCodes other codes ∷ lines) here = behind_codes indicator key level all (k + 1) lines (sym (drop-drop 1 k all) ∙ ap (drop 1) here)
behind_codes indicator key level all k (InputField field ∷ lines) here = ap (first_field indicator key level) (sym here)

pub type_field : (program : Program) (start : TypeStart) (key : Key) (level : Option ℕ) → is_type_start program start ≡ true
    → option_map (named_field program) (field_of_type key level (drop start.place program.inputs.items)) ≡ field_at program start key level
type_field program start key level is =
    ap (option_map (named_field program))
    (at_drop_more (field_of_type key level) program.inputs.items start.place (AndCodes []) (start_within program start is)
    ∙ ap (option_and_then (λ indicator. first_field indicator key level (drop (start.place + 1) program.inputs.items))) (start_indicator program start (AndCodes []) is)
    ∙ behind_codes (kind_at program start).indicator key level program.inputs.items (start.place + 1) (drop (start.place + 1) program.inputs.items) refl
    ∙ ap (λ (k : ℕ). first_field (kind_at program start).indicator key level (drop k program.inputs.items)) (sym (fields_are program start is)))
    ∙ field_is program start key level (kind_at program start).indicator is refl

-- ---- fields are in range
ranged_on : (indicator : Indicator) (key : Key) (level : Option ℕ) (tables : Tables) (lines : List (InputLine Reference)) → list_all input_in_range (map (meant_input tables) lines) ≡ true
    → IfSome (first_field indicator key level lines) (λ field. IsTrue (field_in_range field))
unfolding first_field
ranged_on indicator key level tables [] all = tt
ranged_on indicator key level tables (Record file other codes ∷ lines) all = tt
ranged_on indicator key level tables (AndCodes codes ∷ lines) all = ranged_on indicator key level tables lines (and_parts (input_in_range (meant_input tables (AndCodes codes))) (list_all input_in_range (map (meant_input tables) lines)) all).1
ranged_on indicator key level tables (OrCodes other codes ∷ lines) all = ranged_on indicator key level tables lines (and_parts (input_in_range (meant_input tables (OrCodes other codes))) (list_all input_in_range (map (meant_input tables) lines)) all).1
ranged_on indicator key level tables (InputField field ∷ lines) all =
    let parts = and_parts (input_in_range (meant_input tables (InputField field))) (list_all input_in_range (map (meant_input tables) lines)) all in
    by (is_own indicator field.relation && has_level level (level_of key field)) parts.0 (ranged_on indicator key level tables lines parts.1)
  where
    by : (b : Bool) → field_in_range field ≡ true → IfSome (first_field indicator key level lines) (λ field. IsTrue (field_in_range field))
        → IfSome (option_or (if b then Some field else None) (first_field indicator key level lines)) (λ field. IsTrue (field_in_range field))
    by true here later = here
    by false here later = later

all_behind : {X Y : Type 0} (p : Y → Bool) (f : X → Y) (k : ℕ) (xs : List X) → list_all p (map f xs) ≡ true → list_all p (map f (drop k xs)) ≡ true
all_behind p f zero xs all = all
all_behind p f (suc k) [] all = refl
all_behind p f (suc k) (x ∷ xs) all = all_behind p f k xs (and_parts (p (f x)) (list_all p (map f xs)) all).1

pub field_ranged : (program : Program) (k : ℕ) (indicator : Indicator) (key : Key) (level : Option ℕ)
    → IfSome (first_field indicator key level (drop k program.inputs.items)) (λ field. IsTrue (field_in_range field))
unfolding are_in_range
field_ranged program k indicator key level =
    let ranged = (and_parts _ _ (and_parts _ _ (and_parts _ _ (kept (parts_of program) program.valid).ranged).0).0).1 in
    ranged_on indicator key level (tables_in program) (drop k program.inputs.items) (all_behind input_in_range (meant_input (tables_in program)) k program.inputs.items ranged)
