-- Whether any type has a match or control field; where none has, each has none.
use Rattle.std.proofs.Common.{◌≡◌, ℕ, ◌+◌, ◌<◌, ◌≤◌, ◌&&◌, ◌||◌, length, drop, get_or, List, [], ◌∷◌, Bool, true, false, refl, sym, ◌∙◌, ap, zero, suc}
use Rattle.std.specs.Prelude.{Option, Some, None, is_some, option_map, if◌then◌else◌}
use Rattle.std.specs.Option.{option_or}
use Rattle.std.specs.List.{list_any}
use Rattle.std.proofs.lemmas.Bool.{true≢false}
use Rattle.std.proofs.lemmas.List.{at_drop_more, at_drop_all}
use Rattle.s3_lines.specs.declared.indicator.Indicator.{Indicator}
use Rattle.s3_lines.specs.declared.sheet.InputLine.{InputLine}
use Rattle.s3_lines.specs.declared.sheet.InputLine.TheVariants.{Record, And as AndCodes, Or as OrCodes, Field as InputField}
use Rattle.s3_program.specs.declared.mark.Key.{Key}
use Rattle.s3_program.specs.declared.program.Program.{Program}
use Rattle.s3_program.specs.declared.program.Reference.{Reference}
use Rattle.s3_program.specs.declared.starts.TypeStart.{TypeStart}
use Rattle.s3_program.specs.Inner.Starts.{is_type}
use Rattle.s3_match.specs.Inner.Types.{is_type_start}
use Rattle.s3_match.specs.Inner.Fields.{named_field, is_own, has_level, level_of, first_field, field_of_type, field_at, names_level, some_type_names_level}
use Rattle.s3_match.proofs.FieldLemmas.{type_field}

-- ---- a loop over lines
types_at : (key : Key) (lines : List (InputLine Reference)) (k : ℕ) (d : InputLine Reference) → k < length lines → some_type_names_level key lines ≡ some_type_names_level key (drop k lines)
    → some_type_names_level key lines ≡ (if is_type (get_or lines k d) then list_any (names_level key) (drop (k + 1) lines) else some_type_names_level key (drop (k + 1) lines))
unfolding some_type_names_level
types_at key lines k d within before = before ∙ at_drop_more (some_type_names_level key) lines k d within

pub types_begin : (key : Key) (lines : List (InputLine Reference)) (k : ℕ) (d : InputLine Reference) (some starts : Bool) → k < length lines → some_type_names_level key lines ≡ some_type_names_level key (drop k lines)
    → starts ≡ is_type (get_or lines k d) → starts ≡ true → some ≡ list_any (names_level key) (drop (k + 1) lines) → some ≡ some_type_names_level key lines
types_begin key lines k d some starts within before is on named =
    named ∙ sym (types_at key lines k d within before ∙ ap (λ (b : Bool). if b then list_any (names_level key) (drop (k + 1) lines) else some_type_names_level key (drop (k + 1) lines)) (sym is ∙ on))

pub no_type_yet : (key : Key) (lines : List (InputLine Reference)) (k : ℕ) (d : InputLine Reference) (starts : Bool) → k < length lines → some_type_names_level key lines ≡ some_type_names_level key (drop k lines)
    → starts ≡ is_type (get_or lines k d) → starts ≡ false → some_type_names_level key lines ≡ some_type_names_level key (drop (k + 1) lines)
no_type_yet key lines k d starts within before is off =
    types_at key lines k d within before ∙ ap (λ (b : Bool). if b then list_any (names_level key) (drop (k + 1) lines) else some_type_names_level key (drop (k + 1) lines)) (sym is ∙ off)

pub no_type_at_all : (key : Key) (lines : List (InputLine Reference)) (k : ℕ) → length lines ≤ k → some_type_names_level key lines ≡ some_type_names_level key (drop k lines) → false ≡ some_type_names_level key lines
unfolding some_type_names_level
no_type_at_all key lines k past before = sym (before ∙ at_drop_all (some_type_names_level key) lines k past)

-- ---- where no type has one
none_later : (b c : Bool) → (b || c) ≡ false → c ≡ false
none_later true c none = absurd (true≢false none)
none_later false c none = none

none_on : (indicator : Indicator) (key : Key) (level : Option ℕ) (lines : List (InputLine Reference)) → list_any (names_level key) lines ≡ false → first_field indicator key level lines ≡ None
unfolding first_field
none_on indicator key level [] none = refl
none_on indicator key level (Record file other codes ∷ lines) none = refl
none_on indicator key level (AndCodes codes ∷ lines) none = none_on indicator key level lines none
none_on indicator key level (OrCodes other codes ∷ lines) none = none_on indicator key level lines none
none_on indicator key level (InputField field ∷ lines) none = by (is_own indicator field.relation) (level_of key field) none (none_on indicator key level lines)
  where
    by : (own : Bool) (entry : Option ℕ) → (is_some entry || list_any (names_level key) lines) ≡ false → (list_any (names_level key) lines ≡ false → first_field indicator key level lines ≡ None)
        → option_or (if own && has_level level entry then Some field else None) (first_field indicator key level lines) ≡ None
    by own (Some n) none later = absurd (true≢false none)
    by true None none later = later none
    by false None none later = later none

none_of_first : (key : Key) (level : Option ℕ) (line : InputLine Reference) (lines : List (InputLine Reference)) → list_any (names_level key) lines ≡ false → field_of_type key level (line ∷ lines) ≡ None
none_of_first key level (Record file indicator codes) lines none = none_on indicator key level lines none
none_of_first key level (AndCodes codes) lines none = refl
none_of_first key level (OrCodes indicator codes) lines none = none_on indicator key level lines none
none_of_first key level (InputField field) lines none = refl

none_behind : (key : Key) (level : Option ℕ) (k : ℕ) (lines : List (InputLine Reference)) → list_any (names_level key) lines ≡ false → field_of_type key level (drop k lines) ≡ None
none_behind key level zero [] none = refl
none_behind key level (suc k) [] none = refl
none_behind key level zero (line ∷ lines) none = none_of_first key level line lines (none_later (names_level key line) (list_any (names_level key) lines) none)
none_behind key level (suc k) (line ∷ lines) none = none_behind key level k lines (none_later (names_level key line) (list_any (names_level key) lines) none)

none_at : (key : Key) (level : Option ℕ) (k : ℕ) (lines : List (InputLine Reference)) → some_type_names_level key lines ≡ false → field_of_type key level (drop k lines) ≡ None
unfolding some_type_names_level
none_at key level zero [] none = refl
none_at key level (suc k) [] none = refl
none_at key level zero (Record file indicator codes ∷ lines) none = none_on indicator key level lines none
none_at key level zero (AndCodes codes ∷ lines) none = refl
none_at key level zero (OrCodes indicator codes ∷ lines) none = none_on indicator key level lines none
none_at key level zero (InputField field ∷ lines) none = refl
none_at key level (suc k) (Record file indicator codes ∷ lines) none = none_behind key level k lines none
none_at key level (suc k) (AndCodes codes ∷ lines) none = none_at key level k lines none
none_at key level (suc k) (OrCodes indicator codes ∷ lines) none = none_behind key level k lines none
none_at key level (suc k) (InputField field ∷ lines) none = none_at key level k lines none

pub none_of_unnamed : (program : Program) (start : TypeStart) (key : Key) → is_type_start program start ≡ true → some_type_names_level key program.inputs.items ≡ false → is_some (field_at program start key None) ≡ false
none_of_unnamed program start key is none =
    ap is_some (sym (type_field program start key None is) ∙ ap (option_map (named_field program)) (none_at key None start.place program.inputs.items none))
