-- Control fields are held for the levels that a type names.
use Rattle.std.proofs.Common.{◌≡◌, ℕ, ◌==◌, ◌&&◌, ◌||◌, map, drop, List, [], ◌∷◌, Bool, true, false, refl, sym, ◌∙◌, ap, arith}
use Rattle.std.specs.Prelude.{Option, Some, None, is_some, not, find, unwrap_or, IsTrue, IfSome, option_map, if◌then◌else◌}
use Rattle.std.specs.Option.{option_or}
use Rattle.std.specs.List.{list_any}
use Rattle.std.proofs.lemmas.Bool.{and_parts, true≢false}
use Rattle.std.proofs.lemmas.Bool.Decides.{nat_tests}
use Rattle.s3_cards.specs.declared.name.Name.{Name}
use Rattle.s3_cards.specs.Names.{no_name}
use Rattle.s3_lines.specs.declared.indicator.Indicator.{Indicator}
use Rattle.s3_lines.specs.declared.sheet.FieldLine.{FieldLine}
use Rattle.s3_lines.specs.declared.sheet.InputLine.{InputLine}
use Rattle.s3_lines.specs.declared.sheet.InputLine.TheVariants.{Record, And as AndCodes, Or as OrCodes, Field as InputField}
use Rattle.s3_lines.specs.Ranges.{is_between, if_given}
use Rattle.s3_lines.specs.Inner.Ranges.{field_in_range}
use Rattle.s3_meaning.specs.RecordTypes.{group_fields, types_from}
use Rattle.s3_meaning.specs.Source.{own_fields, has_control_fields, has_levels}
use Rattle.s3_meaning.specs.Selection.{compared_field, control_value, same_key, levels}
use Rattle.s3_program.specs.declared.mark.Key.TheVariants as key
use Rattle.s3_program.specs.declared.program.Program.{Program}
use Rattle.s3_program.specs.declared.program.Reference.{Reference}
use Rattle.s3_program.specs.declared.starts.TypeStart.{TypeStart}
use Rattle.s3_program.specs.Inner.Stands.{source_named}
use Rattle.s3_program.specs.Tables.{Tables}
use Rattle.s3_program.specs.Inner.Tables.{name_of}
use Rattle.s3_program.specs.Inner.Valid.{named, named_input}
use Rattle.s3_match.specs.Inner.Types.{tables_in, is_type_start, kind_at}
use Rattle.s3_match.specs.Inner.Fields.{named_field, is_own, has_level, first_field, field_at, names_level, some_type_names_level}
use Rattle.s3_match.specs.declared.levels.LevelFields.{LevelFields}
use Rattle.s3_match.specs.Inner.Controls.{breaks_at, break_of}
use Rattle.s3_match.specs.Inner.Levels.{AreFieldsOf}
use Rattle.s3_match.proofs.FieldLemmas.{field_is, field_ranged}
use Rattle.s3_match.proofs.LevelLemmas.{none_of_type}
use Rattle.s3_match.proofs.KeyLemmas.{control_is, level_any, any_found}

-- ---- whether some level is named
any_named : (program : Program) (start : TypeStart) → is_some (field_at program start key.Control None) ≡ has_control_fields (kind_at program start)
any_named program start =
    any_found (λ (field : FieldLine Name). has_level None field.control_level) (own_fields (kind_at program start))
    ∙ (λ i. list_any (λ field. level_any field.control_level i) (own_fields (kind_at program start)))

-- a field that is found has the level
found_level : (indicator : Indicator) (n : ℕ) (lines : List (InputLine Reference)) → IfSome (first_field indicator key.Control (Some n) lines) (λ field. has_level (Some n) field.control_level ≡ true)
unfolding first_field
found_level indicator n [] = tt
found_level indicator n (Record file other codes ∷ lines) = tt
found_level indicator n (AndCodes codes ∷ lines) = found_level indicator n lines
found_level indicator n (OrCodes other codes ∷ lines) = found_level indicator n lines
found_level indicator n (InputField field ∷ lines) = by (is_own indicator field.relation && has_level (Some n) field.control_level) refl (found_level indicator n lines)
  where
    by : (b : Bool) → (is_own indicator field.relation && has_level (Some n) field.control_level) ≡ b → IfSome (first_field indicator key.Control (Some n) lines) (λ field. has_level (Some n) field.control_level ≡ true)
        → IfSome (option_or (if b then Some field else None) (first_field indicator key.Control (Some n) lines)) (λ field. has_level (Some n) field.control_level ≡ true)
    by true e later = (and_parts (is_own indicator field.relation) (has_level (Some n) field.control_level) e).1
    by false e later = later

no_such_level : (n : ℕ) (entry : Option ℕ) → is_between 1 9 n ≡ false → has_level (Some n) entry ≡ true → if_given (is_between 1 9) entry ≡ true → ⊥
no_such_level n None out has ranged = true≢false (sym has)
no_such_level n (Some m) out has ranged =
    let same : n ≡ m = number n m has in
    true≢false (sym ranged ∙ ap (is_between 1 9) (sym same) ∙ out)
  where
    number : (m n : ℕ) → (m == n) ≡ true → m ≡ n
    number m n h = grind (arith, nat_tests, h)

entry_of : (field : FieldLine Reference) → field_in_range field ≡ true → if_given (is_between 1 9) field.control_level ≡ true
entry_of field h = (and_parts _ _ (and_parts _ _ (and_parts _ _ (and_parts _ _ h).0).0).0).1

-- no type names L0, or a level above L9
pub unnamed : (program : Program) (start : TypeStart) (bytes : List ℕ) (n : ℕ) → is_type_start program start ≡ true → is_between 1 9 n ≡ false → control_value (kind_at program start) bytes n ≡ None
unnamed program start bytes n is out =
    ap (option_map (compared_field bytes))
    (sym (control_is program start n) ∙ sym (field_is program start key.Control (Some n) (kind_at program start).indicator is refl)
    ∙ ap (option_map (named_field program)) (nothing (first_field (kind_at program start).indicator key.Control (Some n) (drop start.fields program.inputs.items))
    (found_level (kind_at program start).indicator n (drop start.fields program.inputs.items))
    (field_ranged program start.fields (kind_at program start).indicator key.Control (Some n))))
  where
    nothing : (o : Option (FieldLine Reference)) → IfSome o (λ field. has_level (Some n) field.control_level ≡ true) → IfSome o (λ field. IsTrue (field_in_range field)) → o ≡ None
    nothing None has ranged = refl
    nothing (Some field) has ranged = absurd (no_such_level n field.control_level out has (entry_of field ranged))

-- ---- where a type has no control field
no_control : (program : Program) (start : TypeStart) (bytes : List ℕ) (n : ℕ) → is_some (field_at program start key.Control None) ≡ false → control_value (kind_at program start) bytes n ≡ None
no_control program start bytes n none = ap (option_map (compared_field bytes)) (sym (control_is program start n) ∙ none_of_type key.Control program start n none)

found_nowhere : (p : ℕ → Bool) (xs : List ℕ) → ((n : ℕ) → p n ≡ false) → find p xs ≡ None
found_nowhere p [] none = refl
found_nowhere p (x ∷ xs) none = ap (λ (b : Bool). if b then Some x else find p xs) (none x) ∙ found_nowhere p xs none

pub none_breaks : (program : Program) (start : TypeStart) (bytes : List ℕ) (held : ℕ → Option (List ℕ)) → is_some (field_at program start key.Control None) ≡ false → 0 ≡ break_of held (kind_at program start) bytes
none_breaks program start bytes held none =
    sym (ap (λ (o : Option ℕ). unwrap_or o 0) (found_nowhere (breaks_at held (kind_at program start) bytes) levels (λ n. ap (λ (v : Option (List ℕ)). is_some v && not (same_key v (held n))) (no_control program start bytes n none))))

pub none_is_held : (program : Program) (start : TypeStart) (bytes : List ℕ) (held : ℕ → Option (List ℕ)) → is_some (field_at program start key.Control None) ≡ false → (n : ℕ) → held n ≡ option_or (control_value (kind_at program start) bytes n) (held n)
none_is_held program start bytes held none n = sym (ap (λ (v : Option (List ℕ)). option_or v (held n)) (no_control program start bytes n none))

-- ---- whether a program has control fields
abbrev controlled : FieldLine Name → Bool
controlled field = is_some field.control_level

or_again : (a b c : Bool) → (a || b) ≡ c → (a || (a || b)) ≡ c
or_again true b c e = e
or_again false b c e = e

-- after a type's line
open_levels : (tables : Tables) (file : Name) (lines : List (InputLine Reference))
    → (list_any controlled (group_fields (map (named_input tables) lines)) || list_any (λ kind. list_any controlled kind.fields) (types_from file (map (named_input tables) lines))) ≡ list_any (names_level key.Control) lines
open_levels tables file [] = refl
open_levels tables file (Record next indicator codes ∷ lines) = open_levels tables (name_of tables next) lines
open_levels tables file (AndCodes codes ∷ lines) = open_levels tables file lines
open_levels tables file (OrCodes indicator codes ∷ lines) =
    or_again (list_any controlled (group_fields (map (named_input tables) lines))) (list_any (λ kind. list_any controlled kind.fields) (types_from file (map (named_input tables) lines))) _ (open_levels tables file lines)
open_levels tables file (InputField field ∷ lines) = by (is_some field.control_level) (open_levels tables file lines)
  where
    by : (b : Bool) → (list_any controlled (group_fields (map (named_input tables) lines)) || list_any (λ kind. list_any controlled kind.fields) (types_from file (map (named_input tables) lines))) ≡ list_any (names_level key.Control) lines
        → (b || list_any controlled (group_fields (map (named_input tables) lines)) || list_any (λ kind. list_any controlled kind.fields) (types_from file (map (named_input tables) lines))) ≡ (b || list_any (names_level key.Control) lines)
    by true later = refl
    by false later = later

levels_shown : (tables : Tables) (file : Name) (lines : List (InputLine Reference)) → list_any (λ kind. list_any controlled kind.fields) (types_from file (map (named_input tables) lines)) ≡ some_type_names_level key.Control lines
unfolding some_type_names_level
levels_shown tables file [] = refl
levels_shown tables file (Record next indicator codes ∷ lines) = open_levels tables (name_of tables next) lines
levels_shown tables file (AndCodes codes ∷ lines) = levels_shown tables file lines
levels_shown tables file (OrCodes indicator codes ∷ lines) = open_levels tables file lines
levels_shown tables file (InputField field ∷ lines) = levels_shown tables file lines

program_levels : (program : Program) → some_type_names_level key.Control program.inputs.items ≡ has_levels (source_named program)
unfolding named
program_levels program = sym (levels_shown (tables_in program) no_name program.inputs.items)

-- ---- whether total time is due after a type
pub due_with : (program : Program) (start : TypeStart) (fields : LevelFields) → AreFieldsOf key.Control program start fields → true ≡ some_type_names_level key.Control program.inputs.items
    → fields.is_any ≡ (not (has_levels (source_named program)) || has_control_fields (kind_at program start))
due_with program start fields are is =
    are.any ∙ any_named program start ∙ ap (λ (b : Bool). not b || has_control_fields (kind_at program start)) (is ∙ program_levels program)

pub due_without : (program : Program) (start : TypeStart) → false ≡ some_type_names_level key.Control program.inputs.items
    → true ≡ (not (has_levels (source_named program)) || has_control_fields (kind_at program start))
due_without program start is = ap (λ (b : Bool). not b || has_control_fields (kind_at program start)) (is ∙ program_levels program)
