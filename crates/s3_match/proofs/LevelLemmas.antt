-- Match and control fields as they are prepared.
use Rattle.std.proofs.Common.{◌≡◌, ℕ, zero, suc, length, get_or, drop, replicate, set, ◌==◌, ◌+◌, ◌-◌, ◌<◌, ◌≤◌, List, [], ◌∷◌, Bool, true, false, refl, sym, ◌∙◌, ap, arith}
use Rattle.std.specs.Prelude.{Option, Some, None, IsTrue, is_some, find, option_map, slice_get, slice_index_or, unwrap_or, if◌then◌else◌}
use Rattle.std.proofs.lemmas.Bool.{true≢false}
use Rattle.std.proofs.lemmas.Bool.Decides.{nat_tests}
use Rattle.s3_cards.specs.declared.name.Name.{Name}
use Rattle.s3_lines.specs.Ranges.{if_given}
use Rattle.s3_lines.specs.declared.sheet.FieldLine.{FieldLine}
use Rattle.s3_lines.specs.declared.sheet.InputLine.{InputLine}
use Rattle.s3_lines.specs.declared.sheet.InputLine.TheVariants.{Record, And as AndCodes, Or as OrCodes, Field as InputField}
use Rattle.s3_meaning.specs.Source.{own_fields}
use Rattle.s3_meaning.specs.Selection.{compared_field, control_value}
use Rattle.s3_program.specs.declared.mark.Key.{Key}
use Rattle.s3_program.specs.declared.mark.Key.TheVariants as key
use Rattle.s3_program.specs.declared.program.Program.{Program}
use Rattle.s3_program.specs.declared.program.Reference.{Reference}
use Rattle.s3_program.specs.declared.starts.TypeStart.{TypeStart}
use Rattle.s3_program.specs.Inner.Starts.{is_type}
use Rattle.s3_match.specs.declared.levels.LevelField.{LevelField}
use Rattle.s3_match.specs.declared.levels.LevelFields.{LevelFields}
use Rattle.s3_match.specs.Inner.Types.{is_type_start, kind_at}
use Rattle.s3_match.specs.Inner.Fields.{named_field, has_level, level_of, indicator_on, field_of_type, field_at}
use Rattle.s3_match.specs.Inner.LevelField.{AreRanged, compared_at, field_in, is_ranged, prepared}
use Rattle.s3_match.specs.Inner.Levels.{AreByLevel, AreFieldsAt}
use Rattle.s3_match.specs.Inner.Holding.{value_by}
use Rattle.s3_match.proofs.FieldLemmas.{start_indicator, type_field}
use Rattle.s3_match.proofs.KeyLemmas.{control_is, is_some_map}

-- ---- where a type has no field, it has none at any level
none_at : (key : Key) (n : ℕ) (fields : List (FieldLine Name)) → is_some (find (λ field. has_level None (level_of key field)) fields) ≡ false → find (λ field. has_level (Some n) (level_of key field)) fields ≡ None
none_at key n [] none = refl
none_at key n (field ∷ fields) none = by (level_of key field) none (none_at key n fields)
  where
    by : (entry : Option ℕ) → is_some (if has_level None entry then Some field else find (λ field. has_level None (level_of key field)) fields) ≡ false
        → (is_some (find (λ field. has_level None (level_of key field)) fields) ≡ false → find (λ field. has_level (Some n) (level_of key field)) fields ≡ None)
        → (if has_level (Some n) entry then Some field else find (λ field. has_level (Some n) (level_of key field)) fields) ≡ None
    by None none later = later none
    by (Some m) none later = absurd (true≢false none)

pub none_of_type : (key : Key) (program : Program) (start : TypeStart) (n : ℕ) → is_some (field_at program start key None) ≡ false → field_at program start key (Some n) ≡ None
none_of_type key program start n none = none_at key n (own_fields (kind_at program start)) none

no_field_in : (n : ℕ) → field_in (replicate 9 None) n ≡ None
no_field_in zero = refl
no_field_in (suc zero) = refl
no_field_in (suc (suc zero)) = refl
no_field_in (suc (suc (suc zero))) = refl
no_field_in (suc (suc (suc (suc zero)))) = refl
no_field_in (suc (suc (suc (suc (suc zero))))) = refl
no_field_in (suc (suc (suc (suc (suc (suc zero)))))) = refl
no_field_in (suc (suc (suc (suc (suc (suc (suc zero))))))) = refl
no_field_in (suc (suc (suc (suc (suc (suc (suc (suc zero)))))))) = refl
no_field_in (suc (suc (suc (suc (suc (suc (suc (suc (suc zero))))))))) = refl
no_field_in (suc (suc (suc (suc (suc (suc (suc (suc (suc (suc n)))))))))) = refl

-- ---- the fields of the type that starts at a line
any_there : (key : Key) (program : Program) (place : ℕ) (start : TypeStart) → is_type_start program start ≡ true → start.place ≡ place
    → is_some (field_of_type key None (drop place program.inputs.items)) ≡ is_some (field_at program start key None)
any_there key program place start is there =
    ap (λ (k : ℕ). is_some (field_of_type key None (drop k program.inputs.items))) (sym there)
    ∙ sym (is_some_map (named_field program) (field_of_type key None (drop start.place program.inputs.items)))
    ∙ ap is_some (type_field program start key None is)

prepared_named : (program : Program) (o : Option (FieldLine Reference)) → option_map prepared o ≡ option_map prepared (option_map (named_field program) o)
prepared_named program None = refl
prepared_named program (Some field) = refl

pub no_fields : (key : Key) (program : Program) (place : ℕ) (fields : LevelFields) → fields.is_any ≡ false → fields.fields ≡ replicate 9 None
    → is_some (field_of_type key None (drop place program.inputs.items)) ≡ false → AreFieldsAt key program place fields
no_fields key program place fields off blank none = record {
  of_type = λ start is there.
      let nothing : is_some (field_at program start key None) ≡ false = sym (any_there key program place start is there) ∙ none in
      record {
        any = off ∙ sym nothing;
        by_level = λ n one nine. ap (λ (xs : List (Option LevelField)). field_in xs n) blank ∙ no_field_in n ∙ sym (ap (option_map prepared) (none_of_type key program start n nothing));
      };
}

pub some_fields : (key : Key) (program : Program) (place : ℕ) (fields : LevelFields) → fields.is_any ≡ is_some (field_of_type key None (drop place program.inputs.items))
    → ((n : ℕ) → 1 ≤ n → n ≤ 9 → field_in fields.fields n ≡ option_map prepared (field_of_type key (Some n) (drop place program.inputs.items))) → AreFieldsAt key program place fields
some_fields key program place fields any each = record {
  of_type = λ start is there. record {
    any = any ∙ any_there key program place start is there;
    by_level = λ n one nine.
        each n one nine
        ∙ ap (λ (k : ℕ). option_map prepared (field_of_type key (Some n) (drop k program.inputs.items))) (sym there)
        ∙ prepared_named program (field_of_type key (Some n) (drop start.place program.inputs.items))
        ∙ ap (option_map prepared) (type_field program start key (Some n) is);
  };
}

-- at a line where no type starts nothing is asked for
pub no_type_there : (key : Key) (program : Program) (place : ℕ) (fields : LevelFields) (d : InputLine Reference) → is_type (get_or program.inputs.items place d) ≡ false → AreFieldsAt key program place fields
no_type_there key program place fields d none = record {
  of_type = λ start is there.
      absurd (true≢false (sym (ap is_some (start_indicator program start d is)) ∙ ap (λ (k : ℕ). is_some (indicator_on (get_or program.inputs.items k d))) there ∙ no_indicator (get_or program.inputs.items place d) none));
}
  where
    no_indicator : (line : InputLine Reference) → is_type line ≡ false → is_some (indicator_on line) ≡ false
    no_indicator (Record file indicator codes) none = absurd (true≢false none)
    no_indicator (AndCodes codes) none = refl
    no_indicator (OrCodes indicator codes) none = absurd (true≢false none)
    no_indicator (InputField field) none = refl

field_here : (fields : List (Option LevelField)) (k : ℕ) → get_or fields k None ≡ unwrap_or (slice_get fields k) None
field_here [] k = refl
field_here (field ∷ fields) zero = refl
field_here (field ∷ fields) (suc k) = field_here fields k

pub ranged_at : (fields : List (Option LevelField)) (level : ℕ) → 1 ≤ level → AreRanged fields → if_given is_ranged (slice_index_or fields (level - 1) None) ≡ true
ranged_at fields zero one ranged = absurd (omega (arith, one))
ranged_at fields (suc n) one ranged =
    let here : suc n - 1 ≡ n = omega arith in
    ap (λ (k : ℕ). if_given is_ranged (get_or fields k None)) here ∙ ap (if_given is_ranged) (field_here fields n) ∙ ranged (suc n)

-- ---- what the control field of a level compares
prepared_map : (bytes : List ℕ) (o : Option (FieldLine Name)) → option_map (compared_at bytes) (option_map prepared o) ≡ option_map (compared_field bytes) o
prepared_map bytes None = refl
prepared_map bytes (Some field) = refl

pub control_at : (program : Program) (start : TypeStart) (fields : List (Option LevelField)) (bytes : List ℕ) (n : ℕ) → AreByLevel key.Control program start fields → 1 ≤ n → n ≤ 9
    → value_by fields bytes n ≡ control_value (kind_at program start) bytes n
control_at program start fields bytes n are one nine =
    ap (option_map (compared_at bytes)) (are n one nine)
    ∙ prepared_map bytes (field_at program start key.Control (Some n))
    ∙ ap (option_map (compared_field bytes)) (control_is program start n)

-- ---- one level more
put_here : {X : Type 0} (xs : List X) (i : ℕ) (x d : X) → i < length xs → unwrap_or (slice_get (set xs i x) i) d ≡ x
put_here [] i x d within = absurd (omega (arith, within))
put_here (y ∷ xs) zero x d within = refl
put_here (y ∷ xs) (suc i) x d within = put_here xs i x d (omega (arith, within))

put_elsewhere : {X : Type 0} (xs : List X) (i k : ℕ) (x : X) → (k ≡ i → ⊥) → slice_get (set xs i x) k ≡ slice_get xs k
put_elsewhere [] i k x other = refl
put_elsewhere (y ∷ xs) zero zero x other = absurd (other refl)
put_elsewhere (y ∷ xs) zero (suc k) x other = refl
put_elsewhere (y ∷ xs) (suc i) zero x other = refl
put_elsewhere (y ∷ xs) (suc i) (suc k) x other = put_elsewhere xs i k x (λ e. other (ap suc e))

same_number : (m n : ℕ) → (m == n) ≡ true → m ≡ n
same_number m n h = grind (arith, nat_tests, h)

other_number : (m n : ℕ) → (m == n) ≡ false → m ≡ n → ⊥
other_number m n h e = grind (arith, nat_tests, h, e)

pub fields_more : (fields : List (Option LevelField)) (i : ℕ) (field : Option LevelField) (at : ℕ → Option LevelField) → i < length fields → ((n : ℕ) → 1 ≤ n → n ≤ i → field_in fields n ≡ at n) → field ≡ at (i + 1)
    → (n : ℕ) → 1 ≤ n → n ≤ i + 1 → field_in (set fields i field) n ≡ at n
fields_more fields i field at within before is zero one most = absurd (omega (arith, one))
fields_more fields i field at within before is (suc k) one most = by (k == i) refl
  where
    by : (b : Bool) → (k == i) ≡ b → unwrap_or (slice_get (set fields i field) k) None ≡ at (suc k)
    by true h =
        let same : k ≡ i = same_number k i h in
        let next : i + 1 ≡ suc k = omega (arith, same) in
        ap (λ (m : ℕ). unwrap_or (slice_get (set fields i field) m) None) same ∙ put_here fields i field None within ∙ is ∙ ap at next
    by false h =
        let other : k ≡ i → ⊥ = other_number k i h in
        ap (λ (o : Option (Option LevelField)). unwrap_or o None) (put_elsewhere fields i k field other) ∙ before (suc k) one (omega (arith, most, other))

pub ranged_more : (fields : List (Option LevelField)) (i : ℕ) (field : Option LevelField) → i < length fields → AreRanged fields → IsTrue (if_given is_ranged field) → AreRanged (set fields i field)
ranged_more fields i field within ranged here zero = refl
ranged_more fields i field within ranged here (suc k) = by (k == i) refl
  where
    by : (b : Bool) → (k == i) ≡ b → if_given is_ranged (unwrap_or (slice_get (set fields i field) k) None) ≡ true
    by true h = ap (if_given is_ranged) (ap (λ (m : ℕ). unwrap_or (slice_get (set fields i field) m) None) (same_number k i h) ∙ put_here fields i field None within) ∙ here
    by false h = ap (λ (o : Option (Option LevelField)). if_given is_ranged (unwrap_or o None)) (put_elsewhere fields i k field (other_number k i h)) ∙ ranged (suc k)
