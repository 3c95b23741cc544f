-- The key of a record, level by level.
use Rattle.std.proofs.Common.{◌≡◌, ℕ, ◌+◌, ◌-◌, ◌*◌, ◌<◌, ◌≤◌, ◌++◌, ◌||◌, length, drop, get_or, List, [], ◌∷◌, Bool, true, false, refl, sym, ◌∙◌, ap, append_assoc, zero, suc, arith}
use Rattle.std.specs.Prelude.{nat_le, Option, Some, None, is_some, unwrap_or, option_map, filter_map, flat_map, find, if◌then◌else◌}
use Rattle.std.specs.List.{list_all, list_any, cons_option}
use Rattle.std.proofs.lemmas.Bool.{and_parts}
use Rattle.std.proofs.lemmas.Bool.Decides.{nat_tests}
use Rattle.std.proofs.lemmas.List.{at_drop_more}
use Rattle.s3_cards.specs.declared.name.Name.{Name}
use Rattle.s3_lines.specs.declared.sheet.FieldLine.{FieldLine}
use Rattle.s3_lines.specs.Ranges.{is_between}
use Rattle.s3_meaning.specs.Source.{own_fields}
use Rattle.s3_meaning.specs.Selection.{levels, is_at, compared_field, match_field, match_key, control_field}
use Rattle.s3_program.specs.declared.mark.Key.TheVariants as key
use Rattle.s3_program.specs.declared.program.Program.{Program}
use Rattle.s3_program.specs.declared.starts.TypeStart.{TypeStart}
use Rattle.s3_match.specs.Inner.Types.{kind_at}
use Rattle.s3_match.specs.declared.levels.LevelField.{LevelField}
use Rattle.s3_match.specs.declared.levels.LevelFields.{LevelFields}
use Rattle.s3_match.specs.Inner.Fields.{has_level, field_at}
use Rattle.s3_match.specs.Inner.LevelField.{compared_at, field_in, prepared}
use Rattle.s3_match.specs.Inner.Levels.{AreByLevel, AreFieldsOf}
use Rattle.s3_match.specs.Inner.Keys.{key_by, match_values}

-- ---- fields at a level
level_same : (n : ℕ) (entry : Option ℕ) → has_level (Some n) entry ≡ is_at n entry
level_same n None = refl
level_same n (Some m) = refl

pub level_any : (entry : Option ℕ) → has_level None entry ≡ is_some entry
level_any None = refl
level_any (Some m) = refl

match_is : (program : Program) (start : TypeStart) (n : ℕ) → field_at program start key.Match (Some n) ≡ match_field (kind_at program start) n
match_is program start n = λ i. find (λ field. level_same n field.match_level i) (own_fields (kind_at program start))

pub control_is : (program : Program) (start : TypeStart) (n : ℕ) → field_at program start key.Control (Some n) ≡ control_field (kind_at program start) n
control_is program start n = λ i. find (λ field. level_same n field.control_level i) (own_fields (kind_at program start))

pub any_found : {X : Type 0} (p : X → Bool) (xs : List X) → is_some (find p xs) ≡ list_any p xs
any_found p [] = refl
any_found p (x ∷ xs) = by (p x) (any_found p xs)
  where
    by : (b : Bool) → is_some (find p xs) ≡ list_any p xs → is_some (if b then Some x else find p xs) ≡ (b || list_any p xs)
    by true later = refl
    by false later = later

pub is_some_map : {X Y : Type 0} (f : X → Y) (o : Option X) → is_some (option_map f o) ≡ is_some o
is_some_map f None = refl
is_some_map f (Some x) = refl

any_match : (program : Program) (start : TypeStart) → is_some (field_at program start key.Match None) ≡ list_any (λ field. is_some field.match_level) (own_fields (kind_at program start))
any_match program start =
    any_found (λ (field : FieldLine Name). has_level None field.match_level) (own_fields (kind_at program start))
    ∙ (λ i. list_any (λ field. level_any field.match_level i) (own_fields (kind_at program start)))

-- ---- levels
pub from_one : (n : ℕ) → is_between 1 9 n ≡ true → 1 ≤ n
from_one n is = low n (and_parts (nat_le 1 n) (nat_le n 9) is).0
  where
    low : (n : ℕ) → nat_le 1 n ≡ true → 1 ≤ n
    low n h = grind (arith, nat_tests, h)

pub to_nine : (n : ℕ) → is_between 1 9 n ≡ true → n ≤ 9
to_nine n is = high n (and_parts (nat_le 1 n) (nat_le n 9) is).1
  where
    high : (n : ℕ) → nat_le n 9 ≡ true → n ≤ 9
    high n h = grind (arith, nat_tests, h)

-- ---- match fields one behind another
value_first : {F : Type 0} (value : F → List ℕ) (o : Option F) (fields : List F) → flat_map value (cons_option o fields) ≡ unwrap_or (option_map value o) [] ++ flat_map value fields
value_first value None fields = refl
value_first value (Some field) fields = refl

pub level_here : (k : ℕ) → k < 9 → get_or levels k 0 ≡ 9 - k
level_here zero h = refl
level_here (suc zero) h = refl
level_here (suc (suc zero)) h = refl
level_here (suc (suc (suc zero))) h = refl
level_here (suc (suc (suc (suc zero)))) h = refl
level_here (suc (suc (suc (suc (suc zero))))) h = refl
level_here (suc (suc (suc (suc (suc (suc zero)))))) h = refl
level_here (suc (suc (suc (suc (suc (suc (suc zero))))))) h = refl
level_here (suc (suc (suc (suc (suc (suc (suc (suc zero)))))))) h = refl
level_here (suc (suc (suc (suc (suc (suc (suc (suc (suc k))))))))) h = absurd (omega (arith, h))

values_step : (fields : LevelFields) (bytes : List ℕ) (k : ℕ) → k < 9
    → match_values fields bytes (drop k levels) ≡ unwrap_or (option_map (compared_at bytes) (field_in fields.fields (9 - k))) [] ++ match_values fields bytes (drop (k + 1) levels)
values_step fields bytes k within =
    at_drop_more (match_values fields bytes) levels k 0 within
    ∙ ap (λ n. match_values fields bytes (n ∷ drop (k + 1) levels)) (level_here k within)
    ∙ value_first (compared_at bytes) (field_in fields.fields (9 - k)) (filter_map (field_in fields.fields) (drop (k + 1) levels))

pub none_yet : (fields : LevelFields) (bytes items : List ℕ) → items ≡ [] → items ++ match_values fields bytes (drop 0 levels) ≡ match_values fields bytes levels
none_yet fields bytes items none = ap (λ (xs : List ℕ). xs ++ match_values fields bytes levels) none

pub no_room_taken : (items : List ℕ) → items ≡ [] → length items ≤ 256 * 0
no_room_taken items none = omega (arith, ap length none)

pub values_more : (fields : LevelFields) (bytes items new : List ℕ) (k : ℕ) → k < 9
    → items ++ match_values fields bytes (drop k levels) ≡ match_values fields bytes levels
    → new ≡ items ++ unwrap_or (option_map (compared_at bytes) (field_in fields.fields (9 - k))) []
    → new ++ match_values fields bytes (drop (k + 1) levels) ≡ match_values fields bytes levels
values_more fields bytes items new k within before more =
    ap (λ (xs : List ℕ). xs ++ match_values fields bytes (drop (k + 1) levels)) more
    ∙ append_assoc items (unwrap_or (option_map (compared_at bytes) (field_in fields.fields (9 - k))) []) (match_values fields bytes (drop (k + 1) levels))
    ∙ ap (λ (xs : List ℕ). items ++ xs) (sym (values_step fields bytes k within))
    ∙ before

pub more_room : (old new k : ℕ) → old ≤ 256 * k → new ≤ old + 256 → new ≤ 256 * (k + 1)
more_room old new k h e = omega (arith, h, e)

-- ---- the whole key
prepared_first : (bytes : List ℕ) (o : Option (FieldLine Name)) (fields : List LevelField) (named : List (FieldLine Name)) → flat_map (compared_at bytes) fields ≡ flat_map (compared_field bytes) named
    → flat_map (compared_at bytes) (cons_option (option_map prepared o) fields) ≡ flat_map (compared_field bytes) (cons_option o named)
prepared_first bytes None fields named later = later
prepared_first bytes (Some field) fields named later = ap (λ (xs : List ℕ). compared_field bytes field ++ xs) later

same_values : (program : Program) (start : TypeStart) (fields : LevelFields) (bytes ns : List ℕ) → AreByLevel key.Match program start fields.fields → list_all (is_between 1 9) ns ≡ true
    → match_values fields bytes ns ≡ flat_map (compared_field bytes) (filter_map (match_field (kind_at program start)) ns)
same_values program start fields bytes [] are within = refl
same_values program start fields bytes (n ∷ ns) are within =
    let parts = and_parts (is_between 1 9 n) (list_all (is_between 1 9) ns) within in
    ap (λ (o : Option LevelField). flat_map (compared_at bytes) (cons_option o (filter_map (field_in fields.fields) ns)))
    (are n (from_one n parts.0) (to_nine n parts.0) ∙ ap (option_map prepared) (match_is program start n))
    ∙ prepared_first bytes (match_field (kind_at program start) n) (filter_map (field_in fields.fields) ns) (filter_map (match_field (kind_at program start)) ns) (same_values program start fields bytes ns are parts.1)

pub key_of_type : (program : Program) (start : TypeStart) (fields : LevelFields) (bytes : List ℕ) → AreFieldsOf key.Match program start fields → key_by fields bytes ≡ match_key (kind_at program start) bytes
key_of_type program start fields bytes are =
    (λ i. if (are.any ∙ any_match program start) i then Some (same_values program start fields bytes levels are.by_level refl i) else None)

pub no_key : (program : Program) (start : TypeStart) (bytes : List ℕ) → is_some (field_at program start key.Match None) ≡ false → match_key (kind_at program start) bytes ≡ None
no_key program start bytes none =
    (λ i. if (sym (any_match program start) ∙ none) i then Some (flat_map (compared_field bytes) (filter_map (match_field (kind_at program start)) levels)) else None)
