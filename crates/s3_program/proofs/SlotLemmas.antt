-- Slots of a valid program: each name has at most one slot.
use Rattle.std.proofs.Common.{◌≡◌, ℕ, ◌+◌, ◌==◌, List, [], ◌∷◌, ◌++◌, length, Bool, true, false, cond, ◌&&◌, refl, sym, ◌∙◌, ap, subst, arith, zero, suc, inl, inr, not, ◌||◌}
use Rattle.std.specs.Prelude.{Option, Some, None, is_some, map, filter_map, option_map, slice_get, take, unwrap_or}
use Rattle.std.specs.Cmp.Lexicographic.{pointwise}
use Rattle.std.specs.List.{list_any, list_all}
use Rattle.std.specs.Map.{keys_of}
use Rattle.std.proofs.lemmas.List.Folds.{list_all-append}
use Rattle.std.proofs.lemmas.Bool.{cases_Bool, and_parts, true≢false}
use Rattle.std.proofs.lemmas.Bool.Decides.{nat_tests}
use Rattle.s3_cards.specs.declared.name.Name.{Name}
use Rattle.s3_cards.specs.Names.{same_name, no_name}
use Rattle.s3_cards.proofs.NameLemmas.{same_name-equal, same_name-self}
use Rattle.s3_lines.specs.declared.sheet.Shape.{Shape}
use Rattle.s3_lines.specs.declared.sheet.Shape.TheVariants.{Alphanumeric}
use Rattle.s3_lines.specs.declared.sheet.FileLine.{FileLine}
use Rattle.s3_lines.specs.declared.sheet.InputLine.{InputLine}
use Rattle.s3_lines.specs.declared.sheet.InputLine.TheVariants.{Record, And as AndCodes, Or as OrCodes, Field as InputField}
use Rattle.s3_lines.specs.declared.sheet.CalculationLine.{CalculationLine}
use Rattle.s3_meaning.specs.Source.{shape_in, shape_of, reserved_shapes, input_shape, result_shape}
use Rattle.s3_program.specs.declared.program.Kind.TheVariants as kind
use Rattle.s3_program.specs.declared.program.Reference.{Reference}
use Rattle.s3_program.specs.declared.program.Reference.TheVariants as slot
use Rattle.s3_program.specs.declared.program.Meaning.TheVariants as meaning
use Rattle.s3_program.specs.declared.program.TagPlace.{TagPlace}
use Rattle.s3_program.specs.declared.program.SubroutinePlace.{SubroutinePlace}
use Rattle.s3_program.specs.Tables.{Tables, found_in, or_undefined}
use Rattle.s3_program.specs.Inner.Tables.{slot_in, item_in, name_in, name_of, meaning_at}
use Rattle.s3_program.specs.Inner.Distinct.{are_distinct}
use Rattle.s3_program.specs.Inner.Meant.{is_of, entry_passes, input_passes, calculation_passes, are_of_kinds}
use Rattle.s3_program.specs.Inner.Positions.{are_in_range, are_within}
use Rattle.s3_program.specs.Inner.Labels.{labels_stand}
use Rattle.s3_program.specs.Inner.Conditions.{are_clear}
use Rattle.s3_program.specs.Inner.Valid.{Parts, tables_of, named, meant, named_input, named_calculation, meant_input, meant_calculation, is_valid, are_right, are_sound, are_shaped, begin_reserved}
use Rattle.s3_program.proofs.TableLemmas.{place, slot_is}

-- ---- the invariant of a valid program
pub record Kept (parts : Parts) : Type 0 where
  pub files_distinct : are_distinct (keys_of (tables_of parts).files) ≡ true
  pub fields_distinct : are_distinct (keys_of (tables_of parts).fields) ≡ true
  pub reserved : begin_reserved (tables_of parts).fields ≡ true
  pub shaped : are_shaped (named parts) (tables_of parts).fields ≡ true
  pub labels : labels_stand (tables_of parts).tags (tables_of parts).subroutines (meant parts).calculations ≡ true
  pub kinds : are_of_kinds (meant parts) ≡ true
  pub ranged : are_in_range (meant parts) ≡ true
  pub within : are_within (meant parts) ≡ true
  pub clear : are_clear (meant parts).files (meant parts).inputs (meant parts).calculations (meant parts).outputs ≡ true

pub kept : (parts : Parts) → is_valid parts ≡ true → Kept parts
unfolding is_valid
kept parts valid =
    let halves = and_parts (are_right (named parts) (tables_of parts) (meant parts).calculations) (are_sound (meant parts)) valid in
    let four = and_parts _ _ halves.0 in
    let three = and_parts _ _ four.0 in
    let two = and_parts _ _ three.0 in
    let one = and_parts _ _ two.0 in
    let third = and_parts _ _ halves.1 in
    let second = and_parts _ _ third.0 in
    let first = and_parts _ _ second.0 in
    record {
      files_distinct = one.0;
      fields_distinct = one.1;
      reserved = two.1;
      shaped = three.1;
      labels = four.1;
      kinds = first.0;
      ranged = first.1;
      within = second.1;
      clear = third.1;
    }

-- ---- slots
some_same : {X : Type 0} (x y : X) → Some x ≡ Some y → x ≡ y
some_same x y h = ap (λ o. unwrap_or o x) h

entry : {X : Type 0} (table : List (Name × X)) (k : ℕ) (e : Name × X) (name : Name) → slice_get table k ≡ Some e → place table name ≡ k → same_name name e.0 ≡ true
entry [] k e name there at = cc
entry (f ∷ fs) zero e name there at = elim (cases_Bool (same_name name f.0)) [
  | inl same ↦ ap (λ (p : Name × _). same_name name p.0) (sym (some_same f e there)) ∙ same
  | inr other ↦ absurd (no_zero (place fs name) (rw other at at))
]
  where
    no_zero : (n : ℕ) → 1 + n ≡ 0 → ⊥
    no_zero n h = omega (arith, h)
entry (f ∷ fs) (suc k) e name there at = elim (cases_Bool (same_name name f.0)) [
  | inl same ↦ absurd (no_suc k (rw same at at))
  | inr other ↦ entry fs k e name there (less (place fs name) k (rw other at at))
]
  where
    no_suc : (n : ℕ) → 0 ≡ suc n → ⊥
    no_suc n h = omega (arith, h)

    less : (m n : ℕ) → 1 + m ≡ suc n → m ≡ n
    less m n h = omega (arith, h)

pub not_among : {X : Type 0} (table : List (Name × X)) (k : ℕ) (e : Name × X) (name : Name) → slice_get table k ≡ Some e → list_any (same_name name) (keys_of table) ≡ false → same_name name e.0 ≡ false
not_among [] k e name there none = cc
not_among (f ∷ fs) zero e name there none = ap (λ (p : Name × _). same_name name p.0) (sym (some_same f e there)) ∙ first (same_name name f.0) (list_any (same_name name) (keys_of fs)) none
  where
    first : (a b : Bool) → (a || b) ≡ false → a ≡ false
    first true b h = h
    first false b h = refl
not_among (f ∷ fs) (suc k) e name there none = not_among fs k e name there (second (same_name name f.0) (list_any (same_name name) (keys_of fs)) none)
  where
    second : (a b : Bool) → (a || b) ≡ false → b ≡ false
    second true b h = absurd (true≢false h)
    second false b h = h

pub opposite : (b : Bool) → not b ≡ true → b ≡ false
opposite true h = sym h
opposite false h = refl

own_place : {X : Type 0} (table : List (Name × X)) (k : ℕ) (e : Name × X) → are_distinct (keys_of table) ≡ true → slice_get table k ≡ Some e → place table e.0 ≡ k
own_place [] k e distinct there = cc
own_place (f ∷ fs) zero e distinct there = rw (sym (some_same f e there)) (rw (same_name-self f.0) refl)
own_place (f ∷ fs) (suc k) e distinct there =
    let parts = and_parts (not (list_any (same_name f.0) (keys_of fs))) (are_distinct (keys_of fs)) distinct in
    let apart : same_name f.0 e.0 ≡ false = not_among fs k e f.0 there (opposite (list_any (same_name f.0) (keys_of fs)) parts.0) in
    let turned : same_name e.0 f.0 ≡ false = elim (cases_Bool (same_name e.0 f.0)) [
      | inl same ↦ absurd (true≢false (sym (subst (λ (n : Name). same_name n e.0 ≡ true) (same_name-equal e.0 f.0 same) (same_name-self e.0)) ∙ apart))
      | inr other ↦ other
    ] in
    rw turned (one_more (place fs e.0) k (own_place fs k e parts.1 there))
  where
    one_more : (m n : ℕ) → m ≡ n → 1 + m ≡ suc n
    one_more m n h = omega (arith, h)

-- a field's slot is the slot of its name
pub own_slot : {X : Type 0} (table : List (Name × X)) (k : ℕ) (e : Name × X) → are_distinct (keys_of table) ≡ true → slice_get table k ≡ Some e → slot_in table e.0 ≡ k
own_slot table k e distinct there = slot_is table e.0 ∙ own_place table k e distinct there

-- a slot belongs to only one name
pub same_slot : {X : Type 0} (table : List (Name × X)) (k : ℕ) (e : Name × X) (name : Name) → are_distinct (keys_of table) ≡ true → slice_get table k ≡ Some e
    → (slot_in table name == k) ≡ same_name name e.0
same_slot table k e name distinct there = elim (cases_Bool (same_name name e.0)) [
  | inl same ↦
      let e1 : name ≡ e.0 = same_name-equal name e.0 same in
      let at : slot_in table name ≡ k = ap (slot_in table) e1 ∙ own_slot table k e distinct there in
      equal (slot_in table name) k at ∙ sym same
  | inr other ↦ elim (cases_Bool (slot_in table name == k)) [
    | inl hit ↦ absurd (true≢false (sym (entry table k e name there (sym (slot_is table name) ∙ number (slot_in table name) k hit)) ∙ other))
    | inr miss ↦ miss ∙ sym other
  ]
]
  where
    equal : (m n : ℕ) → m ≡ n → (m == n) ≡ true
    equal m n h = grind (arith, nat_tests, h)

    number : (m n : ℕ) → (m == n) ≡ true → m ≡ n
    number m n h = grind (arith, nat_tests, h)

-- ---- a name without a slot has no shape in the source
-- a name in the table is found
found_own : {X : Type 0} (table : List (Name × X)) (k : ℕ) (e : Name × X) → slice_get table k ≡ Some e → is_some (found_in table e.0) ≡ true
found_own [] k e there = cc
found_own (f ∷ fs) zero e there = rw (sym (some_same f e there)) (rw (same_name-self f.0) refl)
found_own (f ∷ fs) (suc k) e there = step (same_name e.0 f.0) (found_own fs k e there)
  where
    step : (b : Bool) → is_some (found_in fs e.0) ≡ true → is_some (cond b (Some f.1) (found_in fs e.0)) ≡ true
    step true later = refl
    step false later = later

abbrev Listed : List (Name × Shape) → List (Name × Shape) → Type 0
Listed fields shapes = list_all (λ shape. is_some (found_in fields shape.0)) shapes ≡ true

-- a name that no field has isn't in the shapes of fields
unlisted : (fields shapes : List (Name × Shape)) (name : Name) → Listed fields shapes → found_in fields name ≡ None → shape_in shapes name ≡ Alphanumeric 0
unlisted fields [] name listed none = refl
unlisted fields (s ∷ shapes) name listed none =
    let parts = and_parts (is_some (found_in fields s.0)) (list_all (λ (shape : Name × Shape). is_some (found_in fields shape.0)) shapes) listed in
    elim (cases_Bool (same_name name s.0)) [
      | inl same ↦ absurd (true≢false (sym (ap (λ n. is_some (found_in fields n)) (same_name-equal name s.0 same) ∙ parts.0) ∙ ap (λ (o : Option Shape). is_some o) none))
      | inr other ↦ rw other (unlisted fields shapes name parts.1 none)
    ]

-- the reserved fields
more_listed : (f : Name × Shape) (fields shapes : List (Name × Shape)) → Listed fields shapes → Listed (f ∷ fields) shapes
more_listed f fields [] listed = refl
more_listed f fields (s ∷ shapes) listed =
    let parts = and_parts (is_some (found_in fields s.0)) (list_all (λ (shape : Name × Shape). is_some (found_in fields shape.0)) shapes) listed in
    rw (one (same_name s.0 f.0) parts.0, more_listed f fields shapes parts.1) refl
  where
    one : (b : Bool) → is_some (found_in fields s.0) ≡ true → is_some (cond b (Some f.1) (found_in fields s.0)) ≡ true
    one true later = refl
    one false later = later

begin_listed : (n : ℕ) (fields shapes : List (Name × Shape)) → pointwise same_name (take n (keys_of fields)) (keys_of shapes) ≡ true → Listed fields shapes
begin_listed n fields [] begins = refl
begin_listed zero fields (s ∷ shapes) begins = absurd (true≢false (sym begins))
begin_listed (suc n) [] (s ∷ shapes) begins = absurd (true≢false (sym begins))
begin_listed (suc n) (f ∷ fields) (s ∷ shapes) begins =
    let parts = and_parts (same_name f.0 s.0) (pointwise same_name (take n (keys_of fields)) (keys_of shapes)) begins in
    let same : f.0 ≡ s.0 = same_name-equal f.0 s.0 parts.0 in
    rw (here same, more_listed f fields shapes (begin_listed n fields shapes parts.1)) refl
  where
    here : f.0 ≡ s.0 → is_some (found_in (f ∷ fields) s.0) ≡ true
    here same = ap (λ n. is_some (found_in (f ∷ fields) n)) (sym same) ∙ found_own (f ∷ fields) 0 f refl

-- the name of a field's slot is found
slot_listed : (tables : Tables) (slot : Reference) → is_of kind.Field (meaning_at tables slot) ≡ true → is_some (found_in tables.fields (name_of tables slot)) ≡ true
slot_listed tables (slot.File k) of_field = absurd (no_file (item_in tables.files k) of_field)
  where
    no_file : (o : Option FileLine) → is_of kind.Field (or_undefined (λ x. meaning.File x) o) ≡ true → ⊥
    no_file None h = true≢false (sym h)
    no_file (Some x) h = true≢false (sym h)
slot_listed tables (slot.Tag k) of_field = absurd (no_tag (item_in tables.tags k) of_field)
  where
    no_tag : (o : Option TagPlace) → is_of kind.Field (or_undefined (λ x. meaning.Tag x) o) ≡ true → ⊥
    no_tag None h = true≢false (sym h)
    no_tag (Some x) h = true≢false (sym h)
slot_listed tables (slot.Subroutine k) of_field = absurd (no_subroutine (item_in tables.subroutines k) of_field)
  where
    no_subroutine : (o : Option SubroutinePlace) → is_of kind.Field (or_undefined (λ x. meaning.Subroutine x) o) ≡ true → ⊥
    no_subroutine None h = true≢false (sym h)
    no_subroutine (Some x) h = true≢false (sym h)
slot_listed tables (slot.Field k) of_field = step (slice_get tables.fields k) refl of_field
  where
    step : (o : Option (Name × Shape)) → slice_get tables.fields k ≡ o → is_of kind.Field (or_undefined (λ (e : Name × Shape). meaning.Field (record { name = e.0; meaning = e.1 })) o) ≡ true
        → is_some (found_in tables.fields (name_in tables.fields k)) ≡ true
    step None at h = absurd (true≢false (sym h))
    step (Some e) at h =
        ap (λ (o : Option (Name × Shape)). is_some (found_in tables.fields (unwrap_or (option_map (λ (entry : Name × Shape). entry.0) o) no_name))) at ∙ found_own tables.fields k e at

inputs_listed : (tables : Tables) (lines : List (InputLine Reference)) → list_all (input_passes is_of) (map (meant_input tables) lines) ≡ true
    → Listed tables.fields (filter_map input_shape (map (named_input tables) lines))
inputs_listed tables [] kinds = refl
inputs_listed tables (Record file indicator codes ∷ lines) kinds = inputs_listed tables lines (and_parts _ (list_all (input_passes is_of) (map (meant_input tables) lines)) kinds).1
inputs_listed tables (AndCodes codes ∷ lines) kinds = inputs_listed tables lines kinds
inputs_listed tables (OrCodes indicator codes ∷ lines) kinds = inputs_listed tables lines kinds
inputs_listed tables (InputField field ∷ lines) kinds =
    let parts = and_parts (is_of kind.Field (meaning_at tables field.name)) (list_all (input_passes is_of) (map (meant_input tables) lines)) kinds in
    rw (slot_listed tables field.name parts.0, inputs_listed tables lines parts.1) refl

calculations_listed : (tables : Tables) (lines : List (CalculationLine Reference)) → list_all (calculation_passes is_of) (map (meant_calculation tables) lines) ≡ true
    → Listed tables.fields (filter_map result_shape (map (named_calculation tables) lines))
calculations_listed tables [] kinds = refl
calculations_listed tables (line ∷ lines) kinds =
    let parts = and_parts (calculation_passes is_of (meant_calculation tables line)) (list_all (calculation_passes is_of) (map (meant_calculation tables) lines)) kinds in
    let result : entry_passes (is_of kind.Field) (option_map (meaning_at tables) line.result) ≡ true = (and_parts _ (entry_passes (is_of kind.Field) (option_map (meaning_at tables) line.result)) parts.0).1 in
    step line.result line.definition refl refl result (calculations_listed tables lines parts.1)
  where
    step : (result : Option Reference) (definition : Option Shape) → line.result ≡ result → line.definition ≡ definition → entry_passes (is_of kind.Field) (option_map (meaning_at tables) line.result) ≡ true
        → Listed tables.fields (filter_map result_shape (map (named_calculation tables) lines)) → Listed tables.fields (filter_map result_shape (map (named_calculation tables) (line ∷ lines)))
    step None definition is_result is_definition of_field later = rw is_result later
    step (Some slot) None is_result is_definition of_field later = rw (is_result, is_definition) later
    step (Some slot) (Some shape) is_result is_definition of_field later =
        rw (is_result, is_definition) (rw (slot_listed tables slot (ap (λ r. entry_passes (is_of kind.Field) (option_map (meaning_at tables) r)) (sym is_result) ∙ of_field), later) refl)

pub no_shape : (parts : Parts) (name : Name) → is_valid parts ≡ true → found_in (tables_of parts).fields name ≡ None → shape_of (named parts) name ≡ Alphanumeric 0
unfolding named are_of_kinds
no_shape parts name valid none =
    let k : Kept parts = kept parts valid in
    let fields : List (Name × Shape) = (tables_of parts).fields in
    let kinds = and_parts _ _ (and_parts _ _ k.kinds).0 in
    let listed = λ (shape : Name × Shape). is_some (found_in fields shape.0) in
    let inputs : List (Name × Shape) = filter_map input_shape (map (named_input (tables_of parts)) parts.inputs) in
    let results : List (Name × Shape) = filter_map result_shape (map (named_calculation (tables_of parts)) parts.calculations) in
    let all : Listed fields (reserved_shapes ++ inputs ++ results) =
    list_all-append listed reserved_shapes (inputs ++ results)
    ∙ (λ i. begin_listed (length reserved_shapes) fields reserved_shapes k.reserved i && (list_all-append listed inputs results ∙ (λ j. inputs_listed (tables_of parts) parts.inputs kinds.0 j && calculations_listed (tables_of parts) parts.calculations kinds.1 j)) i) in
    unlisted fields (reserved_shapes ++ inputs ++ results) name all none
