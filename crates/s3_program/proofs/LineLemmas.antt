-- Lines with slots have the meanings and the names of the lines with names.
use Rattle.std.proofs.Common.{◌≡◌, List, [], ◌∷◌, Bool, true, refl, ◌∙◌, ap}
use Rattle.std.specs.Prelude.{Option, Some, None, map, filter_map, option_map, is_some}
use Rattle.std.specs.List.{list_all, cons_option}
use Rattle.std.proofs.lemmas.Bool.{and_parts}
use Rattle.s3_cards.specs.declared.name.Name.{Name}
use Rattle.s3_lines.specs.declared.sheet.InputLine.{InputLine}
use Rattle.s3_lines.specs.declared.sheet.InputLine.TheVariants.{Record, And, Or, Field}
use Rattle.s3_lines.specs.declared.sheet.Factor.{Factor}
use Rattle.s3_lines.specs.declared.sheet.Factor.TheVariants.{Named, Number, Text}
use Rattle.s3_lines.specs.declared.sheet.CalculationLine.{CalculationLine}
use Rattle.s3_lines.specs.declared.sheet.OutputContent.{OutputContent}
use Rattle.s3_lines.specs.declared.sheet.OutputContent.TheVariants.{Constant as ConstantContent, Field as FieldContent}
use Rattle.s3_lines.specs.declared.sheet.OutputLine.{OutputLine}
use Rattle.s3_lines.specs.declared.sheet.OutputLine.TheVariants.{Line as LineCard, And as AndCard, Or as OrCard, Field as FieldCard}
use Rattle.s3_program.specs.declared.program.Kind.{Kind}
use Rattle.s3_program.specs.declared.program.Kind.TheVariants as kind
use Rattle.s3_program.specs.declared.program.Meaning.{Meaning}
use Rattle.s3_program.specs.declared.program.Meaning.TheVariants as meaning
use Rattle.s3_program.specs.Tables.{Tables, meaning_of, or_undefined, found_in}
use Rattle.s3_program.specs.Inner.Tables.{reference, name_of, meaning_at}
use Rattle.s3_program.specs.Lines.{map_factor, map_content}
use Rattle.s3_program.specs.Kinds.{first_kind, second_kind}
use Rattle.s3_program.specs.Inner.Meant.{is_defined, factor_passes, entry_passes, input_passes, calculation_passes, output_passes}
use Rattle.s3_program.specs.Inner.Valid.{named_input, named_calculation, named_output, meant_input, meant_calculation, meant_output}
use Rattle.s3_program.specs.Inner.Translation.{slotted_input, slotted_calculation, slotted_output, known_input, known_calculation, known_output}
use Rattle.s3_program.proofs.TableLemmas.{slot_item, slot_entry, slot_name}

-- ---- one name
through : {X Y : Type 0} (f : X → Y) (known : Y → Meaning) (o : Option X) → or_undefined known (option_map f o) ≡ or_undefined (λ x. known (f x)) o
through f known None = refl
through f known (Some x) = refl

pub meant : (tables : Tables) (k : Kind) (name : Name) → meaning_at tables (reference tables k name) ≡ meaning_of tables k name
meant tables kind.File name = ap (or_undefined (λ x. meaning.File x)) (slot_item tables.files name)
meant tables kind.Field name =
    ap (or_undefined (λ entry. meaning.Field (record { name = entry.0; meaning = entry.1 }))) (slot_entry tables.fields name)
    ∙ through (λ x. (name, x)) (λ entry. meaning.Field (record { name = entry.0; meaning = entry.1 })) (found_in tables.fields name)
meant tables kind.Tag name = ap (or_undefined (λ x. meaning.Tag x)) (slot_item tables.tags name)
meant tables kind.Subroutine name = ap (or_undefined (λ x. meaning.Subroutine x)) (slot_item tables.subroutines name)

there : {X : Type 0} (known : X → Meaning) (o : Option X) → is_defined (or_undefined known o) ≡ true → is_some o ≡ true
there known None defined = defined
there known (Some x) defined = refl

pub back : (tables : Tables) (k : Kind) (name : Name) → is_defined (meaning_of tables k name) ≡ true → name_of tables (reference tables k name) ≡ name
back tables kind.File name defined = slot_name tables.files name (there (λ x. meaning.File x) (found_in tables.files name) defined)
back tables kind.Field name defined = slot_name tables.fields name (there (λ x. meaning.Field (record { name = name; meaning = x })) (found_in tables.fields name) defined)
back tables kind.Tag name defined = slot_name tables.tags name (there (λ x. meaning.Tag x) (found_in tables.tags name) defined)
back tables kind.Subroutine name defined = slot_name tables.subroutines name (there (λ x. meaning.Subroutine x) (found_in tables.subroutines name) defined)

-- ---- entries
factor_meant : (tables : Tables) (k : Kind) (factor : Option (Factor Name))
    → option_map (map_factor (meaning_at tables)) (option_map (map_factor (reference tables k)) factor) ≡ option_map (map_factor (meaning_of tables k)) factor
factor_meant tables k None = refl
factor_meant tables k (Some (Named name)) = ap (λ m. Some (Named m)) (meant tables k name)
factor_meant tables k (Some (Number literal)) = refl
factor_meant tables k (Some (Text literal)) = refl

factor_back : (tables : Tables) (k : Kind) (factor : Option (Factor Name)) → factor_passes is_defined (option_map (map_factor (meaning_of tables k)) factor) ≡ true
    → option_map (map_factor (name_of tables)) (option_map (map_factor (reference tables k)) factor) ≡ factor
factor_back tables k None defined = refl
factor_back tables k (Some (Named name)) defined = ap (λ n. Some (Named n)) (back tables k name defined)
factor_back tables k (Some (Number literal)) defined = refl
factor_back tables k (Some (Text literal)) defined = refl

entry_meant : (tables : Tables) (k : Kind) (entry : Option Name) → option_map (meaning_at tables) (option_map (reference tables k) entry) ≡ option_map (meaning_of tables k) entry
entry_meant tables k None = refl
entry_meant tables k (Some name) = ap (λ m. Some m) (meant tables k name)

entry_back : (tables : Tables) (k : Kind) (entry : Option Name) → entry_passes is_defined (option_map (meaning_of tables k) entry) ≡ true
    → option_map (name_of tables) (option_map (reference tables k) entry) ≡ entry
entry_back tables k None defined = refl
entry_back tables k (Some name) defined = ap (λ n. Some n) (back tables k name defined)

-- ---- the meanings of lines
pub input_meant : (tables : Tables) (line : InputLine Name) → meant_input tables (slotted_input tables line) ≡ known_input tables line
input_meant tables (Record file indicator codes) = ap (λ m. Record m indicator codes) (meant tables kind.File file)
input_meant tables (And codes) = refl
input_meant tables (Or indicator codes) = refl
input_meant tables (Field line) = λ i. Field (record {
  name = meant tables kind.Field line.name i;
  from = line.from;
  to = line.to;
  form = line.form;
  control_level = line.control_level;
  match_level = line.match_level;
  relation = line.relation;
  indicators = line.indicators;
})

pub calculation_meant : (tables : Tables) (line : CalculationLine Name) → meant_calculation tables (slotted_calculation tables line) ≡ known_calculation tables line
calculation_meant tables line = λ i. record {
  time = line.time;
  conditions = line.conditions;
  factor1 = factor_meant tables (first_kind line.operation) line.factor1 i;
  operation = line.operation;
  factor2 = factor_meant tables (second_kind line.operation) line.factor2 i;
  result = entry_meant tables kind.Field line.result i;
  definition = line.definition;
  half_adjust = line.half_adjust;
  indicators = line.indicators;
}

content_meant : (tables : Tables) (content : OutputContent Name)
    → map_content (meaning_at tables) (map_content (reference tables kind.Field) content) ≡ map_content (meaning_of tables kind.Field) content
content_meant tables (ConstantContent constant) = refl
content_meant tables (FieldContent field) = ap (λ m. FieldContent (record { name = m; form = field.form; blank_after = field.blank_after })) (meant tables kind.Field field.name)

pub output_meant : (tables : Tables) (line : OutputLine Name) → meant_output tables (slotted_output tables line) ≡ known_output tables line
output_meant tables (LineCard card) = λ i. LineCard (record {
  file = entry_meant tables kind.File card.file i;
  kind = card.kind;
  is_addition = card.is_addition;
  spacing = card.spacing;
  conditions = card.conditions;
})
output_meant tables (AndCard conditions) = refl
output_meant tables (OrCard conditions) = refl
output_meant tables (FieldCard field) = λ i. FieldCard (record { conditions = field.conditions; content = content_meant tables field.content i; «end» = field.end })

-- ---- the names of lines
pub input_back : (tables : Tables) (line : InputLine Name) → input_passes (λ kind meaning. is_defined meaning) (known_input tables line) ≡ true → named_input tables (slotted_input tables line) ≡ line
input_back tables (Record file indicator codes) defined = ap (λ n. Record n indicator codes) (back tables kind.File file defined)
input_back tables (And codes) defined = refl
input_back tables (Or indicator codes) defined = refl
input_back tables (Field line) defined = λ i. Field (record {
  name = back tables kind.Field line.name defined i;
  from = line.from;
  to = line.to;
  form = line.form;
  control_level = line.control_level;
  match_level = line.match_level;
  relation = line.relation;
  indicators = line.indicators;
})

pub calculation_back : (tables : Tables) (line : CalculationLine Name) → calculation_passes (λ kind meaning. is_defined meaning) (known_calculation tables line) ≡ true
    → named_calculation tables (slotted_calculation tables line) ≡ line
calculation_back tables line defined =
    let two = and_parts _ _ defined in
    let one = and_parts _ _ two.0 in
    λ i. record {
      time = line.time;
      conditions = line.conditions;
      factor1 = factor_back tables (first_kind line.operation) line.factor1 one.0 i;
      operation = line.operation;
      factor2 = factor_back tables (second_kind line.operation) line.factor2 one.1 i;
      result = entry_back tables kind.Field line.result two.1 i;
      definition = line.definition;
      half_adjust = line.half_adjust;
      indicators = line.indicators;
    }

pub output_back : (tables : Tables) (line : OutputLine Name) → output_passes (λ kind meaning. is_defined meaning) (known_output tables line) ≡ true → named_output tables (slotted_output tables line) ≡ line
output_back tables (LineCard card) defined = λ i. LineCard (record {
  file = entry_back tables kind.File card.file defined i;
  kind = card.kind;
  is_addition = card.is_addition;
  spacing = card.spacing;
  conditions = card.conditions;
})
output_back tables (AndCard conditions) defined = refl
output_back tables (OrCard conditions) defined = refl
output_back tables (FieldCard field) defined = of_content field.content defined
  where
    of_content : (content : OutputContent Name) → output_passes (λ kind meaning. is_defined meaning) (FieldCard (record { conditions = field.conditions; content = map_content (meaning_of tables kind.Field) content; «end» = field.end })) ≡ true
        → FieldCard (record { conditions = field.conditions; content = map_content (name_of tables) (map_content (reference tables kind.Field) content); «end» = field.end }) ≡ FieldCard (record { conditions = field.conditions; content = content; «end» = field.end })
    of_content (ConstantContent constant) defined = refl
    of_content (FieldContent output) defined = λ i. FieldCard (record {
      conditions = field.conditions;
      content = FieldContent (record { name = back tables kind.Field output.name defined i; form = output.form; blank_after = output.blank_after });
      «end» = field.end;
    })

-- ---- lists
pub all_meant : {A B C : Type 0} (m : B → C) (s : A → B) (k : A → C) → ((x : A) → m (s x) ≡ k x) → (xs : List A) → map m (map s xs) ≡ map k xs
all_meant m s k same [] = refl
all_meant m s k same (x ∷ xs) = λ i. same x i ∷ all_meant m s k same xs i

pub all_back : {A B : Type 0} (n : B → A) (s : A → B) (ok : A → Bool) → ((x : A) → ok x ≡ true → n (s x) ≡ x) → (xs : List A) → list_all ok xs ≡ true → map n (map s xs) ≡ xs
all_back n s ok same [] all = refl
all_back n s ok same (x ∷ xs) all = let parts = and_parts (ok x) (list_all ok xs) all in λ i. same x parts.0 i ∷ all_back n s ok same xs parts.1 i

pub all_taken : {A B C : Type 0} (s : B → C) (o : A → Option B) (xs : List A) → filter_map (λ x. option_map s (o x)) xs ≡ map s (filter_map o xs)
all_taken s o [] = refl
all_taken {A} {B} {C} s o (x ∷ xs) = step (o x) (all_taken s o xs)
  where
    step : (found : Option B) → filter_map (λ x. option_map s (o x)) xs ≡ map s (filter_map o xs) → cons_option (option_map s found) (filter_map (λ x. option_map s (o x)) xs) ≡ map s (cons_option found (filter_map o xs))
    step None later = later
    step (Some b) later = ap (λ ys. s b ∷ ys) later
