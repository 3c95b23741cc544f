-- For lines without diagnostics, the tables of their definitions are right.
use Rattle.std.proofs.Common.{◌≡◌, ℕ, ◌+◌, ◌++◌, List, [], ◌∷◌, Bool, true, false, ◌&&◌, cond, refl, sym, ◌∙◌, ap, arith, append_assoc, ◌==◌}
use Rattle.std.specs.Prelude.{Option, Some, None, map, filter_map, is_some}
use Rattle.std.specs.List.{list_all, cons_option}
use Rattle.std.specs.Map.{lookup, keys_of}
use Rattle.std.proofs.lemmas.Bool.{true≢false, and_parts, or_parts, not-false, eqb-true}
use Rattle.std.proofs.lemmas.List.Folds.{list_all-append}
use Rattle.s3_cards.specs.declared.name.Name.{Name}
use Rattle.s3_cards.specs.Names.{same_name}
use Rattle.s3_cards.proofs.NameLemmas.{same_name-self}
use Rattle.s3_lines.specs.declared.sheet.FileLine.{FileLine}
use Rattle.s3_lines.specs.declared.sheet.InputLine.{InputLine}
use Rattle.s3_lines.specs.declared.sheet.InputLine.TheVariants.{Record, And as AndCodes, Or as OrCodes, Field as FieldOfRecord}
use Rattle.s3_lines.specs.declared.sheet.Operation.{Operation}
use Rattle.s3_lines.specs.declared.sheet.CalculationLine.{CalculationLine}
use Rattle.s3_lines.specs.declared.sheet.Shape.{Shape}
use Rattle.s3_lines.specs.declared.sheet.Line.{Line}
use Rattle.s3_lines.specs.Ranges.{if_given, shape_in_range}
use Rattle.s3_lines.specs.Inner.Ranges.{input_in_range, calculation_in_range, are_read}
use Rattle.s3_meaning.specs.Source.{source_of, reserved_shapes, shape_in, input_shape, result_shape, file_line, input_line, calculation_line}
use Rattle.s3_program.specs.declared.call.Call.{Call}
use Rattle.s3_program.specs.declared.definitions.Definitions.{Definitions}
use Rattle.s3_program.specs.declared.standing.FileStanding.{FileStanding}
use Rattle.s3_program.specs.declared.standing.CalculationStanding.{CalculationStanding}
use Rattle.s3_program.specs.Inner.Conditions.{is_clear, files_clear, calculations_clear, are_clear}
use Rattle.s3_program.specs.Conditions.{verb_of, first_file_of, file_places, file_holds, calculation_holds, forbidden_among}
use Rattle.s3_program.specs.Inner.Distinct.{are_distinct}
use Rattle.s3_program.specs.Inner.Given.{noted, all_noted, firsts, files_given}
use Rattle.s3_program.specs.Inner.Meant.{are_defined}
use Rattle.s3_program.specs.Places.{Verb}
use Rattle.s3_program.specs.Inner.Positions.{are_in_range}
use Rattle.s3_program.specs.Redefined.{is_elsewhere, shape_of_field}
use Rattle.s3_program.specs.Shapes.{same_shape}
use Rattle.s3_program.specs.Standings.{first_file, behind_file, first_calculation, behind_calculation}
use Rattle.s3_program.specs.Tables.{Tables}
use Rattle.s3_program.specs.Inner.Translation.{IsAccepted, tables_in, known_input, known_calculation, known_lines}
use Rattle.s3_program.specs.FileEntries.{file_entry}
use Rattle.s3_program.specs.Inner.Valid.{are_shaped, begin_reserved, are_right}
use Rattle.s3_program.proofs.GivenLemmas.{all_distinct, first_shapes, reserved_first, distinct_first}
use Rattle.s3_program.proofs.LineLemmas.{all_taken}
use Rattle.s3_program.proofs.SoundLemmas.{both, ranged}
use Rattle.s3_diagnose.specs.Lookups.{input_given, result_given, fields_given}
use Rattle.s3_compile.specs.Inner.Defines.{Defines}
use Rattle.s3_compile.proofs.Labelling.{IsOff, is_off, Ascends, ascending_distinct, labels_right}

-- ---- files
-- a file among others is found
found_among : (place : ℕ) (before behind : List FileLine) (file : FileLine) → is_some (lookup (same_name file.name) (file_places place (before ++ file ∷ behind))) ≡ true
found_among place [] behind file = rw (same_name-self file.name) refl
found_among place (other ∷ before) behind file = step (same_name file.name other.name) (found_among (place + 1) before behind file)
  where
    step : (b : Bool) → is_some (lookup (same_name file.name) (file_places (place + 1) (before ++ file ∷ behind))) ≡ true
        → is_some (cond b (Some place) (lookup (same_name file.name) (file_places (place + 1) (before ++ file ∷ behind)))) ≡ true
    step true later = refl
    step false later = later

own_place : (place : ℕ) (found : Option ℕ) → is_some found ≡ true → is_elsewhere place found ≡ false → found ≡ Some place
own_place place None there own = absurd (true≢false (sym there))
own_place place (Some first) there own = ap (λ n. Some n) (eqb-true first place (not-false (first == place) own))

files_ascend : (all before files : List FileLine) (at : FileStanding) → all ≡ before ++ files → files_clear (first_file_of all) at files ≡ true
    → Ascends (λ place. place) (first_file_of all) at.place (file_places at.place files)
files_ascend all before [] at whole clear = tt
files_ascend all before (file ∷ files) at whole clear =
    let parts = and_parts _ _ clear in
    let off : IsOff (file_holds (first_file_of all) at file) = is_off (file_holds (first_file_of all) at file) parts.0 in
    let there : is_some (first_file_of all file.name) ≡ true = ap (λ fs. is_some (first_file_of fs file.name)) whole ∙ found_among 0 before files file in
    let further : all ≡ (before ++ file ∷ []) ++ files = whole ∙ sym (append_assoc before (file ∷ []) files) in
    (omega arith, (own_place at.place (first_file_of all file.name) there off.redefined, files_ascend all (before ++ file ∷ []) files (behind_file at file) further parts.1))

same_keys : (place : ℕ) (files : List FileLine) → keys_of (map file_entry files) ≡ keys_of (file_places place files)
same_keys place [] = refl
same_keys place (file ∷ files) = ap (λ names. file.name ∷ names) (same_keys (place + 1) files)

pub files_of_clear : (known : Definitions) (lines : List Line) → Defines known lines → files_clear (first_file_of (filter_map file_line lines)) first_file (filter_map file_line lines) ≡ true
    → known.files.entries ≡ map file_entry (filter_map file_line lines)
files_of_clear known lines defines clear =
    let files : List FileLine = filter_map file_line lines in
    let ascend : Ascends (λ place. place) (first_file_of files) 0 (file_places 0 files) = files_ascend files [] files first_file refl clear in
    let distinct : are_distinct (keys_of (map file_entry files)) ≡ true = ap are_distinct (same_keys 0 files) ∙ ascending_distinct _ _ 0 (file_places 0 files) ascend in
    defines.files ∙ (ap firsts (all_taken file_entry file_line lines) ∙ distinct_first (map file_entry files) distinct)

-- ---- fields: they have the shapes of the source
inputs_shaped : (lines : List (InputLine Name)) → filter_map input_given lines ≡ filter_map input_shape lines
inputs_shaped [] = refl
inputs_shaped (Record file indicator codes ∷ lines) = inputs_shaped lines
inputs_shaped (AndCodes codes ∷ lines) = inputs_shaped lines
inputs_shaped (OrCodes indicator codes ∷ lines) = inputs_shaped lines
inputs_shaped (FieldOfRecord field ∷ lines) = ap (λ shapes. (field.name, shape_of_field field) ∷ shapes) (inputs_shaped lines)

-- a line without operation has no result
result_shaped : (tables : Tables) (forbidden : Call → Bool) (at : CalculationStanding) (later : List Verb) (line : CalculationLine Name)
    → is_clear (calculation_holds forbidden at later (known_calculation tables line)) ≡ true → result_given line ≡ result_shape line
result_shaped tables forbidden at later line clear = on line.operation line.result line.definition (is_off (calculation_holds forbidden at later (known_calculation tables line)) clear)
  where
    on : (operation : Option Operation) (result : Option Name) (definition : Option Shape)
        → IsOff (calculation_holds forbidden at later (known_calculation tables (record line { operation = operation; result = result; definition = definition })))
        → result_given (record line { operation = operation; result = result; definition = definition }) ≡ result_shape (record line { operation = operation; result = result; definition = definition })
    on (Some operation) None definition off = refl
    on (Some operation) (Some name) None off = refl
    on (Some operation) (Some name) (Some shape) off = refl
    on None None definition off = refl
    on None (Some name) definition off =
        let bare = not-false _ (or_parts _ _ off.unfit).1 in
        let three = and_parts _ _ (and_parts _ _ (and_parts _ _ (and_parts _ _ bare).0).0).0 in
        absurd (true≢false (sym three.1))

results_shaped : (tables : Tables) (forbidden : Call → Bool) (at : CalculationStanding) (lines : List (CalculationLine Name))
    → calculations_clear forbidden at (map (known_calculation tables) lines) ≡ true → filter_map result_given lines ≡ filter_map result_shape lines
results_shaped tables forbidden at [] clear = refl
results_shaped tables forbidden at (line ∷ lines) clear =
    let parts = and_parts _ _ clear in
    let here : result_given line ≡ result_shape line = result_shaped tables forbidden at (map verb_of (map (known_calculation tables) lines)) line parts.0 in
    let later : filter_map result_given lines ≡ filter_map result_shape lines = results_shaped tables forbidden (behind_calculation at line) lines parts.1 in
    λ i. cons_option (here i) (later i)

shapes_given : (tables : Tables) (forbidden : Call → Bool) (lines : List Line) → calculations_clear forbidden first_calculation (map (known_calculation tables) (filter_map calculation_line lines)) ≡ true
    → reserved_shapes ++ fields_given lines ≡ (source_of lines).shapes
shapes_given tables forbidden lines clear =
    let inputs : List (InputLine Name) = filter_map input_line lines in
    let calculations : List (CalculationLine Name) = filter_map calculation_line lines in
    sym (append_assoc reserved_shapes (filter_map input_given inputs) (filter_map result_given calculations))
    ∙ (ap (λ shapes. (reserved_shapes ++ shapes) ++ filter_map result_given calculations) (inputs_shaped inputs)
    ∙ ap (λ shapes. (reserved_shapes ++ filter_map input_shape inputs) ++ shapes) (results_shaped tables forbidden first_calculation calculations clear))

-- ---- fields: their shapes are in range
abbrev is_ranged : Name × Shape → Bool
is_ranged field = shape_in_range field.1

inputs_ranged : (tables : Tables) (lines : List (InputLine Name)) → list_all input_in_range (map (known_input tables) lines) ≡ true → list_all is_ranged (filter_map input_given lines) ≡ true
inputs_ranged tables [] all = refl
inputs_ranged tables (Record file indicator codes ∷ lines) all = inputs_ranged tables lines (and_parts _ _ all).1
inputs_ranged tables (AndCodes codes ∷ lines) all = inputs_ranged tables lines (and_parts _ _ all).1
inputs_ranged tables (OrCodes indicator codes ∷ lines) all = inputs_ranged tables lines (and_parts _ _ all).1
inputs_ranged tables (FieldOfRecord field ∷ lines) all =
    let parts = and_parts _ _ all in
    let shape = and_parts _ _ (and_parts _ _ (and_parts _ _ (and_parts _ _ (and_parts _ _ parts.0).0).0).0).0 in
    both _ _ shape.1 (inputs_ranged tables lines parts.1)

results_ranged : (tables : Tables) (lines : List (CalculationLine Name)) → list_all calculation_in_range (map (known_calculation tables) lines) ≡ true
    → list_all is_ranged (filter_map result_given lines) ≡ true
results_ranged tables [] all = refl
results_ranged tables (line ∷ lines) all =
    let parts = and_parts _ _ all in
    let shape = and_parts _ _ (and_parts _ _ parts.0).0 in
    on line.operation line.result line.definition shape.1 (results_ranged tables lines parts.1)
  where
    on : (operation : Option Operation) (result : Option Name) (definition : Option Shape) → if_given shape_in_range definition ≡ true
        → list_all is_ranged (filter_map result_given lines) ≡ true
        → list_all is_ranged (cons_option (result_given (record line { operation = operation; result = result; definition = definition })) (filter_map result_given lines)) ≡ true
    on None result definition here later = later
    on (Some operation) None definition here later = later
    on (Some operation) (Some name) None here later = later
    on (Some operation) (Some name) (Some shape) here later = both _ _ here later

-- a property of all entries holds for the first ones
noted_all : {X : Type 0} (p : Name × X → Bool) (table entries : List (Name × X)) → list_all p table ≡ true → list_all p entries ≡ true → list_all p (all_noted table entries) ≡ true
unfolding all_noted
noted_all p table [] before all = before
noted_all {X} p table (entry ∷ entries) before all =
    let parts = and_parts _ _ all in
    noted_all p (noted table entry) entries (step (is_some (lookup (same_name entry.0) table)) parts.0) parts.1
  where
    step : (b : Bool) → p entry ≡ true → list_all p (cond b table (table ++ entry ∷ [])) ≡ true
    step true here = before
    step false here = list_all-append p table (entry ∷ []) ∙ both _ _ before (both _ _ here refl)

both_all : {X : Type 0} (p q : X → Bool) (xs : List X) → list_all p xs ≡ true → list_all q xs ≡ true → list_all (λ x. p x && q x) xs ≡ true
both_all p q [] one two = refl
both_all p q (x ∷ xs) one two =
    let ones = and_parts _ _ one in
    let twos = and_parts _ _ two in
    both _ _ (both _ _ ones.0 twos.0) (both_all p q xs ones.1 twos.1)

fields_ranged : (tables : Tables) (lines : List Line) → are_read lines ≡ true → list_all is_ranged (firsts (reserved_shapes ++ fields_given lines)) ≡ true
unfolding are_in_range
fields_ranged tables lines read =
    let three = and_parts _ _ (ranged tables lines read) in
    let two = and_parts _ _ three.0 in
    let one = and_parts _ _ two.0 in
    let inputs : List (Name × Shape) = filter_map input_given (filter_map input_line lines) in
    let results : List (Name × Shape) = filter_map result_given (filter_map calculation_line lines) in
    let given : list_all is_ranged (inputs ++ results) ≡ true =
    list_all-append is_ranged inputs results ∙ both _ _ (inputs_ranged tables (filter_map input_line lines) one.1) (results_ranged tables (filter_map calculation_line lines) two.1) in
    noted_all is_ranged [] (reserved_shapes ++ (inputs ++ results)) refl (list_all-append is_ranged reserved_shapes (inputs ++ results) ∙ given)

fields_shaped : (tables : Tables) (forbidden : Call → Bool) (lines : List Line) → are_read lines ≡ true
    → calculations_clear forbidden first_calculation (map (known_calculation tables) (filter_map calculation_line lines)) ≡ true
    → are_shaped (source_of lines) (firsts (reserved_shapes ++ fields_given lines)) ≡ true
fields_shaped tables forbidden lines read clear =
    let entries : List (Name × Shape) = reserved_shapes ++ fields_given lines in
    let same : list_all (λ field. same_shape (shape_in (source_of lines).shapes field.0) field.1) (firsts entries) ≡ true =
    ap (λ (shapes : List (Name × Shape)). list_all (λ field. same_shape (shape_in shapes field.0) field.1) (firsts entries)) (sym (shapes_given tables forbidden lines clear)) ∙ first_shapes entries in
    both_all is_ranged (λ field. same_shape (shape_in (source_of lines).shapes field.0) field.1) (firsts entries) (fields_ranged tables lines read) same

-- ---- all tables
pub right_of_clear : (known : Definitions) (lines : List Line) → Defines known lines → are_read lines ≡ true
    → are_clear (filter_map file_line lines) (known_lines (tables_in known) lines).inputs (known_lines (tables_in known) lines).calculations (known_lines (tables_in known) lines).outputs ≡ true
    → are_right (source_of lines) (tables_in known) (known_lines (tables_in known) lines).calculations ≡ true
unfolding are_clear
right_of_clear known lines defines read clear =
    let tables : Tables = tables_in known in
    let calculations : List (CalculationLine Name) = filter_map calculation_line lines in
    let forbidden : Call → Bool = forbidden_among (map (known_calculation tables) calculations) in
    let parts = and_parts _ _ (and_parts _ _ clear).0 in
    let calculated : calculations_clear forbidden first_calculation (map (known_calculation tables) calculations) ≡ true = parts.1 in
    let entries : List (Name × Shape) = reserved_shapes ++ fields_given lines in
    let files : are_distinct (keys_of known.files.entries) ≡ true =
    ap (λ (table : List (Name × FileLine)). are_distinct (keys_of table)) defines.files ∙ all_distinct [] (files_given lines) refl in
    let fields : are_distinct (keys_of known.fields.entries) ≡ true =
    ap (λ (table : List (Name × Shape)). are_distinct (keys_of table)) defines.fields ∙ all_distinct [] entries refl in
    let reserved : begin_reserved known.fields.entries ≡ true = ap begin_reserved defines.fields ∙ reserved_first (fields_given lines) in
    let shaped : are_shaped (source_of lines) known.fields.entries ≡ true =
    ap (are_shaped (source_of lines)) defines.fields ∙ fields_shaped tables forbidden lines read calculated in
    both _ _ (both _ _ (both _ _ (both _ _ files fields) reserved) shaped)
    (labels_right tables forbidden calculations defines.tags defines.subroutines calculated)

-- lines without diagnostics, of cards without errors of their own, are accepted
pub accepted_of_clear : (known : Definitions) (lines : List Line) → Defines known lines → are_defined (known_lines (tables_in known) lines) ≡ true → are_read lines ≡ true
    → are_clear (filter_map file_line lines) (known_lines (tables_in known) lines).inputs (known_lines (tables_in known) lines).calculations (known_lines (tables_in known) lines).outputs ≡ true
    → IsAccepted known lines
unfolding are_clear
accepted_of_clear known lines defines defined read clear =
    let files = and_parts _ _ (and_parts _ _ (and_parts _ _ (and_parts _ _ clear).0).0).0 in
    record {
      files = files_of_clear known lines defines files.1;
      right = right_of_clear known lines defines read clear;
      defined = defined;
      read = read;
      clear = clear;
    }
