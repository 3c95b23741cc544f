-- In lines without diagnostics all names are defined. An undefined name that is used would get 5, and a surplus one 8.
use Rattle.std.proofs.Common.{◌≡◌, ℕ, List, [], ◌∷◌, ◌++◌, Bool, true, false, cond, not, ◌&&◌, refl, sym, ◌∙◌, ap, subst}
use Rattle.std.specs.Prelude.{Option, Some, None, is_some, is_none, map, filter_map}
use Rattle.std.specs.Option.{option_or}
use Rattle.std.specs.Map.{lookup}
use Rattle.std.specs.List.{list_all}
use Rattle.std.proofs.lemmas.Bool.{and_parts, or_parts, not-false}
use Rattle.s3_cards.specs.declared.name.Name.{Name}
use Rattle.s3_cards.specs.Names.{same_name}
use Rattle.s3_cards.proofs.NameLemmas.{same_name-self}
use Rattle.s3_lines.specs.declared.sheet.Factor.{Factor}
use Rattle.s3_lines.specs.declared.sheet.Factor.TheVariants.{Named, Number, Text}
use Rattle.s3_lines.specs.declared.sheet.InputLine.{InputLine}
use Rattle.s3_lines.specs.declared.sheet.InputLine.TheVariants.{Record, And as AndCodes, Or as OrCodes, Field as FieldOfRecord}
use Rattle.s3_lines.specs.declared.sheet.Operation.{Operation}
use Rattle.s3_lines.specs.declared.sheet.Operation.TheVariants as op
use Rattle.s3_lines.specs.declared.sheet.CalculationLine.{CalculationLine}
use Rattle.s3_lines.specs.declared.sheet.OutputContent.{OutputContent}
use Rattle.s3_lines.specs.declared.sheet.OutputContent.TheVariants.{Constant as ConstantContent, Field as FieldContent}
use Rattle.s3_lines.specs.declared.sheet.OutputLine.{OutputLine}
use Rattle.s3_lines.specs.declared.sheet.OutputLine.TheVariants.{Line as LineCard, And as AndCard, Or as OrCard, Field as FieldCard}
use Rattle.s3_lines.specs.declared.sheet.Shape.{Shape}
use Rattle.s3_lines.specs.declared.sheet.Line.{Line}
use Rattle.s3_meaning.specs.Source.{reserved_shapes, file_line, input_line, calculation_line}
use Rattle.s3_program.specs.declared.call.Call.{Call}
use Rattle.s3_program.specs.declared.definitions.Definitions.{Definitions}
use Rattle.s3_program.specs.declared.program.Kind.TheVariants as kind
use Rattle.s3_program.specs.declared.program.Meaning.{Meaning}
use Rattle.s3_program.specs.declared.program.Meaning.TheVariants as a
use Rattle.s3_program.specs.declared.row.Operand.{Operand}
use Rattle.s3_program.specs.declared.row.Operand.TheVariants as operand
use Rattle.s3_program.specs.declared.row.Target.{Target}
use Rattle.s3_program.specs.declared.row.Target.TheVariants as target
use Rattle.s3_program.specs.declared.row.Row.{Row}
use Rattle.s3_program.specs.declared.standing.InputStanding.{InputStanding}
use Rattle.s3_program.specs.declared.standing.CalculationStanding.{CalculationStanding}
use Rattle.s3_program.specs.declared.standing.OutputStanding.{OutputStanding}
use Rattle.s3_program.specs.Rows.{row_of}
use Rattle.s3_program.specs.Undefined.{is_undefined, is_undefined_entry, is_undefined_factor, is_used, is_target, row_has_undefined, calculation_undefined, content_undefined, output_undefined}
use Rattle.s3_program.specs.Operands.{factor_fits, result_fits, row_fits, is_bare, calculation_unfit}
use Rattle.s3_program.specs.Places.{is_cut_by}
use Rattle.s3_program.specs.Standings.{first_input, behind_input, first_calculation, behind_calculation, first_output, behind_output}
use Rattle.s3_program.specs.Matching.{Marks, marks_of}
use Rattle.s3_program.specs.Inner.Conditions.{is_clear, inputs_clear, calculations_clear, outputs_clear, are_clear}
use Rattle.s3_program.specs.Conditions.{verb_of, input_holds, calculation_holds, output_holds, forbidden_among}
use Rattle.s3_program.specs.Inner.Meant.{Meant, is_defined, factor_passes, entry_passes, input_passes, calculation_passes, content_passes, output_passes, are_defined}
use Rattle.s3_program.specs.Tables.{meaning_of, or_undefined}
use Rattle.s3_program.specs.Inner.Translation.{tables_in, known_lines}
use Rattle.s3_program.proofs.GivenLemmas.{found_in_both}
use Rattle.s3_program.proofs.SoundLemmas.{both}
use Rattle.s3_diagnose.specs.Known.{Meanings, meant_input}
use Rattle.s3_diagnose.specs.Lookups.{input_given, result_given, fields_given, tables_given, meanings_of}
use Rattle.s3_compile.proofs.Labelling.{is_off}

-- ---- names that are used
meaning_defined : (meaning : Meaning) → is_undefined meaning ≡ false → is_defined meaning ≡ true
meaning_defined a.Undefined h = cc
meaning_defined (a.File file) h = refl
meaning_defined (a.Field field) h = refl
meaning_defined (a.Tag tag) h = refl
meaning_defined (a.Subroutine subroutine) h = refl

factor_defined : (used : Operand) (factor : Option (Factor Meaning)) → (is_used used && is_undefined_factor factor) ≡ false → factor_fits used factor ≡ true
    → factor_passes is_defined factor ≡ true
factor_defined used None known fits = refl
factor_defined used (Some (Number literal)) known fits = refl
factor_defined used (Some (Text literal)) known fits = refl
factor_defined operand.Nothing (Some (Named meaning)) known fits = cc
factor_defined operand.Number (Some (Named meaning)) known fits = meaning_defined meaning known
factor_defined operand.Text (Some (Named meaning)) known fits = meaning_defined meaning known
factor_defined operand.Value (Some (Named meaning)) known fits = meaning_defined meaning known
factor_defined operand.Tag (Some (Named meaning)) known fits = meaning_defined meaning known
factor_defined operand.Subroutine (Some (Named meaning)) known fits = meaning_defined meaning known
factor_defined operand.ChainedFile (Some (Named meaning)) known fits = meaning_defined meaning known

result_defined : (used : Target) (result : Option Meaning) → (is_target used && is_undefined_entry result) ≡ false → result_fits used result ≡ true → entry_passes is_defined result ≡ true
result_defined used None known fits = refl
result_defined target.Nothing (Some meaning) known fits = cc
result_defined target.Number (Some meaning) known fits = meaning_defined meaning known
result_defined target.Text (Some meaning) known fits = meaning_defined meaning known
result_defined target.Any (Some meaning) known fits = meaning_defined meaning known

-- ---- a calculation line
abbrev AllDefined : CalculationLine Meaning → Type 0
AllDefined line = (factor_passes is_defined line.factor1 && factor_passes is_defined line.factor2 && entry_passes is_defined line.result) ≡ true

by_row : (row : Row) (line : CalculationLine Meaning) → row_has_undefined row line ≡ false → not (row_fits row line) ≡ false → AllDefined line
by_row row line known unfit =
    let pair = or_parts _ _ known in
    let factors = or_parts _ _ pair.0 in
    let six = and_parts _ _ (not-false _ unfit) in
    let five = and_parts _ _ six.0 in
    let four = and_parts _ _ five.0 in
    let three = and_parts _ _ four.0 in
    let two = and_parts _ _ three.0 in
    let one = and_parts _ _ two.0 in
    both _ _ (both _ _ (factor_defined row.factor1 line.factor1 factors.0 one.0) (factor_defined row.factor2 line.factor2 factors.1 one.1))
    (result_defined row.result line.result pair.1 two.1)

none_factor : (factor : Option (Factor Meaning)) → is_none factor ≡ true → factor_passes is_defined factor ≡ true
none_factor None h = refl
none_factor (Some factor) h = cc

none_entry : (entry : Option Meaning) → is_none entry ≡ true → entry_passes is_defined entry ≡ true
none_entry None h = refl
none_entry (Some meaning) h = cc

when_bare : (line : CalculationLine Meaning) → is_bare line ≡ true → AllDefined line
when_bare line bare =
    let five = and_parts _ _ bare in
    let four = and_parts _ _ five.0 in
    let three = and_parts _ _ four.0 in
    let two = and_parts _ _ three.0 in
    let one = and_parts _ _ two.0 in
    both _ _ (both _ _ (none_factor line.factor1 one.0) (none_factor line.factor2 one.1)) (none_entry line.result two.1)

-- the line with another operation
abbrev with_operation : Option Operation → CalculationLine Meaning → CalculationLine Meaning
with_operation operation line = record {
  time = line.time;
  conditions = line.conditions;
  factor1 = line.factor1;
  operation = operation;
  factor2 = line.factor2;
  result = line.result;
  definition = line.definition;
  half_adjust = line.half_adjust;
  indicators = line.indicators;
}

by_operation : (is_cut : Bool) (operation : Option Operation) (line : CalculationLine Meaning) → calculation_undefined (with_operation operation line) ≡ false
    → calculation_unfit is_cut (with_operation operation line) ≡ false → AllDefined line
by_operation is_cut None line known fits = when_bare line (not-false _ (or_parts is_cut _ fits).1)
by_operation is_cut (Some op.Unknown) line known fits = cc
by_operation is_cut (Some op.Add) line known fits = by_row (row_of op.Add) line known fits
by_operation is_cut (Some op.Subtract) line known fits = by_row (row_of op.Subtract) line known fits
by_operation is_cut (Some op.Multiply) line known fits = by_row (row_of op.Multiply) line known fits
by_operation is_cut (Some op.Divide) line known fits = by_row (row_of op.Divide) line known fits
by_operation is_cut (Some op.ZeroAdd) line known fits = by_row (row_of op.ZeroAdd) line known fits
by_operation is_cut (Some op.ZeroSubtract) line known fits = by_row (row_of op.ZeroSubtract) line known fits
by_operation is_cut (Some op.MoveRemainder) line known fits = by_row (row_of op.MoveRemainder) line known fits
by_operation is_cut (Some op.Compare) line known fits = by_row (row_of op.Compare) line known fits
by_operation is_cut (Some op.Move) line known fits = by_row (row_of op.Move) line known fits
by_operation is_cut (Some op.MoveLeft) line known fits = by_row (row_of op.MoveLeft) line known fits
by_operation is_cut (Some op.SetOn) line known fits = by_row (row_of op.SetOn) line known fits
by_operation is_cut (Some op.SetOff) line known fits = by_row (row_of op.SetOff) line known fits
by_operation is_cut (Some op.GoTo) line known fits = by_row (row_of op.GoTo) line known fits
by_operation is_cut (Some op.Tag) line known fits = by_row (row_of op.Tag) line known fits
by_operation is_cut (Some op.ExecuteSubroutine) line known fits = by_row (row_of op.ExecuteSubroutine) line known fits
by_operation is_cut (Some op.BeginSubroutine) line known fits = by_row (row_of op.BeginSubroutine) line known fits
by_operation is_cut (Some op.EndSubroutine) line known fits = by_row (row_of op.EndSubroutine) line known fits
by_operation is_cut (Some op.Except) line known fits = by_row (row_of op.Except) line known fits
by_operation is_cut (Some op.Chain) line known fits = by_row (row_of op.Chain) line known fits

calculations_defined : (forbidden : Call → Bool) (at : CalculationStanding) (lines : List (CalculationLine Meaning)) → calculations_clear forbidden at lines ≡ true
    → list_all (calculation_passes (λ kind meaning. is_defined meaning)) lines ≡ true
calculations_defined forbidden at [] clear = refl
calculations_defined forbidden at (line ∷ lines) clear =
    let later = map verb_of lines in
    let holds : ℕ → Bool = calculation_holds forbidden at later line in
    let parts = and_parts (is_clear holds) (calculations_clear forbidden (behind_calculation at line) lines) clear in
    let off = is_off holds parts.0 in
    both _ _ (by_operation (is_cut_by later) line.operation line off.undefined off.unfit)
    (calculations_defined forbidden (behind_calculation at line) lines parts.1)

-- ---- Input specifications: fields of records are defined by their own lines
abbrev pub is_known_field : (is_known : Name → Bool) → InputLine Name → Bool
is_known_field is_known (Record file indicator codes) = true
is_known_field is_known (AndCodes codes) = true
is_known_field is_known (OrCodes indicator codes) = true
is_known_field is_known (FieldOfRecord field) = is_known field.name

abbrev pub is_defined_field : InputLine Meaning → Bool
is_defined_field (Record file indicator codes) = true
is_defined_field (AndCodes codes) = true
is_defined_field (OrCodes indicator codes) = true
is_defined_field (FieldOfRecord field) = is_defined field.name

input_defined : (marks : Marks) (at : InputStanding) (line : InputLine Meaning) → is_clear (input_holds marks at line) ≡ true → is_defined_field line ≡ true
    → input_passes (λ kind meaning. is_defined meaning) line ≡ true
input_defined marks at (Record file indicator codes) clear field = meaning_defined file (is_off (input_holds marks at (Record file indicator codes)) clear).undefined
input_defined marks at (AndCodes codes) clear field = refl
input_defined marks at (OrCodes indicator codes) clear field = refl
input_defined marks at (FieldOfRecord line) clear field = field

inputs_defined : (marks : Marks) (at : InputStanding) (lines : List (InputLine Meaning)) → inputs_clear marks at lines ≡ true → list_all is_defined_field lines ≡ true
    → list_all (input_passes (λ kind meaning. is_defined meaning)) lines ≡ true
inputs_defined marks at [] clear fields = refl
inputs_defined marks at (line ∷ lines) clear fields =
    let parts = and_parts (is_clear (input_holds marks at line)) (inputs_clear marks (behind_input at line) lines) clear in
    let each = and_parts (is_defined_field line) (list_all is_defined_field lines) fields in
    both _ _ (input_defined marks at line parts.0 each.0) (inputs_defined marks (behind_input at line) lines parts.1 each.1)

-- ---- Output specifications
file_defined : (file before : Option Meaning) → is_undefined_entry (option_or file before) ≡ false → entry_passes is_defined file ≡ true
file_defined None before known = refl
file_defined (Some file) before known = meaning_defined file known

content_defined : (content : OutputContent Meaning) → content_undefined content ≡ false → content_passes (λ kind meaning. is_defined meaning) content ≡ true
content_defined (ConstantContent constant) known = refl
content_defined (FieldContent field) known = meaning_defined field.name known

output_defined : (at : OutputStanding) (line : OutputLine Meaning) → output_undefined at line ≡ false → output_passes (λ kind meaning. is_defined meaning) line ≡ true
output_defined at (LineCard card) known = file_defined card.file at.file known
output_defined at (AndCard conditions) known = refl
output_defined at (OrCard conditions) known = refl
output_defined at (FieldCard field) known = content_defined field.content known

outputs_defined : (at : OutputStanding) (lines : List (OutputLine Meaning)) → outputs_clear at lines ≡ true → list_all (output_passes (λ kind meaning. is_defined meaning)) lines ≡ true
outputs_defined at [] clear = refl
outputs_defined at (line ∷ lines) clear =
    let parts = and_parts (is_clear (output_holds at line)) (outputs_clear (behind_output at line) lines) clear in
    both _ _ (output_defined at line (is_off (output_holds at line) parts.0).undefined) (outputs_defined (behind_output at line) lines parts.1)

-- ---- all specifications
pub all_defined : (meant : Meant) → are_clear meant.files meant.inputs meant.calculations meant.outputs ≡ true → list_all is_defined_field meant.inputs ≡ true → are_defined meant ≡ true
unfolding are_clear are_defined
all_defined meant clear fields =
    let four = and_parts _ _ clear in
    let three = and_parts _ _ four.0 in
    let two = and_parts _ _ three.0 in
    both _ _ (both _ _ (inputs_defined (marks_of meant.inputs) first_input meant.inputs two.1 fields) (calculations_defined (forbidden_among meant.calculations) first_calculation meant.calculations three.1))
    (outputs_defined first_output meant.outputs four.1)

-- ---- the definitions of lines are found
found_first : {X : Type 0} (o rest : Option X) → is_some o ≡ true → is_some (option_or o rest) ≡ true
found_first None rest there = cc
found_first (Some x) rest there = refl

found_second : {X : Type 0} (o rest : Option X) → is_some rest ≡ true → is_some (option_or o rest) ≡ true
found_second None rest there = there
found_second (Some x) rest there = refl

found_more : {X : Type 0} (b : Bool) (x : X) (rest : Option X) → is_some rest ≡ true → is_some (cond b (Some x) rest) ≡ true
found_more true x rest there = refl
found_more false x rest there = there

-- a test that all fields defined by input lines pass holds for each of them
fields_known : (is_known : Name → Bool) (lines : List (InputLine Name))
    → ((name : Name) → is_some (lookup (same_name name) (filter_map input_given lines)) ≡ true → is_known name ≡ true) → list_all (is_known_field is_known) lines ≡ true
fields_known is_known [] known = refl
fields_known is_known (Record file indicator codes ∷ lines) known = fields_known is_known lines known
fields_known is_known (AndCodes codes ∷ lines) known = fields_known is_known lines known
fields_known is_known (OrCodes indicator codes ∷ lines) known = fields_known is_known lines known
fields_known is_known (FieldOfRecord field ∷ lines) known =
    both _ _ (known field.name (rw (same_name-self field.name) refl))
    (fields_known is_known lines (λ name there. known name (found_more (same_name name field.name) _ (lookup (same_name name) (filter_map input_given lines)) there)))

found_field : (lines : List Line) (name : Name) → is_some (lookup (same_name name) (filter_map input_given (filter_map input_line lines))) ≡ true
    → is_defined (meanings_of lines kind.Field name) ≡ true
unfolding tables_given
found_field lines name there =
    let test = same_name name in
    let inputs = filter_map input_given (filter_map input_line lines) in
    let results = filter_map result_given (filter_map calculation_line lines) in
    let among = found_first (lookup test inputs) (lookup test results) there in
    let all = found_second (lookup test reserved_shapes) (lookup test (inputs ++ results)) (ap is_some (found_in_both test inputs results) ∙ among) in
    defined (lookup test (reserved_shapes ++ fields_given lines)) (ap is_some (found_in_both test reserved_shapes (inputs ++ results)) ∙ all)
  where
    defined : (o : Option Shape) → is_some o ≡ true → is_defined (or_undefined (λ (shape : Shape). a.Field (record { name = name; meaning = shape })) o) ≡ true
    defined None there = cc
    defined (Some shape) there = refl

meant_fields : (meanings : Meanings) (lines : List (InputLine Name)) → list_all (is_known_field (λ name. is_defined (meanings kind.Field name))) lines ≡ true
    → list_all is_defined_field (map (meant_input meanings) lines) ≡ true
meant_fields meanings [] known = refl
meant_fields meanings (Record file indicator codes ∷ lines) known = meant_fields meanings lines known
meant_fields meanings (AndCodes codes ∷ lines) known = meant_fields meanings lines known
meant_fields meanings (OrCodes indicator codes ∷ lines) known = meant_fields meanings lines known
meant_fields meanings (FieldOfRecord field ∷ lines) known =
    let parts = and_parts (is_defined (meanings kind.Field field.name)) (list_all (is_known_field (λ name. is_defined (meanings kind.Field name))) lines) known in
    both _ _ parts.0 (meant_fields meanings lines parts.1)

fields_defined : (lines : List Line) → list_all is_defined_field (map (meant_input (meanings_of lines)) (filter_map input_line lines)) ≡ true
fields_defined lines =
    meant_fields (meanings_of lines) (filter_map input_line lines)
    (fields_known (λ name. is_defined (meanings_of lines kind.Field name)) (filter_map input_line lines) (found_field lines))

-- if no condition holds for the lines, all their names are defined
pub defined_of_clear : (known : Definitions) (lines : List Line) → meaning_of (tables_in known) ≡ meanings_of lines
    → are_clear (filter_map file_line lines) (known_lines (tables_in known) lines).inputs (known_lines (tables_in known) lines).calculations (known_lines (tables_in known) lines).outputs ≡ true
    → are_defined (known_lines (tables_in known) lines) ≡ true
defined_of_clear known lines same clear =
    all_defined (known_lines (tables_in known) lines) clear
    (subst (λ (meanings : Meanings). list_all is_defined_field (map (meant_input meanings) (filter_map input_line lines)) ≡ true) (sym same) (fields_defined lines))
