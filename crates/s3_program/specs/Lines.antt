-- Mapping the names of a line: to slots or to meanings, entry by entry.
use Rattle.std.specs.Prelude.{option_map}
use Rattle.s3_lines.specs.declared.sheet.FieldLine.{FieldLine}
use Rattle.s3_lines.specs.declared.sheet.InputLine.{InputLine}
use Rattle.s3_lines.specs.declared.sheet.InputLine.TheVariants.{Record, And, Or, Field}
use Rattle.s3_lines.specs.declared.sheet.Factor.{Factor}
use Rattle.s3_lines.specs.declared.sheet.Factor.TheVariants.{Named, Number, Text}
use Rattle.s3_lines.specs.declared.sheet.CalculationLine.{CalculationLine}
use Rattle.s3_lines.specs.declared.sheet.OutputCard.{OutputCard}
use Rattle.s3_lines.specs.declared.sheet.FieldOutput.{FieldOutput}
use Rattle.s3_lines.specs.declared.sheet.OutputContent.{OutputContent}
use Rattle.s3_lines.specs.declared.sheet.OutputContent.TheVariants.{Constant as ConstantContent, Field as FieldContent}
use Rattle.s3_lines.specs.declared.sheet.OutputField.{OutputField}
use Rattle.s3_lines.specs.declared.sheet.OutputLine.{OutputLine}
use Rattle.s3_lines.specs.declared.sheet.OutputLine.TheVariants.{Line as LineCard, And as AndCard, Or as OrCard, Field as FieldCard}

-- ---- Input specifications: files and fields are named
abbrev pub map_field : {A B : Type 0} → (A → B) → FieldLine A → FieldLine B
map_field f line = record {
  name = f line.name;
  from = line.from;
  to = line.to;
  form = line.form;
  control_level = line.control_level;
  match_level = line.match_level;
  relation = line.relation;
  indicators = line.indicators;
}

abbrev pub map_input : {A B : Type 0} → (file field : A → B) → InputLine A → InputLine B
map_input file field (Record name indicator codes) = Record (file name) indicator codes
map_input file field (And codes) = And codes
map_input file field (Or indicator codes) = Or indicator codes
map_input file field (Field line) = Field (map_field field line)

-- ---- Calculation specifications: the kind of a factor's name depends on the operation
abbrev pub map_factor : {A B : Type 0} → (A → B) → Factor A → Factor B
map_factor f (Named name) = Named (f name)
map_factor f (Number literal) = Number literal
map_factor f (Text literal) = Text literal

abbrev pub map_calculation : {A B : Type 0} → (first second result : A → B) → CalculationLine A → CalculationLine B
map_calculation first second result line = record {
  time = line.time;
  conditions = line.conditions;
  factor1 = option_map (map_factor first) line.factor1;
  operation = line.operation;
  factor2 = option_map (map_factor second) line.factor2;
  result = option_map result line.result;
  definition = line.definition;
  half_adjust = line.half_adjust;
  indicators = line.indicators;
}

-- ---- Output specifications: files and fields are named
abbrev pub map_card : {A B : Type 0} → (A → B) → OutputCard A → OutputCard B
map_card f card = record {
  file = option_map f card.file;
  kind = card.kind;
  is_addition = card.is_addition;
  spacing = card.spacing;
  conditions = card.conditions;
}

abbrev pub map_field_output : {A B : Type 0} → (A → B) → FieldOutput A → FieldOutput B
map_field_output f field = record { name = f field.name; form = field.form; blank_after = field.blank_after }

abbrev pub map_content : {A B : Type 0} → (A → B) → OutputContent A → OutputContent B
map_content f (ConstantContent constant) = ConstantContent constant
map_content f (FieldContent field) = FieldContent (map_field_output f field)

abbrev pub map_output_field : {A B : Type 0} → (A → B) → OutputField A → OutputField B
map_output_field f field = record { conditions = field.conditions; content = map_content f field.content; «end» = field.end }

abbrev pub map_output : {A B : Type 0} → (file field : A → B) → OutputLine A → OutputLine B
map_output file field (LineCard card) = LineCard (map_card file card)
map_output file field (AndCard conditions) = AndCard conditions
map_output file field (OrCard conditions) = OrCard conditions
map_output file field (FieldCard line) = FieldCard (map_output_field field line)
