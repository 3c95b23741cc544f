-- The invariant of every program: names in lines exist, have the right kind and are in range, and no name is defined twice.
use Rattle.std.specs.Prelude.{Bool, ◌&&◌, List, map, take, length}
use Rattle.std.specs.Cmp.Lexicographic.{pointwise}
use Rattle.std.specs.List.{list_all}
use Rattle.std.specs.Map.{keys_of}
use Rattle.s3_cards.specs.declared.name.Name.{Name}
use Rattle.s3_lines.specs.declared.sheet.FileLine.{FileLine}
use Rattle.s3_lines.specs.declared.sheet.InputLine.{InputLine}
use Rattle.s3_lines.specs.declared.sheet.CalculationLine.{CalculationLine}
use Rattle.s3_lines.specs.declared.sheet.OutputLine.{OutputLine}
use Rattle.s3_lines.specs.declared.sheet.Shape.{Shape}
use Rattle.s3_lines.specs.Ranges.{shape_in_range}
use Rattle.s3_cards.specs.Names.{same_name}
use Rattle.s3_meaning.specs.Source.{Source, source_from, shape_in, reserved_shapes}
use Rattle.s3_program.specs.declared.program.Reference.{Reference}
use Rattle.s3_program.specs.declared.program.Defined.{Defined}
use Rattle.s3_program.specs.declared.program.TagPlace.{TagPlace}
use Rattle.s3_program.specs.declared.program.SubroutinePlace.{SubroutinePlace}
use Rattle.s3_program.specs.declared.program.Meaning.{Meaning}
use Rattle.s3_program.specs.Tables.{Tables}
use Rattle.s3_program.specs.Inner.Tables.{name_of, meaning_at}
use Rattle.s3_program.specs.Lines.{map_input, map_calculation, map_output}
use Rattle.s3_program.specs.Shapes.{same_shape}
use Rattle.s3_program.specs.Inner.Meant.{Meant, are_of_kinds}
use Rattle.s3_program.specs.Inner.Positions.{are_in_range, are_within}
use Rattle.s3_program.specs.Inner.Labels.{labels_stand}
use Rattle.s3_program.specs.Inner.Conditions.{are_clear}
use Rattle.s3_program.specs.Inner.Distinct.{are_distinct}
use Rattle.s3_program.specs.FileEntries.{file_entry}

-- the lists of a program
pub record Parts : Type 0 where
  pub files : List FileLine
  pub fields : List (Defined Shape)
  pub tags : List (Defined TagPlace)
  pub subroutines : List (Defined SubroutinePlace)
  pub inputs : List (InputLine Reference)
  pub calculations : List (CalculationLine Reference)
  pub outputs : List (OutputLine Reference)

abbrev pub entry_of : {X : Type 0} → Defined X → Name × X
entry_of defined = (defined.name, defined.meaning)

abbrev pub defined_of : {X : Type 0} → Name × X → Defined X
defined_of entry = record { name = entry.0; meaning = entry.1 }

abbrev pub tables_of : Parts → Tables
tables_of parts = record {
  files = map file_entry parts.files;
  fields = map entry_of parts.fields;
  tags = map entry_of parts.tags;
  subroutines = map entry_of parts.subroutines;
}

-- ---- the source: each slot replaced by its name
abbrev pub named_input : Tables → InputLine Reference → InputLine Name
named_input tables line = map_input (name_of tables) (name_of tables) line

abbrev pub named_calculation : Tables → CalculationLine Reference → CalculationLine Name
named_calculation tables line = map_calculation (name_of tables) (name_of tables) (name_of tables) line

abbrev pub named_output : Tables → OutputLine Reference → OutputLine Name
named_output tables line = map_output (name_of tables) (name_of tables) line

unfoldable pub named : Parts → Source
named parts =
    source_from parts.files (map (named_input (tables_of parts)) parts.inputs)
    (map (named_calculation (tables_of parts)) parts.calculations) (map (named_output (tables_of parts)) parts.outputs)

-- ---- validity
abbrev pub meant_input : Tables → InputLine Reference → InputLine Meaning
meant_input tables line = map_input (meaning_at tables) (meaning_at tables) line

abbrev pub meant_calculation : Tables → CalculationLine Reference → CalculationLine Meaning
meant_calculation tables line = map_calculation (meaning_at tables) (meaning_at tables) (meaning_at tables) line

abbrev pub meant_output : Tables → OutputLine Reference → OutputLine Meaning
meant_output tables line = map_output (meaning_at tables) (meaning_at tables) line

-- the lines with the meaning of each slot
abbrev pub meant : Parts → Meant
meant parts = record {
  files = parts.files;
  inputs = map (meant_input (tables_of parts)) parts.inputs;
  calculations = map (meant_calculation (tables_of parts)) parts.calculations;
  outputs = map (meant_output (tables_of parts)) parts.outputs;
}

-- each field has the shape that the source gives it
abbrev pub is_shaped : Source → Name × Shape → Bool
is_shaped source field = shape_in_range field.1 && same_shape (shape_in source.shapes field.0) field.1

abbrev pub are_shaped : Source → List (Name × Shape) → Bool
are_shaped source fields = list_all (is_shaped source) fields

-- the first fields are the reserved ones, in the order of every source
abbrev pub begin_reserved : List (Name × Shape) → Bool
begin_reserved fields = pointwise same_name (take (length reserved_shapes) (keys_of fields)) (keys_of reserved_shapes)

-- no name occurs twice in a table, fields have their shapes, and labels have their places
abbrev pub are_right : Source → Tables → List (CalculationLine Meaning) → Bool
are_right source tables calculations =
    are_distinct (keys_of tables.files)
    && are_distinct (keys_of tables.fields)
    && begin_reserved tables.fields
    && are_shaped source tables.fields
    && labels_stand tables.tags tables.subroutines calculations

-- slots have the kinds that their entries require, entries are in range, positions are within records, and no line has a diagnostic
abbrev pub are_sound : Meant → Bool
are_sound lines =
    are_of_kinds lines
    && are_in_range lines
    && are_within lines
    && are_clear lines.files lines.inputs lines.calculations lines.outputs

unfoldable pub is_valid : Parts → Bool
is_valid parts = are_right (named parts) (tables_of parts) (meant parts).calculations && are_sound (meant parts)
