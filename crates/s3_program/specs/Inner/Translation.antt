-- Translation replaces names in lines by slots; its facts about lines without diagnostics.
use Rattle.std.specs.Prelude.{◌≡◌, true, List, Option, map, filter_map}
use Rattle.s3_cards.specs.declared.name.Name.{Name}
use Rattle.s3_lines.specs.declared.sheet.FileLine.{FileLine}
use Rattle.s3_lines.specs.declared.sheet.InputLine.{InputLine}
use Rattle.s3_lines.specs.declared.sheet.CalculationLine.{CalculationLine}
use Rattle.s3_lines.specs.declared.sheet.OutputLine.{OutputLine}
use Rattle.s3_lines.specs.declared.sheet.Line.{Line}
use Rattle.s3_meaning.specs.Source.{source_of, file_line, input_line, calculation_line, output_line, program_name}
use Rattle.s3_program.specs.declared.definitions.Definitions.{Definitions}
use Rattle.s3_program.specs.declared.program.Kind.TheVariants as kind
use Rattle.s3_program.specs.declared.program.Reference.{Reference}
use Rattle.s3_program.specs.declared.program.Meaning.{Meaning}
use Rattle.s3_program.specs.declared.program.Program.{Program}
use Rattle.s3_program.specs.Tables.{Tables, meaning_of}
use Rattle.s3_program.specs.Inner.Tables.{reference}
use Rattle.s3_program.specs.Lines.{map_input, map_calculation, map_output}
use Rattle.s3_lines.specs.Inner.Ranges.{are_read}
use Rattle.s3_program.specs.Inner.Meant.{Meant, are_defined}
use Rattle.s3_program.specs.Kinds.{first_kind, second_kind}
use Rattle.s3_program.specs.Inner.Conditions.{are_clear}
use Rattle.s3_program.specs.FileEntries.{file_entry}
use Rattle.s3_program.specs.Inner.Valid.{are_right}
use Rattle.s3_program.specs.Inner.Stands.{Stands}

abbrev pub tables_in : Definitions → Tables
tables_in known = record {
  files = known.files.entries;
  fields = known.fields.entries;
  tags = known.tags.entries;
  subroutines = known.subroutines.entries;
}

-- ---- files are unchanged
unfoldable pub file_on : Line → Option FileLine
file_on line = file_line line

-- ---- lines with slots
abbrev pub slotted_input : Tables → InputLine Name → InputLine Reference
slotted_input tables line = map_input (reference tables kind.File) (reference tables kind.Field) line

abbrev pub slotted_calculation : Tables → CalculationLine Name → CalculationLine Reference
slotted_calculation tables line =
    map_calculation (reference tables (first_kind line.operation)) (reference tables (second_kind line.operation)) (reference tables kind.Field) line

abbrev pub slotted_output : Tables → OutputLine Name → OutputLine Reference
slotted_output tables line = map_output (reference tables kind.File) (reference tables kind.Field) line

-- ---- lines with meanings
abbrev pub known_input : Tables → InputLine Name → InputLine Meaning
known_input tables line = map_input (meaning_of tables kind.File) (meaning_of tables kind.Field) line

abbrev pub known_calculation : Tables → CalculationLine Name → CalculationLine Meaning
known_calculation tables line =
    map_calculation (meaning_of tables (first_kind line.operation)) (meaning_of tables (second_kind line.operation)) (meaning_of tables kind.Field) line

abbrev pub known_output : Tables → OutputLine Name → OutputLine Meaning
known_output tables line = map_output (meaning_of tables kind.File) (meaning_of tables kind.Field) line

-- the lines of a source with the meaning of each name
abbrev pub known_lines : Tables → List Line → Meant
known_lines tables lines = record {
  files = filter_map file_line lines;
  inputs = map (known_input tables) (filter_map input_line lines);
  calculations = map (known_calculation tables) (filter_map calculation_line lines);
  outputs = map (known_output tables) (filter_map output_line lines);
}

-- ---- lines without diagnostics
pub record IsAccepted (known : Definitions) (lines : List Line) : Type 0 where
  -- the files of the File Description specifications
  pub files : known.files.entries ≡ map file_entry (filter_map file_line lines)
  -- no name occurs twice, fields have their first definitions, and tags and subroutines have their places
  pub right : are_right (source_of lines) (tables_in known) (known_lines (tables_in known) lines).calculations ≡ true
  -- all names are defined
  pub defined : are_defined (known_lines (tables_in known) lines) ≡ true
  -- the cards have no errors of their own
  pub read : are_read lines ≡ true
  -- the lines have no diagnostics
  pub clear : are_clear (filter_map file_line lines) (known_lines (tables_in known) lines).inputs (known_lines (tables_in known) lines).calculations (known_lines (tables_in known) lines).outputs ≡ true

-- the program is a correct compilation of the lines, and has their program name
pub record StandsFor (program : Program) (lines : List Line) : Type 0 where
  pub meaning : Stands program (source_of lines)
  pub name : program.name ≡ program_name lines
