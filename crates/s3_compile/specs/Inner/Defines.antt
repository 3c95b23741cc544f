-- Tables of the definitions of a source's lines.
use Rattle.std.specs.Prelude.{◌≡◌, List, [], ◌++◌, filter_map, option_map}
use Rattle.s3_lines.specs.declared.sheet.CalculationLine.{CalculationLine}
use Rattle.s3_lines.specs.declared.sheet.InputLine.{InputLine}
use Rattle.s3_lines.specs.declared.sheet.Line.{Line}
use Rattle.s3_meaning.specs.Source.{reserved_shapes, input_line, calculation_line}
use Rattle.s3_program.specs.declared.definitions.Definitions.{Definitions}
use Rattle.s3_program.specs.declared.program.Meaning.{Meaning}
use Rattle.s3_program.specs.Inner.Given.{firsts, files_given}
use Rattle.s3_program.specs.Standings.{first_calculation}
use Rattle.s3_program.specs.Tables.{meaning_of}
use Rattle.s3_program.specs.Inner.Translation.{tables_in}
use Rattle.s3_diagnose.specs.declared.tables.KnownTables.{KnownTables}
use Rattle.s3_diagnose.specs.Known.{meant_input, meant_calculation}
use Rattle.s3_diagnose.specs.Lookups.{fields_given, tags_from, subroutines_from}

-- each name has its first definition; the reserved fields come first
pub record Defines (known : Definitions) (lines : List Line) : Type 0 where
  pub files : known.files.entries ≡ firsts (files_given lines)
  pub fields : known.fields.entries ≡ firsts (reserved_shapes ++ fields_given lines)
  pub tags : known.tags.entries ≡ firsts (tags_from first_calculation (filter_map calculation_line lines))
  pub subroutines : known.subroutines.entries ≡ firsts (subroutines_from first_calculation (filter_map calculation_line lines))

-- the Input and Calculation specifications, with the meanings that these tables give their names
abbrev pub inputs_known : Definitions → List Line → List (InputLine Meaning)
inputs_known known lines = filter_map (λ line. option_map (meant_input (meaning_of (tables_in known))) (input_line line)) lines

abbrev pub calculations_known : Definitions → List Line → List (CalculationLine Meaning)
calculations_known known lines = filter_map (λ line. option_map (meant_calculation (meaning_of (tables_in known))) (calculation_line line)) lines

-- empty tables
pub record AreEmpty (known : KnownTables) : Type 0 where
  pub files : known.definitions.files.entries ≡ []
  pub fields : known.definitions.fields.entries ≡ []
  pub tags : known.definitions.tags.entries ≡ []
  pub subroutines : known.definitions.subroutines.entries ≡ []
  pub file_places : known.file_places.entries ≡ []
  pub types : known.marks.types.keys ≡ []
  pub in_all : known.marks.in_all.entries ≡ []
  pub in_some : known.marks.in_some.entries ≡ []
  pub in_type : known.marks.in_type.entries ≡ []
  pub shapes : known.marks.shapes.entries ≡ []
  pub forbidden : known.forbidden.keys ≡ []
