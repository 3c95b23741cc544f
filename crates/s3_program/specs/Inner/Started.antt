-- The record types and output lines that start at the places of the tables.
use Rattle.std.specs.Prelude.{List, [], ◌∷◌, ◌++◌, Option, Some, None, map, drop}
use Rattle.s3_lines.specs.declared.indicator.Indicator.{Indicator}
use Rattle.s3_lines.specs.declared.sheet.RecordCode.{RecordCode}
use Rattle.s3_lines.specs.declared.sheet.InputLine.{InputLine}
use Rattle.s3_lines.specs.declared.sheet.InputLine.TheVariants.{Record, And as AndCodes, Or as OrCodes, Field as InputField}
use Rattle.s3_lines.specs.declared.sheet.OutputLine.{OutputLine}
use Rattle.s3_lines.specs.declared.sheet.OutputLine.TheVariants.{Line as LineCard, And as AndCard, Or as OrCard, Field as FieldCard}
use Rattle.s3_meaning.specs.Names.{entries}
use Rattle.s3_meaning.specs.RecordTypes.{RecordType, further_codes, group_fields}
use Rattle.s3_meaning.specs.OutputLines.{Output, output_from}
use Rattle.s3_program.specs.declared.program.Reference.{Reference}
use Rattle.s3_program.specs.declared.starts.TypeStart.{TypeStart}
use Rattle.s3_program.specs.declared.starts.OutputStart.{OutputStart}
use Rattle.s3_program.specs.Tables.{Tables}
use Rattle.s3_program.specs.Inner.Tables.{name_in, name_of}
use Rattle.s3_program.specs.Lines.{map_card}
use Rattle.s3_program.specs.Inner.Valid.{named_input, named_output}

-- the record type that starts at a line, with its file, and its fields from their first line
abbrev pub type_on : Tables → List (InputLine Reference) → TypeStart → List (InputLine Reference) → Option RecordType
type_on tables inputs start [] = None
type_on tables inputs start (line ∷ lines) = on line
  where
    with_codes : Indicator → List (Option RecordCode) → Option RecordType
    with_codes indicator codes = Some (record {
      file = name_in tables.files start.file;
      indicator = indicator;
      codes = entries codes ++ further_codes (map (named_input tables) lines);
      fields = group_fields (map (named_input tables) (drop start.fields inputs));
    })

    on : InputLine Reference → Option RecordType
    on (Record file indicator codes) = with_codes indicator codes
    on (AndCodes codes) = None
    on (OrCodes indicator codes) = with_codes indicator codes
    on (InputField field) = None

abbrev pub type_at : Tables → List (InputLine Reference) → TypeStart → Option RecordType
type_at tables inputs start = type_on tables inputs start (drop start.place inputs)

-- the output line that starts at a card, with its file
abbrev pub output_on : Tables → OutputStart → List (OutputLine Reference) → Option Output
output_on tables start [] = None
output_on tables start (LineCard card ∷ lines) = Some (output_from (name_in tables.files start.file) (map_card (name_of tables) card) (map (named_output tables) lines))
output_on tables start (AndCard conditions ∷ lines) = None
output_on tables start (OrCard conditions ∷ lines) = None
output_on tables start (FieldCard field ∷ lines) = None

abbrev pub output_at : Tables → List (OutputLine Reference) → OutputStart → Option Output
output_at tables outputs start = output_on tables start (drop start.place outputs)
