-- What a layout has of a source.
use Rattle.std.specs.Prelude.{◌≡◌, ◌≢◌, true, List, [], Ok, Option, Vec, filter_map}
use Rattle.std.specs.declared.alloc.Global.{Global}
use Rattle.s3_cards.specs.declared.name.Name.{Name}
use Rattle.s3_lines.specs.declared.indicator.Indicator.{Indicator}
use Rattle.s3_lines.specs.declared.sheet.FileLine.{FileLine}
use Rattle.s3_lines.specs.declared.sheet.Line.{Line}
use Rattle.s3_meaning.specs.RecordTypes.{types_of}
use Rattle.s3_meaning.specs.Source.{input_line}
use Rattle.s3_layout.specs.Inner.Columns.{AreFieldsOf}
use Rattle.s3_layout.specs.Inner.Entries.{chosen_type, entries_from, first, has_named, types_from}
use Rattle.s3_layout.specs.Inner.Files.{chosen_file}
use Rattle.s3_layout.specs.Inner.Kinds.{AreChosen, kinds_in}
use Rattle.s3_layout.specs.declared.choosing.Choice.{Choice}
use Rattle.s3_layout.specs.declared.reading.SourceLayout.{SourceLayout}

-- the layout of the file and the type of records that are chosen, by the lines of a source: it has fields, each with a name of its own
pub record IsLayoutOf (choice : Choice) (lines : List Line) (found : SourceLayout) : Type 0 where
  pub file : FileLine
  pub is_chosen : chosen_file choice.file lines ≡ Ok file
  pub record_type : Option Indicator
  pub has_type : chosen_type choice.record_type (types_from file.name first lines) ≡ Ok record_type
  pub record_length : found.layout.record_length ≡ file.record_length
  pub fields : AreFieldsOf file.record_length (entries_from file.name record_type first lines) found.layout.fields.items
  pub has_fields : found.layout.fields.items ≢ []
  pub key : found.key ≡ file.key
  pub records : AreChosen choice.record_type (kinds_in file.name (types_of (filter_map input_line lines))) found.records

-- the whole records of the file that is chosen, of the type that is named, or of all types
pub record IsWholeOf (choice : Choice) (lines : List Line) (found : SourceLayout) : Type 0 where
  pub file : FileLine
  pub is_chosen : chosen_file choice.file lines ≡ Ok file
  pub has_type : has_named choice.record_type (types_from file.name first lines) ≡ true
  pub record_length : found.layout.record_length ≡ file.record_length
  pub fields : found.layout.fields.items ≡ []
  pub key : found.key ≡ file.key
  pub records : AreChosen choice.record_type (kinds_in file.name (types_of (filter_map input_line lines))) found.records

-- the types of the records of the file that is chosen
pub record AreTypesOf (name : Option Name) (lines : List Line) (types : Vec Indicator Global) : Type 0 where
  pub file : FileLine
  pub is_chosen : chosen_file name lines ≡ Ok file
  pub are_types : types.items ≡ types_from file.name first lines
