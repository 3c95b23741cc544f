-- A source: the specifications of all its sheets.
use Rattle.std.specs.Prelude.{ℕ, ◌+◌, ◌-◌, Bool, true, false, not, ◌||◌, List, [], ◌∷◌, ◌++◌, Option, Some, None, is_some, unwrap_or, filter, filter_map, find, if◌then◌else◌}
use Rattle.std.specs.Option.{option_or, option_and_then}
use Rattle.std.specs.List.{list_any}
use Rattle.s3_cards.specs.declared.name.Name.{Name}
use Rattle.s3_lines.specs.declared.indicator.Indicator.{Indicator}
use Rattle.s3_lines.specs.declared.sheet.FileUse.{FileUse}
use Rattle.s3_lines.specs.declared.sheet.FileUse.TheVariants.{Output as OutputUse, Input as InputUse, Update}
use Rattle.s3_lines.specs.declared.sheet.Designation.TheVariants.{Primary, Secondary, Chained}
use Rattle.s3_lines.specs.declared.sheet.FileLine.{FileLine}
use Rattle.s3_lines.specs.declared.sheet.FieldForm.{FieldForm}
use Rattle.s3_lines.specs.declared.sheet.FieldLine.{FieldLine}
use Rattle.s3_lines.specs.declared.sheet.Shape.{Shape}
use Rattle.s3_lines.specs.declared.sheet.Shape.TheVariants.{Alphanumeric, Numeric}
use Rattle.s3_lines.specs.declared.sheet.InputLine.{InputLine}
use Rattle.s3_lines.specs.declared.sheet.InputLine.TheVariants.{Field}
use Rattle.s3_lines.specs.declared.sheet.CalculationLine.{CalculationLine}
use Rattle.s3_lines.specs.declared.sheet.OutputLine.{OutputLine}
use Rattle.s3_lines.specs.declared.sheet.SheetLine.{SheetLine}
use Rattle.s3_lines.specs.declared.sheet.SheetLine.TheVariants.{Header, File, Input, Calculation as CalculationSheet, Output as OutputSheet}
use Rattle.s3_lines.specs.declared.sheet.Line.{Line}
pub use Rattle.s3_lines.specs.Files.{is_designated}
use Rattle.s3_lines.specs.Ranges.{shape_of_positions}
use Rattle.s3_meaning.specs.Names.{is_indicator, page, udate, umonth, uday, uyear, rpgobj}
use Rattle.s3_cards.specs.Names.{same_name}
use Rattle.s3_meaning.specs.RecordTypes.{RecordType, types_of}
use Rattle.s3_meaning.specs.Calculations.{Calculation, calculations_of, is_detail, is_total, begins, ends}
use Rattle.s3_meaning.specs.OutputLines.{Output, outputs_of}

pub record Source : Type 0 where
  pub files : List FileLine
  pub types : List RecordType
  pub calculations : List Calculation
  pub outputs : List Output
  -- each field with the shape that a line gives it, in order of the lines
  pub shapes : List (Name × Shape)

-- ---- the sheets
abbrev pub file_line : Line → Option FileLine
file_line line = on line.sheet
  where
    on : SheetLine → Option FileLine
    on (File file) = Some file
    on _ = None

abbrev pub input_line : Line → Option (InputLine Name)
input_line line = on line.sheet
  where
    on : SheetLine → Option (InputLine Name)
    on (Input input) = Some input
    on _ = None

abbrev pub calculation_line : Line → Option (CalculationLine Name)
calculation_line line = on line.sheet
  where
    on : SheetLine → Option (CalculationLine Name)
    on (CalculationSheet calculation) = Some calculation
    on _ = None

abbrev pub output_line : Line → Option (OutputLine Name)
output_line line = on line.sheet
  where
    on : SheetLine → Option (OutputLine Name)
    on (OutputSheet output) = Some output
    on _ = None

-- ---- the shapes of fields
abbrev pub width : FieldLine Name → ℕ
width field = field.to + 1 - field.from

-- the shape of a field with this form and width in a record
abbrev pub field_shape : FieldForm → ℕ → Shape
field_shape form bytes = shape_of_positions form bytes

abbrev pub input_shape : InputLine Name → Option (Name × Shape)
input_shape (Field field) = Some (field.name, field_shape field.form (width field))
input_shape _ = None

abbrev pub result_shape : CalculationLine Name → Option (Name × Shape)
result_shape line = on line.result line.definition
  where
    on : Option Name → Option Shape → Option (Name × Shape)
    on (Some name) (Some shape) = Some (name, shape)
    on _ _ = None

abbrev pub reserved_shapes : List (Name × Shape)
reserved_shapes = (page, Numeric 4 0) ∷ (udate, Numeric 6 0) ∷ (umonth, Numeric 2 0) ∷ (uday, Numeric 2 0) ∷ (uyear, Numeric 2 0) ∷ []

abbrev pub shape_in : List (Name × Shape) → Name → Shape
shape_in [] name = Alphanumeric 0
shape_in (shape ∷ shapes) name = if same_name name shape.0 then shape.1 else shape_in shapes name

-- a field has the shape of its first definition
abbrev pub shape_of : Source → Name → Shape
shape_of source name = shape_in source.shapes name

abbrev pub digits_of : Source → Name → ℕ
digits_of source name = on (shape_of source name)
  where
    on : Shape → ℕ
    on (Alphanumeric length) = 0
    on (Numeric digits decimals) = digits

abbrev pub decimals_of : Source → Name → ℕ
decimals_of source name = on (shape_of source name)
  where
    on : Shape → ℕ
    on (Alphanumeric length) = 0
    on (Numeric digits decimals) = decimals

abbrev pub length_of : Source → Name → ℕ
length_of source name = on (shape_of source name)
  where
    on : Shape → ℕ
    on (Alphanumeric length) = length
    on (Numeric digits decimals) = 0

abbrev pub is_numeric : Source → Name → Bool
is_numeric source name = on (shape_of source name)
  where
    on : Shape → Bool
    on (Alphanumeric length) = false
    on (Numeric digits decimals) = true

-- ---- the whole source
abbrev pub source_from : List FileLine → List (InputLine Name) → List (CalculationLine Name) → List (OutputLine Name) → Source
source_from files inputs calculations outputs = record {
  files = files;
  types = types_of inputs;
  calculations = calculations_of calculations;
  outputs = outputs_of outputs;
  shapes = reserved_shapes ++ filter_map input_shape inputs ++ filter_map result_shape calculations;
}

abbrev pub source_of : List Line → Source
source_of lines =
    source_from (filter_map file_line lines) (filter_map input_line lines) (filter_map calculation_line lines) (filter_map output_line lines)

-- the name in a Control specification (H)
abbrev pub header_name : Line → Option Name
header_name line = on line.sheet
  where
    on : SheetLine → Option Name
    on (Header name) = name
    on _ = None

-- the program's name: the name in the first Control specification that has one, else RPGOBJ
abbrev pub program_name : List Line → Name
program_name lines = unwrap_or (option_and_then header_name (find (λ line. is_some (header_name line)) lines)) rpgobj

abbrev pub detail_calculations : Source → List Calculation
detail_calculations source = filter is_detail source.calculations

abbrev pub total_calculations : Source → List Calculation
total_calculations source = filter is_total source.calculations

-- the lines before ENDSR
abbrev pub until_end : List Calculation → List Calculation
until_end [] = []
until_end (c ∷ cs) = if ends c then [] else c ∷ until_end cs

-- the lines of a subroutine
abbrev pub body_in : Name → List Calculation → List Calculation
body_in name [] = []
body_in name (c ∷ cs) = if begins name c then until_end cs else body_in name cs

abbrev pub body : Source → Name → List Calculation
body source name = body_in name source.calculations

-- ---- files
abbrev pub is_input : FileLine → Bool
is_input file = is_designated Primary file || is_designated Secondary file

-- whether a line without ADD updates a record of this file
abbrev pub is_updated : FileLine → Bool
is_updated file = on file.usage
  where
    on : FileUse → Bool
    on Update = true
    on OutputUse = is_designated Chained file
    on InputUse = false

abbrev pub file_named : Source → Name → Option FileLine
file_named source name = find (λ file. same_name file.name name) source.files

-- the overflow indicator of the print file
abbrev pub overflow_of : List FileLine → Option Indicator
overflow_of [] = None
overflow_of (file ∷ files) = option_or file.overflow (overflow_of files)

-- ---- record types
-- a field with a field record relation (63-64) belongs only to the type with that indicator
abbrev pub is_field_of : RecordType → FieldLine Name → Bool
is_field_of kind field = not (is_some field.relation) || is_indicator kind.indicator field.relation

abbrev pub own_fields : RecordType → List (FieldLine Name)
own_fields kind = filter (is_field_of kind) kind.fields

abbrev pub has_control_fields : RecordType → Bool
has_control_fields kind = list_any (λ field. is_some field.control_level) (own_fields kind)

-- whether a field of the program has a control level
abbrev pub has_levels : Source → Bool
has_levels source = list_any (λ kind. list_any (λ field. is_some field.control_level) kind.fields) source.types
