-- Record types from the Input specifications: each with all its codes, and the fields of its group.
use Rattle.std.specs.Prelude.{List, [], ◌∷◌, ◌++◌, Option}
use Rattle.s3_cards.specs.declared.name.Name.{Name}
use Rattle.s3_lines.specs.declared.indicator.Indicator.{Indicator}
use Rattle.s3_lines.specs.declared.sheet.RecordCode.{RecordCode}
use Rattle.s3_lines.specs.declared.sheet.FieldLine.{FieldLine}
use Rattle.s3_lines.specs.declared.sheet.InputLine.{InputLine}
use Rattle.s3_lines.specs.declared.sheet.InputLine.TheVariants.{Record, And, Or, Field}
use Rattle.s3_meaning.specs.Names.{entries}
use Rattle.s3_cards.specs.Names.{no_name}

pub record RecordType : Type 0 where
  pub file : Name
  pub indicator : Indicator
  pub codes : List RecordCode
  pub fields : List (FieldLine Name)

-- the codes of the AND lines that follow
abbrev pub further_codes : List (InputLine Name) → List RecordCode
further_codes (And codes ∷ lines) = entries codes ++ further_codes lines
further_codes _ = []

-- the fields up to the next record line
abbrev pub group_fields : List (InputLine Name) → List (FieldLine Name)
group_fields [] = []
group_fields (Record file indicator codes ∷ lines) = []
group_fields (And codes ∷ lines) = group_fields lines
group_fields (Or indicator codes ∷ lines) = group_fields lines
group_fields (Field field ∷ lines) = field ∷ group_fields lines

-- a record type from its line and the lines after it
abbrev pub type_from : Name → Indicator → List (Option RecordCode) → List (InputLine Name) → RecordType
type_from file indicator codes lines =
    record { file = file; indicator = indicator; codes = entries codes ++ further_codes lines; fields = group_fields lines }

-- the record types of these lines; an OR line adds a type of the same file
abbrev pub types_from : Name → List (InputLine Name) → List RecordType
types_from file [] = []
types_from file (Record next indicator codes ∷ lines) = type_from next indicator codes lines ∷ types_from next lines
types_from file (And codes ∷ lines) = types_from file lines
types_from file (Or indicator codes ∷ lines) = type_from file indicator codes lines ∷ types_from file lines
types_from file (Field field ∷ lines) = types_from file lines

abbrev pub types_of : List (InputLine Name) → List RecordType
types_of lines = types_from no_name lines
