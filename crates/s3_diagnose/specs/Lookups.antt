-- The definitions of a source: look-up functions over all its lines, in which the first definition of a name counts.
use Rattle.std.specs.Prelude.{ℕ, Bool, List, [], ◌∷◌, ◌++◌, Option, Some, None, map, filter_map}
use Rattle.s3_cards.specs.declared.name.Name.{Name}
use Rattle.s3_lines.specs.declared.sheet.InputLine.{InputLine}
use Rattle.s3_lines.specs.declared.sheet.InputLine.TheVariants.{Field as FieldOfRecord}
use Rattle.s3_lines.specs.declared.sheet.Shape.{Shape}
use Rattle.s3_lines.specs.declared.sheet.Factor.{Factor}
use Rattle.s3_lines.specs.declared.sheet.Factor.TheVariants.{Named}
use Rattle.s3_lines.specs.declared.sheet.Operation.{Operation}
use Rattle.s3_lines.specs.declared.sheet.Operation.TheVariants.{Tag, BeginSubroutine}
use Rattle.s3_lines.specs.declared.sheet.CalculationLine.{CalculationLine}
use Rattle.s3_lines.specs.declared.sheet.Line.{Line}
use Rattle.s3_meaning.specs.Source.{reserved_shapes, file_line, input_line, calculation_line}
use Rattle.s3_program.specs.declared.program.TagPlace.{TagPlace}
use Rattle.s3_program.specs.declared.program.SubroutinePlace.{SubroutinePlace}
use Rattle.s3_program.specs.declared.call.Call.{Call}
use Rattle.s3_program.specs.declared.standing.CalculationStanding.{CalculationStanding}
use Rattle.s3_program.specs.FileEntries.{file_entry}
use Rattle.s3_program.specs.Tables.{Tables, meaning_of}
use Rattle.s3_program.specs.Standings.{time_on, section_on, first_calculation, behind_calculation}
use Rattle.s3_program.specs.Redefined.{shape_of_field}
use Rattle.s3_program.specs.Matching.{Marks, marks_of}
use Rattle.s3_program.specs.Conditions.{first_file_of, forbidden_among}
use Rattle.s3_diagnose.specs.Known.{Meanings, meant_input, meant_calculation}

-- ---- fields: input fields, and results of operations with a length
abbrev pub input_given : InputLine Name → Option (Name × Shape)
input_given (FieldOfRecord field) = Some (field.name, shape_of_field field)
input_given _ = None

abbrev pub result_given : CalculationLine Name → Option (Name × Shape)
result_given line = on line.operation line.result line.definition
  where
    on : Option Operation → Option Name → Option Shape → Option (Name × Shape)
    on (Some operation) (Some name) (Some shape) = Some (name, shape)
    on _ _ _ = None

abbrev pub fields_given : List Line → List (Name × Shape)
fields_given lines = filter_map input_given (filter_map input_line lines) ++ filter_map result_given (filter_map calculation_line lines)

-- ---- tags and subroutines, with their places among the calculation lines
abbrev pub name_given : Option (Factor Name) → Option Name
name_given (Some (Named name)) = Some name
name_given _ = None

abbrev pub tag_given : CalculationStanding → CalculationLine Name → Option (Name × TagPlace)
tag_given at line = on line.operation (name_given line.factor1)
  where
    on : Option Operation → Option Name → Option (Name × TagPlace)
    on (Some Tag) (Some name) =
        Some (name, record { place = at.place; section = section_on at (time_on at.group line.time) line.operation })
    on _ _ = None

abbrev pub subroutine_given : CalculationStanding → CalculationLine Name → Option (Name × SubroutinePlace)
subroutine_given at line = on line.operation (name_given line.factor1)
  where
    on : Option Operation → Option Name → Option (Name × SubroutinePlace)
    on (Some BeginSubroutine) (Some name) = Some (name, record { place = at.place })
    on _ _ = None

abbrev pub with_entry : {X : Type 0} → Option X → List X → List X
with_entry None xs = xs
with_entry (Some x) xs = x ∷ xs

abbrev pub tags_from : CalculationStanding → List (CalculationLine Name) → List (Name × TagPlace)
tags_from at [] = []
tags_from at (line ∷ lines) = with_entry (tag_given at line) (tags_from (behind_calculation at line) lines)

abbrev pub subroutines_from : CalculationStanding → List (CalculationLine Name) → List (Name × SubroutinePlace)
subroutines_from at [] = []
subroutines_from at (line ∷ lines) = with_entry (subroutine_given at line) (subroutines_from (behind_calculation at line) lines)

-- ---- all definitions
unfoldable pub tables_given : List Line → Tables
tables_given lines = record {
  files = map file_entry (filter_map file_line lines);
  fields = reserved_shapes ++ fields_given lines;
  tags = tags_from first_calculation (filter_map calculation_line lines);
  subroutines = subroutines_from first_calculation (filter_map calculation_line lines);
}

-- what conditions look up in the whole source
pub record Known : Type 0 where
  pub meanings : Meanings
  -- the place of the first file of a name
  pub first_file : Name → Option ℕ
  -- the match fields and control fields
  pub marks : Marks
  -- whether a call is forbidden
  pub forbidden : Call → Bool

abbrev pub meanings_of : List Line → Meanings
meanings_of lines = meaning_of (tables_given lines)

abbrev pub known_of : List Line → Known
known_of lines = record {
  meanings = meanings_of lines;
  first_file = first_file_of (filter_map file_line lines);
  marks = marks_of (map (meant_input (meanings_of lines)) (filter_map input_line lines));
  forbidden = forbidden_among (map (meant_calculation (meanings_of lines)) (filter_map calculation_line lines));
}
