-- Tables that keep the first entry of each key.
use Rattle.std.specs.Prelude.{◌≡◌, ℕ, ◌+◌, Bool, ◌||◌, List, [], ◌∷◌, Option, Some, None}
use Rattle.std.specs.Option.{option_or, option_to_list}
use Rattle.std.specs.Map.{lookup}
use Rattle.std.specs.List.{list_any}
use Rattle.indexmap.specs.IndexMap.{IndexMap, get}
use Rattle.indexmap.specs.IndexSet.{IndexSet, contains}
use Rattle.s3_cards.specs.declared.name.Name.{Name}
use Rattle.s3_lines.specs.declared.sheet.CalculationLine.{CalculationLine}
use Rattle.s3_lines.specs.declared.sheet.FileLine.{FileLine}
use Rattle.s3_lines.specs.declared.sheet.Shape.{Shape}
use Rattle.s3_lines.specs.declared.sheet.Line.{Line}
use Rattle.s3_meaning.specs.Source.{file_line, input_line, calculation_line}
use Rattle.s3_program.specs.declared.program.TagPlace.{TagPlace}
use Rattle.s3_program.specs.declared.program.SubroutinePlace.{SubroutinePlace}
use Rattle.s3_program.specs.declared.standing.CalculationStanding.{CalculationStanding}
use Rattle.s3_program.specs.Standings.{behind_calculation}
use Rattle.s3_diagnose.specs.Lookups.{input_given, result_given, tag_given, subroutine_given}
use Rattle.s3_lines.specs.declared.sheet.InputLine.{InputLine}
use Rattle.s3_lines.specs.declared.sheet.InputLine.TheVariants.{Field as FieldOfRecord}
use Rattle.s3_program.specs.declared.program.Meaning.{Meaning}
use Rattle.s3_program.specs.declared.mark.GroupMark.{GroupMark}
use Rattle.s3_program.specs.declared.mark.TypeMark.{TypeMark}
use Rattle.s3_program.specs.declared.mark.TypeKey.{TypeKey}
use Rattle.s3_program.specs.declared.standing.InputStanding.{InputStanding}
use Rattle.s3_program.specs.Matching.{levels_of, has_type, marks_in_all, marks_in_some, marks_in_type}

-- a look-up finds the first of these entries with the key
pub record Finds {K X S : Type 0} (same : K → K → Bool) (table : IndexMap K X S) (entries : List (K × X)) : Type 0 where
  pub at : (key : K) → get same table key ≡ lookup (same key) entries

-- a look-up finds what the old table has, or else the first of these entries with the key
pub record FindsMore {K X S : Type 0} (same : K → K → Bool) (old new : IndexMap K X S) (entries : List (K × X)) : Type 0 where
  pub at : (key : K) → get same new key ≡ option_or (get same old key) (lookup (same key) entries)

-- the set has exactly these keys
pub record Has {K S : Type 0} (same : K → K → Bool) (set : IndexSet K S) (keys : List K) : Type 0 where
  pub at : (key : K) → contains same set key ≡ list_any (same key) keys

-- the set has the old set's keys and these
pub record HasMore {K S : Type 0} (same : K → K → Bool) (old new : IndexSet K S) (keys : List K) : Type 0 where
  pub at : (key : K) → contains same new key ≡ contains same old key || list_any (same key) keys

-- the marks that a line adds
abbrev pub all_on : InputStanding → InputLine Meaning → List (GroupMark × ℕ)
all_on at (FieldOfRecord field) = marks_in_all at.group at.place field.relation (levels_of field)
all_on at _ = []

abbrev pub some_on : (TypeKey → Bool) → InputStanding → InputLine Meaning → List (GroupMark × ℕ)
some_on is_type at (FieldOfRecord field) = marks_in_some (has_type is_type at.group) at.group at.place field.relation (levels_of field)
some_on is_type at _ = []

abbrev pub in_type_on : InputStanding → InputLine Meaning → List (TypeMark × ℕ)
in_type_on at (FieldOfRecord field) = marks_in_type at.group at.place field.relation (levels_of field)
in_type_on at _ = []

-- ---- the tags and subroutines of a line, and the place of the next calculation line
abbrev pub tags_of : CalculationStanding → Option (CalculationLine Name) → List (Name × TagPlace)
tags_of at None = []
tags_of at (Some line) = option_to_list (tag_given at line)

abbrev pub tag_on : CalculationStanding → Line → List (Name × TagPlace)
tag_on at line = tags_of at (calculation_line line)

abbrev pub subroutines_of : CalculationStanding → Option (CalculationLine Name) → List (Name × SubroutinePlace)
subroutines_of at None = []
subroutines_of at (Some line) = option_to_list (subroutine_given at line)

abbrev pub subroutine_on : CalculationStanding → Line → List (Name × SubroutinePlace)
subroutine_on at line = subroutines_of at (calculation_line line)

abbrev pub behind_given : CalculationStanding → Option (CalculationLine Name) → CalculationStanding
behind_given at None = at
behind_given at (Some line) = behind_calculation at line

abbrev pub calculation_behind : CalculationStanding → Line → CalculationStanding
calculation_behind at line = behind_given at (calculation_line line)

-- ---- the files of a line, and the place of the next file
abbrev pub places_of : (place : ℕ) → Option FileLine → List (Name × ℕ)
places_of place None = []
places_of place (Some file) = (file.name, place) ∷ []

abbrev pub place_on : (place : ℕ) → Line → List (Name × ℕ)
place_on place line = places_of place (file_line line)

abbrev pub place_after : (place : ℕ) → Option FileLine → ℕ
place_after place None = place
place_after place (Some file) = place + 1

abbrev pub place_behind : (place : ℕ) → Line → ℕ
place_behind place line = place_after place (file_line line)

-- ---- the fields of a line
abbrev pub fields_of : Option (InputLine Name) → List (Name × Shape)
fields_of None = []
fields_of (Some line) = option_to_list (input_given line)

abbrev pub field_on : Line → List (Name × Shape)
field_on line = fields_of (input_line line)

abbrev pub results_of : Option (CalculationLine Name) → List (Name × Shape)
results_of None = []
results_of (Some line) = option_to_list (result_given line)

abbrev pub result_on : Line → List (Name × Shape)
result_on line = results_of (calculation_line line)
