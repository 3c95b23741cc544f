-- Diagnostic 11 as a condition on a whole source: match or control fields that disagree, and types with different sets of match fields.
-- It also covers a field that a type has twice or a chained file has. The nearest earlier record line gives the group of a line.
use Rattle.std.specs.Prelude.{ℕ, ◌==◌, nat_lt, Bool, true, false, not, ◌&&◌, ◌||◌, List, [], ◌∷◌, Option, Some, None, length, map, find, flat_map, filter_map, option_map, unwrap_or, if◌then◌else◌}
use Rattle.std.specs.Bool.{beq}
use Rattle.std.specs.List.{list_any}
use Rattle.std.specs.Map.{lookup}
use Rattle.std.specs.Cmp.Lexicographic.{pointwise}
use Rattle.s3_cards.specs.declared.name.Name.{Name}
use Rattle.s3_lines.specs.declared.indicator.Indicator.{Indicator}
use Rattle.s3_lines.specs.Indicators.{same_indicator}
use Rattle.s3_lines.specs.declared.sheet.FieldLine.{FieldLine}
use Rattle.s3_lines.specs.declared.sheet.InputLine.{InputLine}
use Rattle.s3_lines.specs.declared.sheet.InputLine.TheVariants.{Record, And as AndCodes, Or as OrCodes, Field as FieldOfRecord}
use Rattle.s3_lines.specs.declared.sheet.Shape.{Shape}
use Rattle.s3_lines.specs.declared.sheet.SheetLine.{SheetLine}
use Rattle.s3_lines.specs.declared.sheet.SheetLine.TheVariants as sheet
use Rattle.s3_lines.specs.declared.sheet.Line.{Line}
use Rattle.s3_meaning.specs.Source.{input_line}
use Rattle.s3_program.specs.declared.program.Kind.TheVariants.{File}
use Rattle.s3_program.specs.declared.program.Meaning.{Meaning}
use Rattle.s3_program.specs.declared.program.Meaning.TheVariants.{Undefined}
use Rattle.s3_program.specs.declared.mark.Key.TheVariants as key
use Rattle.s3_program.specs.declared.mark.Level.{Level}
use Rattle.s3_program.specs.declared.mark.TypeKey.{TypeKey}
use Rattle.s3_program.specs.Redefined.{shape_of_field}
use Rattle.s3_program.specs.Matching.{same_level, same_type, level, levels_of, shapes_on, match_numbers, has_any, disagrees, is_chained_meant}
use Rattle.s3_diagnose.specs.Known.{Meanings}
use Rattle.s3_diagnose.specs.Lookups.{meanings_of}
use Rattle.s3_diagnose.specs.Inner.Whole.{Spot, StandsOnThose}
use Rattle.s3_diagnose.specs.Inner.Misplaced.{follows_record}

-- ---- each Input line with the Input lines before it, nearest first
abbrev pub PlacedInput : Type 0
PlacedInput = InputLine Name × List (InputLine Name)

abbrev pub inputs_from : (above lines : List (InputLine Name)) → List PlacedInput
inputs_from above [] = []
inputs_from above (line ∷ below) = (line, above) ∷ inputs_from (line ∷ above) below

-- ---- the nearest earlier record line: its place, which identifies the group, and its file
abbrev pub group_above : List (InputLine Name) → Option ℕ
group_above [] = None
group_above (Record file indicator codes ∷ above) = Some (length above)
group_above (AndCodes codes ∷ above) = group_above above
group_above (OrCodes indicator codes ∷ above) = group_above above
group_above (FieldOfRecord field ∷ above) = group_above above

abbrev pub file_above : Meanings → List (InputLine Name) → Meaning
file_above meanings [] = Undefined
file_above meanings (Record file indicator codes ∷ above) = meanings File file
file_above meanings (AndCodes codes ∷ above) = file_above meanings above
file_above meanings (OrCodes indicator codes ∷ above) = file_above meanings above
file_above meanings (FieldOfRecord field ∷ above) = file_above meanings above

-- ---- the types, by group and indicator: a record line begins one, and so does an OR line that continues it
abbrev pub type_key : Indicator → (group : ℕ) → TypeKey
type_key indicator group = record { group = group; indicator = indicator }

abbrev pub type_of : PlacedInput → Option TypeKey
type_of placed = on placed.0
  where
    on : InputLine Name → Option TypeKey
    on (Record file indicator codes) = Some (type_key indicator (length placed.1))
    on (OrCodes indicator codes) = if follows_record placed.1 then option_map (type_key indicator) (group_above placed.1) else None
    on _ = None

abbrev pub types_of : List PlacedInput → List TypeKey
types_of all = filter_map type_of all

-- ---- fields with a match level (Mn) or control level (Ln)
abbrev pub has_level : Level → FieldLine Name → Bool
has_level level field = list_any (same_level level) (levels_of field)

abbrev pub is_in : (group : ℕ) → Option ℕ → Bool
is_in group None = false
is_in group (Some other) = group == other

-- a field belongs to all types of its group, or with a field record relation only to the types with that indicator
abbrev pub is_of : Indicator → (relation : Option Indicator) → Bool
is_of indicator None = true
is_of indicator (Some relation) = same_indicator indicator relation

abbrev pub gives : Level → TypeKey → PlacedInput → Bool
gives level kind placed = on placed.0
  where
    on : InputLine Name → Bool
    on (FieldOfRecord field) = is_in kind.group (group_above placed.1) && (is_of kind.indicator field.relation && has_level level field)
    on _ = false

-- ---- the set of match fields of a type: those of M1 to M9 that it has
abbrev pub set_of : List PlacedInput → TypeKey → List Bool
set_of all kind = map (λ number. list_any (gives (level key.Match number) kind) all) match_numbers

abbrev pub empty_set : List Bool
empty_set = map (λ number. false) match_numbers

-- the set of the first type with match fields, which all such types must have
abbrev pub first_set : List PlacedInput → List Bool
first_set all = unwrap_or (find has_any (map (set_of all) (types_of all))) empty_set

abbrev pub has_other_set : List PlacedInput → TypeKey → Bool
has_other_set all kind = has_any (set_of all kind) && not (pointwise beq (set_of all kind) (first_set all))

-- ---- the same Mn or Ln twice in a type
-- a field counts in some type of its group, unless no type of the group has the indicator of its relation
abbrev pub counts : List TypeKey → (group : ℕ) → (relation : Option Indicator) → Bool
counts types group None = true
counts types group (Some indicator) = list_any (same_type (type_key indicator group)) types

-- two fields that count are in a common type, unless their relations have different indicators
abbrev pub meet : (relation other : Option Indicator) → Bool
meet None other = true
meet (Some indicator) other = is_of indicator other

-- another field of the group with this level that is in a common type
abbrev pub is_rival : List TypeKey → (group : ℕ) → (relation : Option Indicator) → Level → PlacedInput → Bool
is_rival types group relation level other = on other.0
  where
    on : InputLine Name → Bool
    on (FieldOfRecord field) =
        is_in group (group_above other.1) && (counts types group field.relation && (meet relation field.relation && has_level level field))
    on _ = false

-- an earlier field of the group has this level in a type in which a field with this relation counts too
abbrev pub is_given_above : List PlacedInput → (group : Option ℕ) → (place : ℕ) → (relation : Option Indicator) → Level → Bool
is_given_above all None place relation level = false
is_given_above all (Some group) place relation level =
    counts (types_of all) group relation
    && list_any (λ (other : PlacedInput). nat_lt (length other.1) place && is_rival (types_of all) group relation level other) all

-- ---- the kind and length of an Mn or Ln, from the first field that has it
abbrev pub first_shape : List (InputLine Name) → Level → Option Shape
first_shape lines level = lookup (same_level level) (flat_map shapes_on lines)

-- ---- the whole condition
abbrev pub is_bad_key : Meanings → (lines above : List (InputLine Name)) → FieldLine Name → Level → Bool
is_bad_key meanings lines above field level =
    is_chained_meant (file_above meanings above)
    || disagrees (first_shape lines level) (shape_of_field field)
    || is_given_above (inputs_from [] lines) (group_above above) (length above) field.relation level

abbrev pub is_unlike_type : List PlacedInput → Option TypeKey → Bool
is_unlike_type all None = false
is_unlike_type all (Some kind) = has_other_set all kind

abbrev pub is_mismatched : Meanings → (lines above : List (InputLine Name)) → InputLine Name → Bool
is_mismatched meanings lines above (FieldOfRecord field) = list_any (is_bad_key meanings lines above field) (levels_of field)
is_mismatched meanings lines above line = is_unlike_type (inputs_from [] lines) (type_of (line, above))

abbrev pub is_mismatched_in : List Line → Spot → Bool
is_mismatched_in lines spot = on spot.line.sheet
  where
    on : SheetLine → Bool
    on (sheet.Header name) = false
    on (sheet.File file) = false
    on (sheet.Input line) = is_mismatched (meanings_of lines) (filter_map input_line lines) (filter_map input_line spot.above) line
    on (sheet.Calculation line) = false
    on (sheet.Output line) = false

-- for any lines, exactly the lines of this condition get diagnostic 11
abbrev pub ElevenIsForMismatchedLines : Type 0
ElevenIsForMismatchedLines = StandsOnThose 11 is_mismatched_in
