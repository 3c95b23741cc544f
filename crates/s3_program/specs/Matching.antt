-- Diagnostic 11: match or control fields that disagree or are on a chained file, or an Mn or Ln given twice in one type.
use Rattle.std.specs.Prelude.{ℕ, ◌==◌, nat_lt, Bool, true, false, not, ◌&&◌, ◌||◌, List, [], ◌∷◌, ◌++◌, Option, Some, None, is_some, map, if◌then◌else◌, option_map}
use Rattle.std.specs.List.{list_any}
use Rattle.std.specs.Option.{option_to_list}
use Rattle.std.specs.Bool.{beq}
use Rattle.std.specs.Map.{lookup}
use Rattle.std.specs.Cmp.Lexicographic.{pointwise}
use Rattle.s3_lines.specs.declared.indicator.Indicator.{Indicator}
use Rattle.s3_lines.specs.Indicators.{same_indicator, indicator_number}
use Rattle.s3_lines.specs.declared.sheet.FieldLine.{FieldLine}
use Rattle.s3_lines.specs.declared.sheet.InputLine.{InputLine}
use Rattle.s3_lines.specs.declared.sheet.InputLine.TheVariants.{Record, Or as OrCodes, Field as FieldOfRecord}
use Rattle.s3_lines.specs.declared.sheet.Shape.{Shape}
use Rattle.s3_lines.specs.Files.{is_chained}
use Rattle.s3_program.specs.declared.program.Meaning.{Meaning}
use Rattle.s3_program.specs.declared.program.Meaning.TheVariants as a
use Rattle.s3_program.specs.declared.mark.Key.{Key}
use Rattle.s3_program.specs.declared.mark.Key.TheVariants as key
use Rattle.s3_program.specs.declared.mark.Level.{Level}
use Rattle.s3_program.specs.declared.mark.GroupMark.{GroupMark}
use Rattle.s3_program.specs.declared.mark.TypeMark.{TypeMark}
use Rattle.s3_program.specs.declared.mark.TypeKey.{TypeKey}
use Rattle.s3_program.specs.declared.standing.InputStanding.{InputStanding}
use Rattle.s3_program.specs.Shapes.{same_kind_and_length}
use Rattle.s3_program.specs.Redefined.{shape_of_field}
use Rattle.s3_program.specs.Standings.{first_input, behind_input}

-- ---- equal keys
abbrev pub same_key : Key → Key → Bool
same_key key.Control key.Control = true
same_key key.Match key.Match = true
same_key key.Control key.Match = false
same_key key.Match key.Control = false

abbrev pub same_level : Level → Level → Bool
same_level a b = same_key a.key b.key && a.number == b.number

abbrev pub same_group_mark : GroupMark → GroupMark → Bool
same_group_mark a b = a.group == b.group && same_level a.level b.level

abbrev pub same_type : TypeKey → TypeKey → Bool
same_type a b = a.group == b.group && same_indicator a.indicator b.indicator

abbrev pub same_type_mark : TypeMark → TypeMark → Bool
same_type_mark a b = a.group == b.group && a.indicator == b.indicator && same_level a.level b.level

-- ---- the types: of record lines, and of the OR lines that continue them
abbrev pub type_of_or : InputStanding → Indicator → Option TypeKey
type_of_or at indicator = on at.group
  where
    on : Option ℕ → Option TypeKey
    on None = None
    on (Some group) = if at.is_open then Some (record { group = group; indicator = indicator }) else None

abbrev pub type_on : {N : Type 0} → InputStanding → InputLine N → Option TypeKey
type_on at (Record file indicator codes) = Some (record { group = at.place; indicator = indicator })
type_on at (OrCodes indicator codes) = type_of_or at indicator
type_on at _ = None

abbrev pub with_type : Option TypeKey → List TypeKey → List TypeKey
with_type None kinds = kinds
with_type (Some kind) kinds = kind ∷ kinds

abbrev pub types_from : InputStanding → List (InputLine Meaning) → List TypeKey
types_from at [] = []
types_from at (line ∷ lines) = with_type (type_on at line) (types_from (behind_input at line) lines)

-- ---- the match and control fields of a group
abbrev pub level : Key → ℕ → Level
level key number = record { key = key; number = number }

abbrev pub levels_of : {N : Type 0} → FieldLine N → List Level
levels_of field =
    option_to_list (option_map (level key.Control) field.control_level) ++ option_to_list (option_map (level key.Match) field.match_level)

abbrev pub has_type : (TypeKey → Bool) → Option ℕ → Indicator → Bool
has_type is_type None indicator = false
has_type is_type (Some group) indicator = is_type (record { group = group; indicator = indicator })

abbrev pub group_mark : (group : ℕ) → Level → GroupMark
group_mark group level = record { group = group; level = level }

abbrev pub type_mark : (group : ℕ) → Indicator → Level → TypeMark
type_mark group indicator level = record { group = group; indicator = indicator_number indicator; level = level }

-- A field without a relation belongs to all types of its group. A field with one belongs only to the types with that indicator, if the
-- group has any.
abbrev pub counts_in_some : (Indicator → Bool) → Option Indicator → Bool
counts_in_some is_type None = true
counts_in_some is_type (Some indicator) = is_type indicator

abbrev pub marks_in_all : Option ℕ → (place : ℕ) → Option Indicator → List Level → List (GroupMark × ℕ)
marks_in_all (Some group) place None levels = map (λ level. (group_mark group level, place)) levels
marks_in_all _ place _ levels = []

abbrev pub marks_in_some : (Indicator → Bool) → Option ℕ → (place : ℕ) → Option Indicator → List Level → List (GroupMark × ℕ)
marks_in_some is_type None place relation levels = []
marks_in_some is_type (Some group) place relation levels =
    if counts_in_some is_type relation then map (λ level. (group_mark group level, place)) levels else []

abbrev pub marks_in_type : Option ℕ → (place : ℕ) → Option Indicator → List Level → List (TypeMark × ℕ)
marks_in_type (Some group) place (Some indicator) levels = map (λ level. (type_mark group indicator level, place)) levels
marks_in_type _ place _ levels = []

abbrev pub all_marks_from : InputStanding → List (InputLine Meaning) → List (GroupMark × ℕ)
all_marks_from at [] = []
all_marks_from at (FieldOfRecord field ∷ lines) =
    marks_in_all at.group at.place field.relation (levels_of field) ++ all_marks_from (behind_input at (FieldOfRecord field)) lines
all_marks_from at (line ∷ lines) = all_marks_from (behind_input at line) lines

abbrev pub some_marks_from : (TypeKey → Bool) → InputStanding → List (InputLine Meaning) → List (GroupMark × ℕ)
some_marks_from is_type at [] = []
some_marks_from is_type at (FieldOfRecord field ∷ lines) =
    marks_in_some (has_type is_type at.group) at.group at.place field.relation (levels_of field)
    ++ some_marks_from is_type (behind_input at (FieldOfRecord field)) lines
some_marks_from is_type at (line ∷ lines) = some_marks_from is_type (behind_input at line) lines

abbrev pub type_marks_from : InputStanding → List (InputLine Meaning) → List (TypeMark × ℕ)
type_marks_from at [] = []
type_marks_from at (FieldOfRecord field ∷ lines) =
    marks_in_type at.group at.place field.relation (levels_of field) ++ type_marks_from (behind_input at (FieldOfRecord field)) lines
type_marks_from at (line ∷ lines) = type_marks_from (behind_input at line) lines

-- ---- the kind and length of each Mn and Ln
abbrev pub shapes_on : {N : Type 0} → InputLine N → List (Level × Shape)
shapes_on (FieldOfRecord field) = map (λ level. (level, shape_of_field field)) (levels_of field)
shapes_on _ = []

abbrev pub shapes_from : List (InputLine Meaning) → List (Level × Shape)
shapes_from [] = []
shapes_from (line ∷ lines) = shapes_on line ++ shapes_from lines

-- ---- the marks of the whole source
pub record Marks : Type 0 where
  -- whether a group has a type with this indicator
  pub is_type : TypeKey → Bool
  -- the places of the first field with an Mn or Ln in a group: among fields of all types, of some type, and of the types with an indicator
  pub in_all : GroupMark → Option ℕ
  pub in_some : GroupMark → Option ℕ
  pub in_type : TypeMark → Option ℕ
  -- the shape of the first field with an Mn or Ln
  pub shape : Level → Option Shape
  -- which of M1 to M9 the first type with match fields has
  pub matched : List Bool

-- whether a type has this match level
abbrev pub is_matched_by : (in_all : GroupMark → Option ℕ) → (in_type : TypeMark → Option ℕ) → TypeKey → ℕ → Bool
is_matched_by in_all in_type kind number =
    is_some (in_all (group_mark kind.group (level key.Match number)))
    || is_some (in_type (type_mark kind.group kind.indicator (level key.Match number)))

abbrev pub match_numbers : List ℕ
match_numbers = 1 ∷ 2 ∷ 3 ∷ 4 ∷ 5 ∷ 6 ∷ 7 ∷ 8 ∷ 9 ∷ []

-- which of M1 to M9 a type has
abbrev pub matched_by : (in_all : GroupMark → Option ℕ) → (in_type : TypeMark → Option ℕ) → TypeKey → List Bool
matched_by in_all in_type kind = map (is_matched_by in_all in_type kind) match_numbers

abbrev pub has_any : List Bool → Bool
has_any matched = list_any (λ b. b) matched

-- which of M1 to M9 the first type with match fields has; none if no type has match fields
abbrev pub first_matched : (in_all : GroupMark → Option ℕ) → (in_type : TypeMark → Option ℕ) → List TypeKey → List Bool
first_matched in_all in_type [] = map (λ number. false) match_numbers
first_matched in_all in_type (kind ∷ kinds) =
    if has_any (matched_by in_all in_type kind) then matched_by in_all in_type kind else first_matched in_all in_type kinds

unfoldable pub is_type_of : List (InputLine Meaning) → TypeKey → Bool
is_type_of lines kind = list_any (same_type kind) (types_from first_input lines)

unfoldable pub in_all_of : List (InputLine Meaning) → GroupMark → Option ℕ
in_all_of lines mark = lookup (same_group_mark mark) (all_marks_from first_input lines)

unfoldable pub in_some_of : List (InputLine Meaning) → GroupMark → Option ℕ
in_some_of lines mark = lookup (same_group_mark mark) (some_marks_from (is_type_of lines) first_input lines)

unfoldable pub in_type_of : List (InputLine Meaning) → TypeMark → Option ℕ
in_type_of lines mark = lookup (same_type_mark mark) (type_marks_from first_input lines)

unfoldable pub level_shape_of : List (InputLine Meaning) → Level → Option Shape
level_shape_of lines level = lookup (same_level level) (shapes_from lines)

unfoldable pub marks_of : List (InputLine Meaning) → Marks
marks_of lines = record {
  is_type = is_type_of lines;
  in_all = in_all_of lines;
  in_some = in_some_of lines;
  in_type = in_type_of lines;
  shape = level_shape_of lines;
  matched = first_matched (in_all_of lines) (in_type_of lines) (types_from first_input lines);
}

-- ---- the condition
abbrev pub is_before : (place : ℕ) → Option ℕ → Bool
is_before place None = false
is_before place (Some first) = nat_lt first place

-- the type has match fields, but not the same levels as the first type with match fields
abbrev pub is_unlike : Marks → TypeKey → Bool
is_unlike marks kind =
    has_any (matched_by marks.in_all marks.in_type kind) && not (pointwise beq (matched_by marks.in_all marks.in_type kind) marks.matched)

-- an earlier field has this level in a type that this field belongs to
abbrev pub is_given_before : Marks → (group place : ℕ) → Option Indicator → Level → Bool
is_given_before marks group place None level = is_before place (marks.in_some (group_mark group level))
is_given_before marks group place (Some indicator) level =
    marks.is_type (record { group = group; indicator = indicator })
    && (is_before place (marks.in_all (group_mark group level)) || is_before place (marks.in_type (type_mark group indicator level)))

abbrev pub is_given_twice : Marks → InputStanding → Option Indicator → Level → Bool
is_given_twice marks at relation level = on at.group
  where
    on : Option ℕ → Bool
    on None = false
    on (Some group) = is_given_before marks group at.place relation level

abbrev pub disagrees : Option Shape → Shape → Bool
disagrees None shape = false
disagrees (Some first) shape = not (same_kind_and_length first shape)

abbrev pub is_chained_meant : Meaning → Bool
is_chained_meant (a.File file) = is_chained file.designation
is_chained_meant _ = false

abbrev pub level_mismatched : Marks → InputStanding → FieldLine Meaning → Level → Bool
level_mismatched marks at field level =
    is_chained_meant at.file || disagrees (marks.shape level) (shape_of_field field) || is_given_twice marks at field.relation level

abbrev pub entry_mismatched : Marks → InputStanding → FieldLine Meaning → Key → Option ℕ → Bool
entry_mismatched marks at field key None = false
entry_mismatched marks at field key (Some number) = level_mismatched marks at field (level key number)

abbrev pub type_unlike : Marks → Option TypeKey → Bool
type_unlike marks None = false
type_unlike marks (Some kind) = is_unlike marks kind

abbrev pub input_mismatched : Marks → InputStanding → InputLine Meaning → Bool
input_mismatched marks at (FieldOfRecord field) =
    entry_mismatched marks at field key.Control field.control_level || entry_mismatched marks at field key.Match field.match_level
input_mismatched marks at line = type_unlike marks (type_on at line)
