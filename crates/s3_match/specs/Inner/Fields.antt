-- The match and control fields of record types, on the input lines of a program.
use Rattle.std.specs.Prelude.{ℕ, ◌==◌, Bool, true, false, not, ◌||◌, ◌&&◌, List, [], ◌∷◌, Option, Some, None, is_some, find, if◌then◌else◌}
use Rattle.std.specs.Option.{option_and_then, option_or}
use Rattle.std.specs.List.{list_any}
use Rattle.s3_cards.specs.declared.name.Name.{Name}
use Rattle.s3_lines.specs.declared.indicator.Indicator.{Indicator}
use Rattle.s3_lines.specs.declared.sheet.FieldLine.{FieldLine}
use Rattle.s3_lines.specs.declared.sheet.InputLine.{InputLine}
use Rattle.s3_lines.specs.declared.sheet.InputLine.TheVariants.{Record, And as AndCodes, Or as OrCodes, Field as InputField}
use Rattle.s3_lines.specs.Indicators.{is_indicator}
use Rattle.s3_meaning.specs.Source.{own_fields}
use Rattle.s3_program.specs.declared.mark.Key.{Key}
use Rattle.s3_program.specs.declared.mark.Key.TheVariants as key
use Rattle.s3_program.specs.declared.program.Program.{Program}
use Rattle.s3_program.specs.declared.program.Reference.{Reference}
use Rattle.s3_program.specs.declared.starts.TypeStart.{TypeStart}
use Rattle.s3_program.specs.Lines.{map_field}
use Rattle.s3_program.specs.Inner.Starts.{is_type}
use Rattle.s3_program.specs.Inner.Tables.{name_of}
use Rattle.s3_match.specs.Inner.Types.{tables_in, kind_at}

abbrev pub named_field : Program → FieldLine Reference → FieldLine Name
named_field program field = map_field (name_of (tables_in program)) field

abbrev pub is_own : Indicator → Option Indicator → Bool
is_own indicator relation = not (is_some relation) || is_indicator indicator relation

-- whether a field's level is the wanted one; without a wanted level, any level counts
abbrev pub has_level : Option ℕ → Option ℕ → Bool
has_level level None = false
has_level None (Some n) = true
has_level (Some m) (Some n) = m == n

abbrev pub level_of : {N : Type 0} → Key → FieldLine N → Option ℕ
level_of key.Control field = field.control_level
level_of key.Match field = field.match_level

abbrev pub field_on : Indicator → Key → Option ℕ → InputLine Reference → Option (FieldLine Reference)
field_on indicator key level (Record file other codes) = None
field_on indicator key level (AndCodes codes) = None
field_on indicator key level (OrCodes other codes) = None
field_on indicator key level (InputField field) = if is_own indicator field.relation && has_level level (level_of key field) then Some field else None

abbrev pub begins_group : InputLine Reference → Bool
begins_group (Record file indicator codes) = true
begins_group (AndCodes codes) = false
begins_group (OrCodes indicator codes) = false
begins_group (InputField field) = false

unfoldable pub first_field : Indicator → Key → Option ℕ → List (InputLine Reference) → Option (FieldLine Reference)
first_field indicator key level [] = None
first_field indicator key level (line ∷ lines) =
    if begins_group line then None else option_or (field_on indicator key level line) (first_field indicator key level lines)

abbrev pub indicator_on : InputLine Reference → Option Indicator
indicator_on (Record file indicator codes) = Some indicator
indicator_on (AndCodes codes) = None
indicator_on (OrCodes indicator codes) = Some indicator
indicator_on (InputField field) = None

-- the match or control field of the type that starts at the first of these lines
abbrev pub field_of_type : Key → Option ℕ → List (InputLine Reference) → Option (FieldLine Reference)
field_of_type key level [] = None
field_of_type key level (line ∷ lines) = option_and_then (λ indicator. first_field indicator key level lines) (indicator_on line)

-- ---- whether any type has a match or control field
abbrev pub names_level : Key → InputLine Reference → Bool
names_level key (Record file indicator codes) = false
names_level key (AndCodes codes) = false
names_level key (OrCodes indicator codes) = false
names_level key (InputField field) = is_some (level_of key field)

-- a line after the start of the first record type has such a field
unfoldable pub some_type_names_level : Key → List (InputLine Reference) → Bool
some_type_names_level key [] = false
some_type_names_level key (line ∷ lines) = if is_type line then list_any (names_level key) lines else some_type_names_level key lines

-- ---- the same by the list of the type's own fields
abbrev pub field_at : Program → TypeStart → Key → Option ℕ → Option (FieldLine Name)
field_at program start key level = find (λ field. has_level level (level_of key field)) (own_fields (kind_at program start))
