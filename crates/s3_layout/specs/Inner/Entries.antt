-- Which types of records a file has, and which lines of the I sheet have the fields of those that are meant.
use Rattle.std.specs.Prelude.{Bool, true, false, ◌&&◌, ◌||◌, List, [], ◌∷◌, ◌++◌, Option, Some, None, Result, Ok, Err, if◌then◌else◌}
use Rattle.std.specs.List.{list_any}
use Rattle.s3_cards.specs.Names.{same_name}
use Rattle.s3_cards.specs.declared.name.Name.{Name}
use Rattle.s3_lines.specs.Indicators.{same_indicator}
use Rattle.s3_lines.specs.declared.indicator.Indicator.{Indicator}
use Rattle.s3_lines.specs.declared.sheet.FieldLine.{FieldLine}
use Rattle.s3_lines.specs.declared.sheet.InputLine.{InputLine}
use Rattle.s3_lines.specs.declared.sheet.InputLine.TheVariants.{Record, Or, Field}
use Rattle.s3_lines.specs.declared.sheet.Line.{Line}
use Rattle.s3_lines.specs.declared.sheet.SheetLine.{SheetLine}
use Rattle.s3_lines.specs.declared.sheet.SheetLine.TheVariants.{Input}
use Rattle.s3_layout.specs.declared.entries.Place.{Place}
use Rattle.s3_layout.specs.declared.fault.LayoutFault.{LayoutFault}
use Rattle.s3_layout.specs.declared.fault.LayoutFault.TheVariants.{SeveralTypes, OtherType}

-- the type of an indicator is the one that is meant, or none is
abbrev pub is_meant : Option Indicator → Indicator → Bool
is_meant (Some named) indicator = same_indicator named indicator
is_meant None indicator = true

-- in front of all lines
abbrev pub first : Place
first = record { in_file = false; is_meant = false }

-- a record line begins the lines of its file's records; an OR line adds a type to those of the lines above it
abbrev pub behind_input : Name → Option Indicator → Place → InputLine Name → Place
behind_input file record_type place (Record name indicator codes) =
    record { in_file = same_name name file; is_meant = same_name name file && is_meant record_type indicator }
behind_input file record_type place (Or indicator codes) =
    record { in_file = place.in_file; is_meant = place.is_meant || (place.in_file && is_meant record_type indicator) }
behind_input file record_type place _ = place

abbrev pub behind : Name → Option Indicator → Place → Line → Place
behind file record_type place line = on line.sheet
  where
    on : SheetLine → Place
    on (Input input) = behind_input file record_type place input
    on _ = place

-- 63 and 64 are blank or name the type that is meant: a field of another type never counts in its records
abbrev pub is_taken : Option Indicator → FieldLine Name → Bool
is_taken record_type entry = related record_type entry.relation
  where
    related : Option Indicator → Option Indicator → Bool
    related (Some named) (Some relation) = same_indicator named relation
    related _ _ = true

-- the field on a line of this place, if the line has a field of the layout
abbrev pub taken : Option Indicator → Place → Line → List (FieldLine Name)
taken record_type place line = on line.sheet
  where
    on_input : InputLine Name → List (FieldLine Name)
    on_input (Field entry) = if place.is_meant && is_taken record_type entry then entry ∷ [] else []
    on_input _ = []

    on : SheetLine → List (FieldLine Name)
    on (Input input) = on_input input
    on _ = []

-- the lines of the fields that are taken
abbrev pub entries_from : Name → Option Indicator → Place → List Line → List (FieldLine Name)
entries_from file record_type place [] = []
entries_from file record_type place (line ∷ lines) =
    taken record_type (behind file record_type place line) line ++ entries_from file record_type (behind file record_type place line) lines

-- the type of the file that begins on a line of this place
abbrev pub begun : Place → Line → List Indicator
begun place line = on line.sheet
  where
    in_place : Indicator → List Indicator
    in_place indicator = if place.in_file then indicator ∷ [] else []

    on_input : InputLine Name → List Indicator
    on_input (Record name indicator codes) = in_place indicator
    on_input (Or indicator codes) = in_place indicator
    on_input _ = []

    on : SheetLine → List Indicator
    on (Input input) = on_input input
    on _ = []

-- the types of records of the file
abbrev pub types_from : Name → Place → List Line → List Indicator
types_from file place [] = []
types_from file place (line ∷ lines) = begun (behind file None place line) line ++ types_from file (behind file None place line) lines

-- the type that is meant: the one that is named, which has to be there, or the only one
abbrev pub chosen_type : Option Indicator → List Indicator → Result (Option Indicator) LayoutFault
chosen_type (Some named) types = if list_any (same_indicator named) types then Ok (Some named) else Err OtherType
chosen_type None [] = Ok None
chosen_type None (one ∷ []) = Ok (Some one)
chosen_type None (one ∷ other ∷ more) = Err SeveralTypes

-- the type that is named is there; none may be named
abbrev pub has_named : Option Indicator → List Indicator → Bool
has_named (Some named) types = list_any (same_indicator named) types
has_named None types = true
