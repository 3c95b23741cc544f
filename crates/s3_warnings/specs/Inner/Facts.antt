-- What all lines of a source say: which indicators they set and test, and the shape of each field.
use Rattle.std.specs.Prelude.{Bool, false, List, ◌++◌, Option, Some, None, filter_map}
use Rattle.std.specs.List.{list_any}
use Rattle.std.specs.Map.{lookup}
use Rattle.s3_cards.specs.declared.name.Name.{Name}
use Rattle.s3_cards.specs.Names.{same_name}
use Rattle.s3_lines.specs.Indicators.{same_indicator}
use Rattle.s3_lines.specs.declared.indicator.Indicator.{Indicator}
use Rattle.s3_lines.specs.declared.sheet.InputLine.{InputLine}
use Rattle.s3_lines.specs.declared.sheet.Line.{Line}
use Rattle.s3_lines.specs.declared.sheet.Shape.{Shape}
use Rattle.s3_lines.specs.declared.sheet.SheetLine.{SheetLine}
use Rattle.s3_lines.specs.declared.sheet.SheetLine.TheVariants.{Input, Calculation}
use Rattle.s3_meaning.specs.Source.{reserved_shapes}
use Rattle.s3_diagnose.specs.Lookups.{input_given, result_given}
use Rattle.s3_warnings.specs.declared.entries.IndicatorEntry.{IndicatorEntry}
use Rattle.s3_warnings.specs.Inner.Entries.{Entries, tested_on, set_on}

-- ---- indicators
abbrev pub is_entry_of : Indicator → Option IndicatorEntry → Bool
is_entry_of indicator None = false
is_entry_of indicator (Some entry) = same_indicator entry.indicator indicator

abbrev pub is_among : Indicator → Entries → Bool
is_among indicator entries = list_any (is_entry_of indicator) entries

abbrev pub is_set_by : List Line → Indicator → Bool
is_set_by lines indicator = list_any (λ line. is_among indicator (set_on line.sheet)) lines

abbrev pub is_tested_by : List Line → Indicator → Bool
is_tested_by lines indicator = list_any (λ line. is_among indicator (tested_on line.sheet)) lines

-- ---- fields: what a line gives a shape, and the shape of a name by the first line that gives it one
abbrev pub shape_given : Line → Option (Name × Shape)
shape_given line = on line.sheet
  where
    on : SheetLine → Option (Name × Shape)
    on (Input input) = input_given input
    on (Calculation calculation) = result_given calculation
    on _ = None

abbrev pub shape_by : List Line → Name → Option Shape
shape_by lines name = lookup (same_name name) (reserved_shapes ++ filter_map shape_given lines)

-- ---- together
pub record Facts : Type 0 where
  pub is_set : Indicator → Bool
  pub is_tested : Indicator → Bool
  pub shape : Name → Option Shape

abbrev pub facts_of : List Line → Facts
facts_of lines = record { is_set = is_set_by lines; is_tested = is_tested_by lines; shape = shape_by lines }
