-- Conditions of one card that can't hold together: an indicator must be on, and off.
use Rattle.std.specs.Prelude.{Bool, false, not, ◌&&◌, List, Option, Some, None, filter_map, if◌then◌else◌}
use Rattle.std.specs.List.{list_any}
use Rattle.s3_lines.specs.Indicators.{same_indicator}
use Rattle.s3_lines.specs.declared.sheet.Line.{Line}
use Rattle.s3_warnings.specs.declared.entries.IndicatorEntry.{IndicatorEntry}
use Rattle.s3_warnings.specs.declared.kinds.Warning.{Warning}
use Rattle.s3_warnings.specs.declared.kinds.WarningKind.TheVariants.{Contradiction}
use Rattle.s3_warnings.specs.Inner.Entries.{Entries, tested_on}
use Rattle.s3_warnings.specs.Inner.Marking.{warned}

-- one has N, and the other hasn't
abbrev pub are_opposite : (one other : Bool) → Bool
are_opposite one other = if one then not other else other

abbrev pub contradicts : IndicatorEntry → Option IndicatorEntry → Bool
contradicts entry None = false
contradicts entry (Some other) = same_indicator entry.indicator other.indicator && are_opposite entry.negated other.negated

abbrev pub is_contradicted : Entries → IndicatorEntry → Bool
is_contradicted entries entry = list_any (contradicts entry) entries

-- both entries are marked
abbrev pub contradictions_on : Line → List Warning
contradictions_on line = filter_map (warned Contradiction line.card (is_contradicted (tested_on line.sheet))) (tested_on line.sheet)
