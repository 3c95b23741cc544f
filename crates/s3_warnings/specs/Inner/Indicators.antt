-- Indicators that a program tests and nothing turns on, and the other way round.
use Rattle.std.specs.Prelude.{Bool, true, false, not, ◌&&◌, List, filter_map}
use Rattle.s3_lines.specs.declared.indicator.Indicator.{Indicator}
use Rattle.s3_lines.specs.declared.indicator.Indicator.TheVariants.{General, Level, Matching, Halt, Overflow}
use Rattle.s3_lines.specs.declared.sheet.Line.{Line}
use Rattle.s3_warnings.specs.declared.entries.IndicatorEntry.{IndicatorEntry}
use Rattle.s3_warnings.specs.declared.kinds.Warning.{Warning}
use Rattle.s3_warnings.specs.declared.kinds.WarningKind.TheVariants.{NeverSet, NeverTested}
use Rattle.s3_warnings.specs.Inner.Entries.{tested_on, turned_on}
use Rattle.s3_warnings.specs.Inner.Facts.{Facts}
use Rattle.s3_warnings.specs.Inner.Marking.{warned}

-- 01 to 99, H1 to H9, MR, OA to OG and OV are never on unless a card turns them on. The cycle turns L0 to L9, LR and 1P on, and the job's
-- switches U1 to U8.
abbrev pub needs_a_card : Indicator → Bool
needs_a_card (General n) = true
needs_a_card (Halt n) = true
needs_a_card Matching = true
needs_a_card (Overflow n) = true
needs_a_card _ = false

-- 01 to 99, L1 to L9, OA to OG and OV do nothing unless a card tests them. The cycle itself asks for H1 to H9, LR and MR.
abbrev pub needs_a_test : Indicator → Bool
needs_a_test (General n) = true
needs_a_test (Level n) = true
needs_a_test (Overflow n) = true
needs_a_test _ = false

abbrev pub is_never_set : Facts → IndicatorEntry → Bool
is_never_set facts entry = needs_a_card entry.indicator && not (facts.is_set entry.indicator)

abbrev pub is_never_tested : Facts → IndicatorEntry → Bool
is_never_tested facts entry = needs_a_test entry.indicator && not (facts.is_tested entry.indicator)

-- on the card of a line
abbrev pub never_set_on : Facts → Line → List Warning
never_set_on facts line = filter_map (warned NeverSet line.card (is_never_set facts)) (tested_on line.sheet)

abbrev pub never_tested_on : Facts → Line → List Warning
never_tested_on facts line = filter_map (warned NeverTested line.card (is_never_tested facts)) (turned_on line.sheet)
