-- Indicators that are the same, and the number of each.
use Rattle.std.specs.Prelude.{ℕ, ◌+◌, ◌*◌, ◌==◌, Bool, true, false, Option, Some, None}
use Rattle.s3_lines.specs.declared.indicator.Indicator.{Indicator}
use Rattle.s3_lines.specs.declared.indicator.Indicator.TheVariants.{General, Level, LastRecord, Matching, Halt, FirstPage, Overflow, Switch}

abbrev pub same_indicator : Indicator → Indicator → Bool
same_indicator (General a) (General b) = a == b
same_indicator (Level a) (Level b) = a == b
same_indicator LastRecord LastRecord = true
same_indicator Matching Matching = true
same_indicator (Halt a) (Halt b) = a == b
same_indicator FirstPage FirstPage = true
same_indicator (Overflow a) (Overflow b) = a == b
same_indicator (Switch a) (Switch b) = a == b
same_indicator a b = false

abbrev pub is_indicator : Indicator → Option Indicator → Bool
is_indicator a (Some b) = same_indicator a b
is_indicator a None = false

-- eight times the number on the sheet, and the kind; no two indicators have the same
abbrev pub indicator_number : Indicator → ℕ
indicator_number (General n) = 8 * n
indicator_number (Level n) = 8 * n + 1
indicator_number LastRecord = 2
indicator_number Matching = 3
indicator_number (Halt n) = 8 * n + 4
indicator_number FirstPage = 5
indicator_number (Overflow n) = 8 * n + 6
indicator_number (Switch n) = 8 * n + 7
