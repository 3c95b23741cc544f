-- Turns an indicator on or off, if the entry has one.
use Rattle.std.specs.Prelude.{Bool, false, Option, Some, None}
use Rattle.s3_lines.specs.declared.indicator.Indicator.{Indicator}
use Rattle.s3_meaning.specs.Environment.{Environment, turn}

abbrev pub turn_entry : Option Indicator → Bool → Environment → Environment
turn_entry None to e = e
turn_entry (Some indicator) to e = turn indicator to e

abbrev pub is_entry_on : Environment → Option Indicator → Bool
is_entry_on e None = false
is_entry_on e (Some indicator) = e.on indicator
