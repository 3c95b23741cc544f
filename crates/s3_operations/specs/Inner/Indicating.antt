-- Indicators that the cycle itself turns on or off.
use Rattle.std.specs.Prelude.{ℕ, ◌||◌, Option, Some, None}
use Rattle.s3_lines.specs.declared.indicator.Indicator.{Indicator}
use Rattle.s3_lines.specs.declared.indicator.Indicator.TheVariants.{LastRecord}
use Rattle.s3_lines.specs.declared.sheet.InputLine.{InputLine}
use Rattle.s3_lines.specs.declared.sheet.InputLine.TheVariants.{Record, And as AndCodes, Or as OrCodes, Field as InputField}
use Rattle.s3_meaning.specs.Source.{Source}
use Rattle.s3_meaning.specs.Environment.{Environment, turn_levels}
use Rattle.s3_meaning.specs.Cycle.{without_types}
use Rattle.s3_meaning.specs.Selection.{is_level_to}
use Rattle.s3_program.specs.declared.program.Reference.{Reference}

-- the record identifying indicator of a line at which a record type starts
abbrev pub type_indicator : InputLine Reference → Option Indicator
type_indicator (Record file indicator codes) = Some indicator
type_indicator (AndCodes codes) = None
type_indicator (OrCodes indicator codes) = Some indicator
type_indicator (InputField field) = None

-- a control break at a level turns L1 up to that level on
abbrev pub with_levels_to : ℕ → Environment → Environment
with_levels_to level e = record e { on = λ indicator. is_level_to level indicator || e.on indicator }

-- step 2 of the cycle turns off record identifying indicators, and L1 to L9 unless LR is on
abbrev pub cleared_of : Source → Environment → Environment
cleared_of source e = turn_levels (e.on LastRecord) (without_types source e)
