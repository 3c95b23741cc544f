-- The indicators on a card, each with its columns, by what the card does with them. It tests some, turns some on, and turns some on or off
-- for the sake of a test alone.
use Rattle.std.specs.Prelude.{ℕ, ◌+◌, Bool, true, false, List, [], ◌∷◌, Option, Some, None}
use Rattle.s3_cards.specs.declared.name.Name.{Name}
use Rattle.s3_lines.specs.Inner.Blanks.{none_of_three}
use Rattle.s3_lines.specs.declared.indicator.Condition.{Condition}
use Rattle.s3_lines.specs.declared.indicator.Indicator.{Indicator}
use Rattle.s3_lines.specs.declared.indicator.Indicator.TheVariants.{Matching}
use Rattle.s3_lines.specs.declared.sheet.CalculationLine.{CalculationLine}
use Rattle.s3_lines.specs.declared.sheet.CalculationTime.{CalculationTime}
use Rattle.s3_lines.specs.declared.sheet.CalculationTime.TheVariants.{Total}
use Rattle.s3_lines.specs.declared.sheet.FieldLine.{FieldLine}
use Rattle.s3_lines.specs.declared.sheet.InputLine.{InputLine}
use Rattle.s3_lines.specs.declared.sheet.InputLine.TheVariants.{Record, Or as OrRecord, Field as FieldOfRecord}
use Rattle.s3_lines.specs.declared.sheet.Operation.{Operation}
use Rattle.s3_lines.specs.declared.sheet.Operation.TheVariants.{SetOff, Chain}
use Rattle.s3_lines.specs.declared.sheet.OutputLine.{OutputLine}
use Rattle.s3_lines.specs.declared.sheet.OutputLine.TheVariants.{Line as LineCard, And as AndCard, Or as OrCard, Field as FieldCard}
use Rattle.s3_lines.specs.declared.sheet.SheetLine.{SheetLine}
use Rattle.s3_lines.specs.declared.sheet.SheetLine.TheVariants.{File, Input, Calculation, Output}
use Rattle.s3_warnings.specs.declared.entries.IndicatorEntry.{IndicatorEntry}

-- ---- entries in their columns
abbrev pub Entries : Type 0
Entries = List (Option IndicatorEntry)

abbrev pub entry : (from to : ℕ) → Option Indicator → Option IndicatorEntry
entry from to None = None
entry from to (Some indicator) = Some (record { indicator = indicator; negated = false; from = from; to = to })

-- N or a blank, and an indicator
abbrev pub condition_entry : (from : ℕ) → Option Condition → Option IndicatorEntry
condition_entry from None = None
condition_entry from (Some condition) =
    Some (record { indicator = condition.indicator; negated = condition.negated; from = from; to = from + 2 })

-- three conditions one after the other, of three columns each, and three indicators, of two
abbrev pub conditions_from : (column : ℕ) → List (Option Condition) → Entries
conditions_from column (one ∷ two ∷ three ∷ _) =
    condition_entry column one ∷ condition_entry (column + 3) two ∷ condition_entry (column + 3 + 3) three ∷ []
conditions_from column _ = none_of_three

abbrev pub indicators_from : (column : ℕ) → List (Option Indicator) → Entries
indicators_from column (one ∷ two ∷ three ∷ _) =
    entry column (column + 1) one ∷ entry (column + 2) (column + 2 + 1) two ∷ entry (column + 2 + 2) (column + 2 + 2 + 1) three ∷ []
indicators_from column _ = none_of_three

abbrev pub alone : Option IndicatorEntry → Entries
alone first = first ∷ none_of_three

-- ---- what a card tests: conditions, L0 to L9 and LR of a total line, and the relation of a field
abbrev pub level : CalculationTime → Option IndicatorEntry
level (Total indicator) = entry 7 8 (Some indicator)
level _ = None

abbrev pub tested_on_input : InputLine Name → Entries
tested_on_input (FieldOfRecord field) = alone (entry 63 64 field.relation)
tested_on_input _ = alone None

abbrev pub tested_on_output : OutputLine Name → Entries
tested_on_output (LineCard card) = None ∷ conditions_from 23 card.conditions
tested_on_output (AndCard conditions) = None ∷ conditions_from 23 conditions
tested_on_output (OrCard conditions) = None ∷ conditions_from 23 conditions
tested_on_output (FieldCard field) = None ∷ conditions_from 23 field.conditions

abbrev pub tested_on : SheetLine → Entries
tested_on (Input line) = tested_on_input line
tested_on (Calculation line) = level line.time ∷ conditions_from 9 line.conditions
tested_on (Output line) = tested_on_output line
tested_on _ = alone None

-- ---- what may go on by what a card says: an overflow indicator, that of a record type, MR by match fields, those of a field, and the
-- resulting ones of each operation but SETOF
abbrev pub matching : Option ℕ → Option IndicatorEntry
matching (Some level) = entry 61 62 (Some Matching)
matching None = None

abbrev pub set_on_input : InputLine Name → Entries
set_on_input (Record file indicator codes) = alone (entry 19 20 (Some indicator))
set_on_input (OrRecord indicator codes) = alone (entry 19 20 (Some indicator))
set_on_input (FieldOfRecord field) = matching field.match_level ∷ indicators_from 65 field.indicators
set_on_input _ = alone None

abbrev pub set_on_calculation : CalculationLine Name → Entries
set_on_calculation line = on line.operation
  where
    on : Option Operation → Entries
    on (Some SetOff) = alone None
    on _ = None ∷ indicators_from 54 line.indicators

abbrev pub set_on : SheetLine → Entries
set_on (File file) = alone (entry 33 34 file.overflow)
set_on (Input line) = set_on_input line
set_on (Calculation line) = set_on_calculation line
set_on _ = alone None

-- ---- what a card turns for the sake of a test alone: an overflow indicator, those of a field, and the resulting ones of each operation
-- but CHAIN, which would halt without one
abbrev pub turned_on_field : FieldLine Name → Entries
turned_on_field field = None ∷ indicators_from 65 field.indicators

abbrev pub turned_on_calculation : CalculationLine Name → Entries
turned_on_calculation line = on line.operation
  where
    on : Option Operation → Entries
    on (Some Chain) = alone None
    on _ = None ∷ indicators_from 54 line.indicators

abbrev pub turned_on : SheetLine → Entries
turned_on (File file) = alone (entry 33 34 file.overflow)
turned_on (Input (FieldOfRecord field)) = turned_on_field field
turned_on (Calculation line) = turned_on_calculation line
turned_on _ = alone None
