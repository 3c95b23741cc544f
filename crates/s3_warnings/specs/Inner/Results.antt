-- Results with fewer digits in front of the point than what is put into them.
use Rattle.std.specs.Prelude.{ℕ, ◌-◌, nat_lt, Bool, true, false, ◌&&◌, ◌||◌, List, [], Option, Some, None}
use Rattle.s3_cards.specs.declared.name.Name.{Name}
use Rattle.s3_lines.specs.declared.sheet.CalculationLine.{CalculationLine}
use Rattle.s3_lines.specs.declared.sheet.Factor.{Factor}
use Rattle.s3_lines.specs.declared.sheet.Factor.TheVariants.{Named, Number}
use Rattle.s3_lines.specs.declared.sheet.Line.{Line}
use Rattle.s3_lines.specs.declared.sheet.Operation.{Operation}
use Rattle.s3_lines.specs.declared.sheet.Operation.TheVariants.{Add, Subtract, ZeroAdd, ZeroSubtract}
use Rattle.s3_lines.specs.declared.sheet.Shape.{Shape}
use Rattle.s3_lines.specs.declared.sheet.Shape.TheVariants.{Numeric}
use Rattle.s3_lines.specs.declared.sheet.SheetLine.{SheetLine}
use Rattle.s3_lines.specs.declared.sheet.SheetLine.TheVariants.{Calculation}
use Rattle.s3_warnings.specs.declared.kinds.Warning.{Warning}
use Rattle.s3_warnings.specs.declared.kinds.WarningKind.TheVariants.{ShortResult}
use Rattle.s3_warnings.specs.Inner.Facts.{Facts}
use Rattle.s3_warnings.specs.Inner.Marking.{warning, warned_if}

-- ADD, SUB, Z-ADD and Z-SUB: as a rule the result is as long as its longer factor. A MOVE into a shorter field takes part of a field on
-- purpose, and products and quotients have no such rule.
abbrev pub keeps_digits : Option Operation → Bool
keeps_digits (Some Add) = true
keeps_digits (Some Subtract) = true
keeps_digits (Some ZeroAdd) = true
keeps_digits (Some ZeroSubtract) = true
keeps_digits _ = false

-- digits in front of the point
abbrev pub whole_digits : Option Shape → ℕ
whole_digits (Some (Numeric digits decimals)) = digits - decimals
whole_digits _ = 0

abbrev pub whole_of_factor : Facts → Option (Factor Name) → ℕ
whole_of_factor facts (Some (Named name)) = whole_digits (facts.shape name)
whole_of_factor facts (Some (Number literal)) = literal.digits - literal.decimals
whole_of_factor facts _ = 0

abbrev pub is_below_factors : Facts → CalculationLine Name → (whole : ℕ) → Bool
is_below_factors facts line whole = nat_lt whole (whole_of_factor facts line.factor1) || nat_lt whole (whole_of_factor facts line.factor2)

abbrev pub is_too_short : Facts → CalculationLine Name → Option Name → Bool
is_too_short facts line None = false
is_too_short facts line (Some result) = keeps_digits line.operation && is_below_factors facts line (whole_digits (facts.shape result))

-- the result is marked
abbrev pub results_on : Facts → Line → List Warning
results_on facts line = on line.sheet
  where
    on : SheetLine → List Warning
    on (Calculation calculation) = warned_if (is_too_short facts calculation calculation.result) (warning ShortResult line.card 43 48)
    on _ = []
