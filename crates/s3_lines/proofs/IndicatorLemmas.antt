-- Indicators by their numbers.
use Rattle.std.proofs.Common.{◌≡◌, ◌==◌, refl, arith}
use Rattle.std.proofs.lemmas.Bool.Decides.{nat_tests}
use Rattle.s3_lines.specs.declared.indicator.Indicator.{Indicator}
use Rattle.s3_lines.specs.declared.indicator.Indicator.TheVariants.{General, LastRecord}
use Rattle.s3_lines.specs.Indicators.{same_indicator, indicator_number}

-- two indicators are the same exactly where their numbers are
pub by_number : (a b : Indicator) → (indicator_number a == indicator_number b) ≡ same_indicator a b
by_number (General a) (General b) = grind (arith, nat_tests)
by_number LastRecord LastRecord = refl
by_number a b = grind (arith, nat_tests)
