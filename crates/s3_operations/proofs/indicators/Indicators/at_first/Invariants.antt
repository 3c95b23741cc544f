use Rattle.std.proofs.Common.{◌≡◌}
use Rattle.s3_lines.specs.declared.indicator.Indicator.{Indicator}
use Rattle.s3_operations.specs.Inner.Indicators.{on_in}
use Rattle.s3_operations.proofs.IndicatorLemmas.{first_to}
use Rattle.s3_operations.proofs.indicators.Indicators.at_first.Given as goal

abbrev pub invariant-loop-number : goal.invariant-loop-number
invariant-loop-number l = (other : Indicator) → on_in l.indicators other ≡ first_to l.number l.switches other
