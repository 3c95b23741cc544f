use Rattle.std.proofs.Common.{◌≡◌}
use Rattle.std.specs.Prelude.{if◌then◌else◌}
use Rattle.s3_lines.specs.declared.indicator.Indicator.{Indicator}
use Rattle.s3_meaning.specs.Selection.{is_level_to}
use Rattle.s3_operations.specs.Inner.Indicators.{on_in}
use Rattle.s3_operations.proofs.indicators.Indicators.turn_levels_to.Given as goal

abbrev pub invariant-loop-number : goal.invariant-loop-number
invariant-loop-number l = (other : Indicator) → on_in l.self other ≡ (if is_level_to l.number other then l.to else on_in l.fn.self other)
