use Rattle.std.proofs.Common.{◌≡◌, take}
use Rattle.s3_lines.specs.declared.indicator.Indicator.{Indicator}
use Rattle.s3_match.specs.Inner.Reading.{indicators_on}
use Rattle.s3_operations.specs.Inner.Indicators.{on_in}
use Rattle.s3_cycle.specs.Inner.Clearing.{turned_off}
use Rattle.s3_cycle.proofs.indicating.turn_off.Given as goal

abbrev pub invariant-loop-place : goal.invariant-loop-place
invariant-loop-place l = (other : Indicator) → on_in l.indicators other ≡ turned_off (take l.place-index (indicators_on l.program.inputs.items)) other (on_in l.fn.indicators other)
