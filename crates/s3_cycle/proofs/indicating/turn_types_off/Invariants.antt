use Rattle.std.proofs.Common.{◌≡◌, take}
use Rattle.s3_lines.specs.declared.indicator.Indicator.{Indicator}
use Rattle.s3_operations.specs.Inner.Indicators.{on_in}
use Rattle.s3_cycle.specs.Inner.Clearing.{shown_by, turned_off}
use Rattle.s3_cycle.proofs.indicating.turn_types_off.Given as goal

abbrev pub invariant-loop-start : goal.invariant-loop-start
invariant-loop-start l = (other : Indicator) → on_in l.indicators other ≡ turned_off (take l.start-index (shown_by l.program l.starts)) other (on_in l.fn.indicators other)
