use Rattle.std.proofs.Common.{◌≡◌, take}
use Rattle.std.specs.Prelude.{nat_eq}
use Rattle.indexmap.specs.IndexSet.{contains}
use Rattle.s3_lines.specs.Indicators.{indicator_number}
use Rattle.s3_lines.specs.declared.indicator.Indicator.{Indicator}
use Rattle.s3_warnings.specs.Inner.Facts.{is_set_by}
use Rattle.s3_warnings.proofs.known.set_by.Given as goal

abbrev pub invariant-loop-line : goal.invariant-loop-line
invariant-loop-line l = (indicator : Indicator) → contains nat_eq l.set (indicator_number indicator) ≡ is_set_by (take l.line-index l.lines) indicator
