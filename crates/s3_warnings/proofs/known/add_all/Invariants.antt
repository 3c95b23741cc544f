use Rattle.std.proofs.Common.{◌≡◌, ◌||◌, take}
use Rattle.std.specs.Prelude.{nat_eq}
use Rattle.indexmap.specs.IndexSet.{contains}
use Rattle.s3_lines.specs.Indicators.{indicator_number}
use Rattle.s3_lines.specs.declared.indicator.Indicator.{Indicator}
use Rattle.s3_warnings.specs.Inner.Facts.{is_among}
use Rattle.s3_warnings.proofs.known.add_all.Given as goal

abbrev pub invariant-loop-entry : goal.invariant-loop-entry
invariant-loop-entry l = (indicator : Indicator) → contains nat_eq l.set (indicator_number indicator) ≡ (is_among indicator (take l.entry-index l.entries) || contains nat_eq l.initial.set (indicator_number indicator))
