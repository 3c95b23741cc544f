use Rattle.std.proofs.Common.{◌≡◌, ◌++◌, drop}
use Rattle.s3_warnings.specs.Inner.Overlaps.{overlaps, overlaps_from}
use Rattle.s3_warnings.specs.Inner.Shown.{facts_shown}
use Rattle.s3_warnings.proofs.overlaps.push_overlaps.Given as goal

abbrev pub invariant-loop-line : goal.invariant-loop-line
invariant-loop-line l =
    l.found.items ++ overlaps_from (facts_shown l.known) l.earlier.items (drop l.line-index l.lines)
    ≡ l.initial.found.items ++ overlaps (facts_shown l.known) l.lines
