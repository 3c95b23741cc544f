use Rattle.std.proofs.Common.{◌≡◌, take}
use Rattle.std.specs.Prelude.{flat_map}
use Rattle.s3_warnings.specs.Inner.Shown.{facts_shown}
use Rattle.s3_warnings.specs.Inner.Warnings.{warnings_on}
use Rattle.s3_warnings.proofs.warnings.card_warnings.Given as goal

abbrev pub invariant-loop-line : goal.invariant-loop-line
invariant-loop-line l = l.found.items ≡ flat_map (warnings_on (facts_shown l.fn.known) l.fn.lines) (take l.line-index l.fn.lines)
