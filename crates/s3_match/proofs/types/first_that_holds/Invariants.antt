use Rattle.std.proofs.Common.{◌≡◌, drop}
use Rattle.s3_match.specs.Inner.Types.{first_that_holds}
use Rattle.s3_match.proofs.types.first_that_holds.Given as goal

abbrev pub invariant-loop-start : goal.invariant-loop-start
invariant-loop-start l = first_that_holds l.bytes l.inputs l.starts ≡ first_that_holds l.bytes l.inputs (drop l.start-index l.starts)
