use Rattle.std.proofs.Common.{◌≡◌, take}
use Rattle.s3_solo.specs.Serving.{details_of}
use Rattle.s3_level.proofs.details.details_of.Given as goal

abbrev pub invariant-loop-diagnostic : goal.invariant-loop-diagnostic
invariant-loop-diagnostic l = l.details.items ≡ details_of (take l.diagnostic-index l.diagnostics)
