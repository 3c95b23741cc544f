use Rattle.std.proofs.Common.{◌≡◌, drop}
use Rattle.s3_match.specs.Inner.Types.{further_hold}
use Rattle.s3_match.proofs.types.and_lines_hold.Given as goal

abbrev pub invariant-loop-place : goal.invariant-loop-place
invariant-loop-place l = further_hold l.bytes (drop l.from l.inputs) ≡ further_hold l.bytes (drop l.place l.inputs)
