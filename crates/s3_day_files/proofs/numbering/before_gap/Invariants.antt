use Rattle.std.proofs.Common.{◌≡◌, ◌++◌, take, drop}
use Rattle.s3_day_files.specs.Inner.Numbering.{before_gap}
use Rattle.s3_day_files.proofs.numbering.before_gap.Given as goal

-- no gap has begun so far
abbrev pub invariant-loop-start : goal.invariant-loop-start
invariant-loop-start l = before_gap l.names ≡ take l.start l.names ++ before_gap (drop l.start l.names)
