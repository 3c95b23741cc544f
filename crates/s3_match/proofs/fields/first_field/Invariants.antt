use Rattle.std.proofs.Common.{◌≡◌, drop}
use Rattle.s3_match.specs.Inner.Fields.{first_field}
use Rattle.s3_match.proofs.fields.first_field.Given as goal

abbrev pub invariant-loop-place : goal.invariant-loop-place
invariant-loop-place l = first_field l.indicator l.key l.level (drop l.from l.inputs) ≡ first_field l.indicator l.key l.level (drop l.place l.inputs)
