use Rattle.std.proofs.Common.{◌≡◌, drop}
use Rattle.s3_match.specs.Inner.Fields.{some_type_names_level}
use Rattle.s3_match.proofs.fields.some_type_names_level.Given as goal

abbrev pub invariant-loop-place : goal.invariant-loop-place
invariant-loop-place l = some_type_names_level l.key l.lines ≡ some_type_names_level l.key (drop l.place l.lines)
