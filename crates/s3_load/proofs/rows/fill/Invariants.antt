use Rattle.std.proofs.Common.{◌≡◌, take}
use Rattle.s3_load.specs.Inner.Records.{with_zeros}
use Rattle.s3_load.proofs.rows.fill.Given as goal

abbrev pub invariant-loop-field : goal.invariant-loop-field
invariant-loop-field l = l.bytes ≡ with_zeros l.initial.bytes (take l.field-index l.fields)
