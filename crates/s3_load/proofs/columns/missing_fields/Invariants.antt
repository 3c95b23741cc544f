use Rattle.std.proofs.Common.{◌≡◌, take}
use Rattle.s3_load.specs.Inner.Owners.{unowned}
use Rattle.s3_load.proofs.columns.missing_fields.Given as goal

abbrev pub invariant-loop-field : goal.invariant-loop-field
invariant-loop-field l = l.missing.items ≡ unowned l.owners (take l.field-index l.fields)
