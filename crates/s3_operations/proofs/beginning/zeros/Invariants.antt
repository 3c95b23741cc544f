use Rattle.std.proofs.Common.{take}
use Rattle.s3_operations.specs.Inner.Beginning.{IsZeros}
use Rattle.s3_operations.proofs.beginning.zeros.Given as goal

abbrev pub invariant-loop-field : goal.invariant-loop-field
invariant-loop-field l = IsZeros (take l.field-index l.fields) l.numbers.items l.forms.items
