use Rattle.std.proofs.Common.{◌≡◌, [], take}
use Rattle.s3_load.proofs.columns.tell_missing.Given as goal

abbrev pub invariant-loop-field : goal.invariant-loop-field
invariant-loop-field l = record {
  missing : l.faults.items ≡ [] → take l.field-index l.missing ≡ [];
  before : l.faults.items ≡ [] → l.initial.faults.items ≡ [];
}
