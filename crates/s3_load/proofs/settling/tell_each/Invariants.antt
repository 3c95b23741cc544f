use Rattle.std.proofs.Common.{◌≡◌, [], true, take}
use Rattle.std.specs.List.{list_all}
use Rattle.s3_load.specs.Inner.Settling.{is_settled}
use Rattle.s3_load.proofs.settling.tell_each.Given as goal

abbrev pub invariant-loop-field : goal.invariant-loop-field
invariant-loop-field l = record {
  settled : l.faults.items ≡ [] → list_all (is_settled l.bytes) (take l.field-index l.fields) ≡ true;
  before : l.faults.items ≡ [] → l.initial.faults.items ≡ [];
}
