use Rattle.std.proofs.Common.{◌≡◌, [], true, take}
use Rattle.std.specs.List.{list_all}
use Rattle.s3_load.specs.Inner.Columns.{is_clear}
use Rattle.s3_load.proofs.columns.tell_all_under.Given as goal

abbrev pub invariant-loop-field : goal.invariant-loop-field
invariant-loop-field l = record {
  clear : l.faults.items ≡ [] → list_all (is_clear l.named) (take l.field-index l.missing) ≡ true;
  before : l.faults.items ≡ [] → l.initial.faults.items ≡ [];
}
