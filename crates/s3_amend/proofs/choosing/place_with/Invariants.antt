use Rattle.std.proofs.Common.{◌≡◌, length}
use Rattle.s3_unload.specs.Inner.Ordered.{in_order}
use Rattle.s3_amend.proofs.KeyLemmas.{NoneHas}
use Rattle.s3_amend.proofs.choosing.place_with.Given as goal

abbrev pub invariant-loop-place : goal.invariant-loop-place
invariant-loop-place l = record {
  same : l.store ≡ l.initial.store;
  long : length l.bytes.items ≡ l.label.record_length;
  none : NoneHas l.label l.key (in_order l.label l.initial.store) l.place;
}
