use Rattle.std.proofs.Common.{◌≡◌}
use Rattle.s3_load.specs.Inner.Reasons.{IsSameKey, Reports}
use Rattle.s3_load.proofs.KeyLemmas.{AscendBelow}
use Rattle.s3_load.proofs.table.find_same_keys.Given as goal

abbrev pub invariant-loop-place : goal.invariant-loop-place
invariant-loop-place l = record {
  before : l.faults.count ≡ 0 → l.initial.faults.count ≡ 0;
  below : l.faults.count ≡ 0 → AscendBelow l.key l.rows l.place;
  reported : Reports (IsSameKey l.key l.rows) l.initial.faults l.faults;
}
