use Rattle.std.proofs.Common.{◌≡◌, ◌++◌, true, length, take}
use Rattle.s3_slots.specs.Labels.{sectors_of}
use Rattle.s3_keyed.specs.Inner.Keyed.{records_now, shown}
use Rattle.s3_unload.specs.Inner.Ordered.{in_order}
use Rattle.s3_load.specs.Inner.Filling.{ChangesOnly, IsAtWork, KeepsSpare, records_of}
use Rattle.s3_load.proofs.filling.fill_by_key.Given as goal

abbrev pub invariant-loop-row : goal.invariant-loop-row
invariant-loop-row l = record {
  work : IsAtWork l.file l.label l.store;
  records : l.fits ≡ true → l.faults.count ≡ 0 → records_now (shown l.file) l.store ≡ in_order l.label l.initial.store ++ records_of (take l.row-index l.rows);
  spare : l.fits ≡ true → l.faults.count ≡ 0 → KeepsSpare l.label (shown l.file).count l.initial.store l.store;
  long : length l.store ≡ length l.initial.store;
  only : ChangesOnly (sectors_of l.label) l.initial.store l.store;
}
