use Rattle.std.proofs.Common.{◌≡◌, length, take}
use Rattle.s3_slots.specs.Labels.{sectors_of}
use Rattle.s3_files.specs.Inner.Files.{AreStored}
use Rattle.s3_load.specs.Inner.Filling.{ChangesOnly, IsFilled, records_of}
use Rattle.s3_load.proofs.filling.fill_in_order.Given as goal

abbrev pub invariant-loop-row : goal.invariant-loop-row
invariant-loop-row l = record {
  filled : IsFilled l.file l.label (records_of (take l.row-index l.rows)) l.initial.store l.store;
  stored : AreStored l.file.sectors l.store;
  long : length l.store ≡ length l.initial.store;
  only : ChangesOnly (sectors_of l.label) l.initial.store l.store;
}
