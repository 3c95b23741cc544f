use Rattle.std.proofs.Common.{◌≡◌, ◌++◌, length, map, take, drop}
use Rattle.s3_files.specs.Inner.Files.{records}
use Rattle.s3_pack_care.specs.Inner.Rows.{ChangesSectors, KeepsTail, shape_of}
use Rattle.s3_pack_care.proofs.rows.write_rows.Given as goal

abbrev pub invariant-loop-i : goal.invariant-loop-i
invariant-loop-i l = record {
  done : records (shape_of l.file) l.store ≡ take l.i (map (λ row. row.bytes.items) l.rows) ++ drop l.i (records (shape_of l.file) l.initial.store);
  tail : KeepsTail (shape_of l.file) l.initial.store l.store;
  count : length l.store ≡ length l.initial.store;
  others : ChangesSectors l.file.sectors l.initial.store l.store;
}
