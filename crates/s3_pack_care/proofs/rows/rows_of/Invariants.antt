use Rattle.std.proofs.Common.{◌≡◌, All, length, map, take}
use Rattle.s3_files.specs.Inner.Files.{records}
use Rattle.s3_pack_care.specs.Inner.Rows.{IsKeyed, shape_of}
use Rattle.s3_pack_care.proofs.rows.rows_of.Given as goal

abbrev pub invariant-loop-i : goal.invariant-loop-i
invariant-loop-i l = record {
  rows : map (λ row. row.bytes.items) l.rows.items ≡ take l.i (records (shape_of l.file) l.initial.store);
  long : All (λ row. length row.bytes.items ≡ l.file.record_length) l.rows.items;
  keys : All (IsKeyed l.fields) l.rows.items;
  keeps : l.store ≡ l.initial.store;
}
