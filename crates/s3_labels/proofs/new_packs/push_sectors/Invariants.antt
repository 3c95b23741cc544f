use Rattle.std.proofs.Common.{◌≡◌, ◌++◌}
use Rattle.std.specs.List.{range_with_len}
use Rattle.s3_store.specs.Bytes.{bytes_at}
use Rattle.s3_labels.proofs.new_packs.push_sectors.Given as goal

abbrev pub invariant-loop-i : goal.invariant-loop-i
invariant-loop-i l = record {
  same : l.old ≡ l.fn.old;
  done : l.bytes.items ≡ l.fn.bytes.items ++ bytes_at (range_with_len l.fn.region.start l.i) l.fn.old;
}
