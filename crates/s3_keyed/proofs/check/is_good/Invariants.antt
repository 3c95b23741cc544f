use Rattle.std.proofs.Common.{◌≡◌, ◌-◌, ◌*◌, ◌^◌, ◌<◌, min, Ok}
use Rattle.s3_store.specs.Bytes.{part}
use Rattle.s3_keyed.specs.KeyOrder.{number_of}
use Rattle.s3_keyed.specs.Index.{entry_at}
use Rattle.s3_store.specs.Inner.Calls.{Reads}
use Rattle.s3_keyed.specs.Inner.Shape.{layout_in, bytes_in, keys_on}
use Rattle.s3_keyed.proofs.Checked.{AreChecked}
use Rattle.s3_keyed.proofs.check.is_good.Given as goal

abbrev pub invariant-loop-place : goal.invariant-loop-place
invariant-loop-place g l = record {
  checked : AreChecked (entry_at (layout_in l.file) (bytes_in l.file (g.P.Sectors.state l.fn.pool).contents)) (keys_on l.file (g.P.Sectors.state l.fn.pool).contents) (min (l.place * l.per_sector) l.count);
  last : 0 < l.place → number_of l.last.bytes ≡ (entry_at (layout_in l.file) (bytes_in l.file (g.P.Sectors.state l.fn.pool).contents) (min (l.place * l.per_sector) l.count - 1)).key;
  short : number_of l.last.bytes < 256 ^ l.file.key_length;
  records : l.records.bytes ≡ part (bytes_in l.file (g.P.Sectors.state l.pool).contents) (256 * l.records.place) 256;
  reads : Reads {T = Unit {0}} (Ok tt) (g.P.Sectors.state l.fn.pool) (g.P.Sectors.state l.pool);
}
