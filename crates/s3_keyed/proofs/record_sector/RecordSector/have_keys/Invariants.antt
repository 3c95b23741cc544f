use Rattle.std.proofs.Common.{◌≡◌, ◌<◌, ◌*◌, ℕ, Ok}
use Rattle.s3_store.specs.Bytes.{part}
use Rattle.s3_store.specs.Inner.Calls.{Reads}
use Rattle.s3_keyed.specs.Inner.Shape.{bytes_in, keys_on, entry_here, IsOfRecord}
use Rattle.s3_keyed.proofs.record_sector.RecordSector.have_keys.Given as goal

abbrev pub invariant-loop-j : goal.invariant-loop-j
invariant-loop-j g l = record {
  good : (j : ℕ) → j < l.j → IsOfRecord (keys_on l.file (g.P.Sectors.state l.initial.pool).contents) (entry_here l.file.key_length l.index j);
  here : l.self.bytes ≡ part (bytes_in l.file (g.P.Sectors.state l.pool).contents) (256 * l.self.place) 256;
  reads : Reads {T = Unit {0}} (Ok tt) (g.P.Sectors.state l.initial.pool) (g.P.Sectors.state l.pool);
}
