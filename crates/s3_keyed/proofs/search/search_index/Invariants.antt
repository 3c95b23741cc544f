use Rattle.std.proofs.Common.{◌+◌, ◌-◌, ◌*◌, ◌/◌, ◌%◌, ◌<◌, ◌≤◌, ℕ, min, Ok}
use Rattle.s3_keyed.specs.KeyOrder.{number_of}
use Rattle.s3_keyed.specs.Index.{entry_at}
use Rattle.s3_store.specs.Inner.Calls.{Reads}
use Rattle.s3_keyed.specs.Inner.Shape.{layout_in, bytes_in}
use Rattle.s3_keyed.proofs.search.search_index.Given as goal

abbrev pub invariant-halve : goal.invariant-halve
invariant-halve g l = record {
  within : l.high ≤ l.entries / l.per_sector + min 1 (l.entries % l.per_sector);
  below : (i : ℕ) → i < l.low * l.per_sector → i < l.entries → (entry_at (layout_in l.file) (bytes_in l.file (g.P.Sectors.state l.initial.pool).contents) i).key < number_of l.key.bytes;
  above : (i : ℕ) → l.high * l.per_sector ≤ i → i < l.entries → number_of l.key.bytes < (entry_at (layout_in l.file) (bytes_in l.file (g.P.Sectors.state l.initial.pool).contents) i).key;
  reads : Reads {T = Unit {0}} (Ok tt) (g.P.Sectors.state l.initial.pool) (g.P.Sectors.state l.pool);
}

abbrev pub decreases-halve : goal.decreases-halve
decreases-halve g l = l.high - l.low
