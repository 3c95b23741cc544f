use Rattle.std.proofs.Common.{◌≡◌, length}
use Rattle.s3_store.specs.Inner.State.{KeepsContents}
use Rattle.s3_labels.specs.Inner.AreaNumbers.{area_number}
use Rattle.s3_labels.proofs.Ways.{IsOnTheWay}
use Rattle.s3_labels.proofs.reading.read_slots.Given as goal

abbrev pub invariant-loop-i : goal.invariant-loop-i
invariant-loop-i g l = record {
  way : IsOnTheWay l.format l.region (area_number l.area) (g.P.Sectors.state l.initial.pool).contents l.i l.slots.items;
  count : length l.slots.items ≡ l.i;
  keeps : KeepsContents (g.P.Sectors.state l.initial.pool) (g.P.Sectors.state l.pool);
  failures : (g.P.Sectors.state l.pool).failures ≡ (g.P.Sectors.state l.initial.pool).failures;
}
