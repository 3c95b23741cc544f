use Rattle.std.proofs.Common.{◌-◌, ◌≤◌, ◌<◌, ℕ}
use Rattle.s3_keyed.specs.Inner.Sought.{sought_key}
use Rattle.s3_keyed.specs.Inner.Shape.{entry_here}
use Rattle.s3_keyed.proofs.sector_search.count_below.Given as goal

abbrev pub invariant-halve : goal.invariant-halve
invariant-halve l = record {
  within : l.high ≤ l.entries;
  order : l.low ≤ l.high;
  below : (i : ℕ) → i < l.low → (entry_here l.key_length l.sector i).key < sought_key l.sought;
  from : (i : ℕ) → l.high ≤ i → i < l.entries → sought_key l.sought ≤ (entry_here l.key_length l.sector i).key;
}

abbrev pub decreases-halve : goal.decreases-halve
decreases-halve l = l.high - l.low
