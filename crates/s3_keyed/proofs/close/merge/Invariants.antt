use Rattle.std.proofs.Common.{◌≡◌, ◌+◌, ◌^◌, ◌<◌, ◌≤◌, ℕ, true, length, map, Ok}
use Rattle.std.specs.List.{All, range_with_len}
use Rattle.s3_files.specs.Records.{records_in}
use Rattle.s3_keyed.specs.KeyOrder.{ascends, keys_in, insert_entries}
use Rattle.s3_keyed.specs.Index.{entry_at}
use Rattle.s3_keyed.specs.Inner.Added.{entries_of}
use Rattle.s3_store.specs.Inner.Calls.{Changes}
use Rattle.s3_keyed.specs.Inner.Shape.{layout_in, bytes_in}
use Rattle.s3_keyed.specs.Inner.Unused.{KeepsUnused}
use Rattle.s3_keyed.proofs.Merging.{IsMerging}
use Rattle.s3_keyed.proofs.close.merge.Given as goal

abbrev pub invariant-highest : goal.invariant-highest
invariant-highest g l = record {
  upto : l.left ≤ l.indexed;
  merging : IsMerging (entry_at (layout_in l.file) (bytes_in l.file (g.P.Sectors.state l.initial.pool).contents)) (entry_at (layout_in l.file) (bytes_in l.file (g.P.Sectors.state l.pool).contents)) l.left (entries_of l.added)
      (l.indexed + length (entries_of l.initial.added)) (insert_entries (map (entry_at (layout_in l.file) (bytes_in l.file (g.P.Sectors.state l.initial.pool).contents)) (range_with_len 0 l.indexed)) (entries_of l.initial.added));
  added_ascends : ascends (keys_in (entries_of l.added)) ≡ true;
  short : All (λ entry. entry.key < 256 ^ l.file.key_length) (entries_of l.added);
  records : (count : ℕ) → count ≤ l.file.file.capacity → records_in l.file.file.record_length count (bytes_in l.file (g.P.Sectors.state l.pool).contents) ≡ records_in l.file.file.record_length count (bytes_in l.file (g.P.Sectors.state l.initial.pool).contents);
  unused : KeepsUnused (layout_in l.file) (l.indexed + length (entries_of l.initial.added)) (bytes_in l.file (g.P.Sectors.state l.initial.pool).contents) (bytes_in l.file (g.P.Sectors.state l.pool).contents);
  changes : Changes {T = Unit {0}} l.file.file.sectors (Ok tt) (g.P.Sectors.state l.initial.pool) (g.P.Sectors.state l.pool);
}

abbrev pub decreases-highest : goal.decreases-highest
decreases-highest g l = l.left + length (entries_of l.added)
