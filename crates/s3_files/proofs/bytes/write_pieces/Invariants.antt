use Rattle.std.proofs.Common.{◌≡◌, ◌-◌, ◌≤◌, length, take}
use Rattle.std.specs.List.{Contains}
use Rattle.s3_store.specs.Inner.State.{ChangesWithin}
use Rattle.s3_store.specs.Bytes.{bytes_at, part}
use Rattle.s3_store.specs.Inner.Bytes.{SameOutside}
use Rattle.s3_files.proofs.bytes.write_pieces.Given as goal

abbrev pub invariant-loop-done : goal.invariant-loop-done
invariant-loop-done g l = record {
  fits : l.done ≤ length l.bytes;
  written : part (bytes_at l.sectors (g.P.Sectors.state l.pool).contents) l.at l.done ≡ take l.done l.bytes;
  outside : SameOutside l.at (length l.bytes) (bytes_at l.sectors (g.P.Sectors.state l.initial.pool).contents) (bytes_at l.sectors (g.P.Sectors.state l.pool).contents);
  within : ChangesWithin (Contains l.sectors) (g.P.Sectors.state l.initial.pool) (g.P.Sectors.state l.pool);
  failures : (g.P.Sectors.state l.pool).failures ≡ (g.P.Sectors.state l.initial.pool).failures;
}

abbrev pub decreases-loop-done : goal.decreases-loop-done
decreases-loop-done g l = length l.bytes - l.done
