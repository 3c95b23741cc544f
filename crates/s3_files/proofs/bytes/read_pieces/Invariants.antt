use Rattle.std.proofs.Common.{◌≡◌, ◌-◌, ◌≤◌, length, take, drop}
use Rattle.s3_store.specs.Inner.State.{KeepsContents}
use Rattle.s3_store.specs.Bytes.{bytes_at, part}
use Rattle.s3_files.proofs.bytes.read_pieces.Given as goal

abbrev pub invariant-loop-done : goal.invariant-loop-done
invariant-loop-done g l = record {
  within : l.done ≤ length l.bytes;
  read : take l.done l.bytes ≡ part (bytes_at l.sectors (g.P.Sectors.state l.initial.pool).contents) l.at l.done;
  rest : drop l.done l.bytes ≡ drop l.done l.initial.bytes;
  keeps : KeepsContents (g.P.Sectors.state l.initial.pool) (g.P.Sectors.state l.pool);
  failures : (g.P.Sectors.state l.pool).failures ≡ (g.P.Sectors.state l.initial.pool).failures;
}

abbrev pub decreases-loop-done : goal.decreases-loop-done
decreases-loop-done g l = length l.initial.bytes - l.done
