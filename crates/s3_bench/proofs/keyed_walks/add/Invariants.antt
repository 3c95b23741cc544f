use Rattle.std.proofs.Common.{◌≡◌, length}
use Rattle.s3_files.specs.Inner.Files.{AreStored}
use Rattle.s3_keyed.specs.Inner.Keyed.{shown, HasKeyOrder}
use Rattle.s3_bench.proofs.keyed_walks.add.Given as goal

abbrev pub invariant-loop-call : goal.invariant-loop-call
invariant-loop-call g l = record {
  stored : AreStored (shown l.file).sectors (g.P.Sectors.state l.pool).contents;
  ordered : HasKeyOrder (shown l.file) (g.P.Sectors.state l.pool).contents;
  long : (shown l.file).layout.record_length ≡ 96;
  kept : length (g.P.Sectors.state l.pool).contents ≡ length (g.P.Sectors.state l.initial.pool).contents;
}
