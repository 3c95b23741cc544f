use Rattle.std.proofs.Common.{◌≡◌, length}
use Rattle.s3_files.specs.Inner.Files.{AreStored}
use Rattle.s3_keyed.specs.Inner.Keyed.{shown, HasKeyOrder}
use Rattle.s3_bench.proofs.keyed_walks.load_all.Given as goal

abbrev pub invariant-loop-i : goal.invariant-loop-i
invariant-loop-i g l = record {
  stored : AreStored (shown l.file).sectors (g.P.Sectors.state l.pool).contents;
  ordered : HasKeyOrder (shown l.file) (g.P.Sectors.state l.pool).contents;
  long : (shown l.file).layout.record_length ≡ 96;
  kept : length (g.P.Sectors.state l.pool).contents ≡ length (g.P.Sectors.state l.initial.pool).contents;
}
