use Rattle.std.proofs.Common.{◌≡◌}
use Rattle.s3_files.specs.Inner.Files.{AreStored}
use Rattle.s3_bench.proofs.record_walks.load.Given as goal

abbrev pub invariant-loop-i : goal.invariant-loop-i
invariant-loop-i g l = record {
  stored : AreStored l.file.sectors (g.P.Sectors.state l.pool).contents;
  long : l.file.record_length ≡ 96;
}
