use Rattle.std.proofs.Common.{◌≡◌}
use Rattle.s3_bench.proofs.record_walks.read.Given as goal

abbrev pub invariant-loop-i : goal.invariant-loop-i
invariant-loop-i g l = (g.P.Sectors.state l.pool).contents ≡ (g.P.Sectors.state l.initial.pool).contents
