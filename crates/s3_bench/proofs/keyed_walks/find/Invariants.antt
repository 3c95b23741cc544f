use Rattle.std.proofs.Common.{◌≡◌}
use Rattle.s3_bench.proofs.keyed_walks.find.Given as goal

abbrev pub invariant-loop-call : goal.invariant-loop-call
invariant-loop-call g l = (g.P.Sectors.state l.pool).contents ≡ (g.P.Sectors.state l.initial.pool).contents
