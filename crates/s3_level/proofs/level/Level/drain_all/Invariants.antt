-- So many lines were drained, and nothing else has changed.
use Rattle.s3_level.specs.Inner.Holds.{around}
use Rattle.s3_level.proofs.Draining.{DrainedSo}
use Rattle.s3_level.proofs.level.Level.drain_all.Given as goal

abbrev pub invariant-loop-line : goal.invariant-loop-line
invariant-loop-line g l =
    DrainedSo l._line l.initial.self l.self (around l.initial.pack.areas (g.P.Sectors.state l.initial.pack.pool) l.initial.spool) (around l.pack.areas (g.P.Sectors.state l.pack.pool) l.spool)
