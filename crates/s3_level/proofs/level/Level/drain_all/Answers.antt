use Rattle.std.proofs.Common.{arith}
use Rattle.s3_level.specs.Inner.Holds.{around}
use Rattle.s3_level.proofs.Draining.{all_drained_by, then_one}
use Rattle.s3_level.proofs.level.Level.drain_all.Goals as goal

pub loop-line-preserved : goal.loop-line-preserved
loop-line-preserved g c =
    then_one c.loop-line._line c.in_ok-drain.field-0 c.args.self.now c.loop-line.self c.drain.new.self (around c.args.pack.now.areas (g.P.Sectors.state c.args.pack.now.pool) c.args.spool.now) (around c.loop-line.pack.areas (g.P.Sectors.state c.loop-line.pack.pool) c.loop-line.spool)
    (around c.drain.new.pack.areas (g.P.Sectors.state c.drain.new.pack.pool) c.drain.new.spool) c.loop-line.invariant c.in_ok-drain.ensures.step c.in_ok-drain.ensures.ready c.drain.ensures.spares c.drain.ensures.areas c.drain.ensures.keeps c.in_ok-drain.ensures.failures
    c.drain.ensures.id

pub returns-clause-world : goal.returns-clause-world
returns-clause-world g c =
    all_drained_by c.loop-line._line c.args.self.now c.loop-line.self (around c.args.pack.now.areas (g.P.Sectors.state c.args.pack.now.pool) c.args.spool.now) (around c.loop-line.pack.areas (g.P.Sectors.state c.loop-line.pack.pool) c.loop-line.spool)
    (omega (arith, c.loop-line-test.false, c.loop-line.auto._line-end, c.queued-line-end.ensures)) c.loop-line.invariant
