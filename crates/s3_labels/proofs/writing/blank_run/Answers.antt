use Rattle.std.proofs.Common.{arith, replicate}
use Rattle.s3_labels.proofs.Blanks.{set_on, step_within}
use Rattle.s3_labels.proofs.writing.blank_run.Goals as goal

pub loop-n-preserved : goal.loop-n-preserved
loop-n-preserved g c = record {
  end = c.loop-n.invariant.end;
  set = set_on (replicate 256 64) c.args.run.start c.loop-n.n (g.P.Sectors.state c.loop-n.pool).contents (g.P.Sectors.state c.write_sector.new.self).contents
      (omega (arith, c.loop-n-test.true, c.requires.there, c.loop-n.invariant.end, c.loop-n.invariant.within.count)) c.in_ok-write_sector.ensures.ok c.loop-n.invariant.set;
  within = step_within c.args.run c.loop-n.n (g.P.Sectors.state c.args.pool.now) (g.P.Sectors.state c.loop-n.pool) (g.P.Sectors.state c.write_sector.new.self)
      (omega (arith, c.loop-n.auto.n)) (omega (arith, c.loop-n-test.true, c.loop-n.invariant.end)) c.loop-n.invariant.within c.in_ok-write_sector.ensures.within;
  failures = omega (arith, c.loop-n.invariant.failures, c.in_ok-write_sector.ensures.failures);
}
