use Rattle.std.proofs.Common.{Ok, rules}
use Rattle.s3_level.proofs.Beside.{ready_put, spares_put, spool_room}
use Rattle.s3_level.proofs.Printing.{line_last}
use Rattle.s3_level.proofs.Said.{said_put}
use Rattle.s3_level.proofs.Leaving.{all_same, still}
use Rattle.s3_level.proofs.level.Level.put_line.Goals as goal

pub put_composed-requires : goal.put_composed-requires
put_composed-requires g c = spool_room c.args.pack.now.areas (g.P.Sectors.state c.args.pack.now.pool).contents c.requires.ready.files.pack

pub returns-in-Ok-clause-world : goal.returns-in-Ok-clause-world
returns-in-Ok-clause-world g c =
    line_last {T = Unit {0}} {E = Unit {0}} (Ok (tt {0})) c.args.self.now c.args.pack.now.areas c.args.spool.now c.put_composed.new.self (g.P.Sectors.state c.args.pack.now.pool) (g.P.Sectors.state c.put_composed.new.sectors) c.in-Some.job c.args.page c.args.line c.record.result.now
    c.new-composed.result c.in-Some.is c.requires.asks c.record.ensures.value c.new-composed.ensures c.requires.ready c.put_composed.ensures.within c.put_composed.ensures.quotas c.in-Ok.ensures.queued

pub returns-in-Ok-clause-leaves : goal.returns-in-Ok-clause-leaves
returns-in-Ok-clause-leaves g c = record {
  stays = still c.args.self.now;
  ready = ready_put c.args.self.now c.args.pack.now.areas c.args.spool.now (g.P.Sectors.state c.args.pack.now.pool) (g.P.Sectors.state c.put_composed.new.sectors) c.requires.ready c.put_composed.ensures.within;
  spares = spares_put c.args.self.now.id c.args.pack.now.areas c.args.spool.now c.put_composed.new.self (g.P.Sectors.state c.args.pack.now.pool) (g.P.Sectors.state c.put_composed.new.sectors)
      c.requires.ready.files.pack c.put_composed.ensures.within c.put_composed.ensures.other c.put_composed.ensures.other_blocks c.put_composed.ensures.quotas c.put_composed.ensures.blocks;
  says = said_put c.args.self.now.id c.args.pack.now.areas c.args.spool.now (g.P.Sectors.state c.args.pack.now.pool) (g.P.Sectors.state c.put_composed.new.sectors) c.put_composed.ensures.within;
  failures = c.in-Ok.ensures.failures;
}

pub returns-in-Err-Sectors-clause-leaves : goal.returns-in-Err-Sectors-clause-leaves
returns-in-Err-Sectors-clause-leaves g c = record {
  stays = still c.args.self.now;
  ready = tt;
  spares = spares_put c.args.self.now.id c.args.pack.now.areas c.args.spool.now c.put_composed.new.self (g.P.Sectors.state c.args.pack.now.pool) (g.P.Sectors.state c.put_composed.new.sectors)
      c.requires.ready.files.pack c.put_composed.ensures.within c.put_composed.ensures.other c.put_composed.ensures.other_blocks c.put_composed.ensures.quotas c.put_composed.ensures.blocks;
  says = tt;
  failures = search rules;
}

pub returns-in_default-clause-leaves : goal.returns-in_default-clause-leaves
returns-in_default-clause-leaves g c = all_same _ c.requires.ready c.requires.blocks
