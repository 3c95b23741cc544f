use Rattle.std.proofs.Common.{Ok, Err, subst, rules, refl}
use Rattle.s3_store.specs.declared.sector_fault.SectorFault.{SectorFault}
use Rattle.s3_ocl.specs.Streams.{jobs_from}
use Rattle.s3_level.specs.Inner.Holds.{HoldsParts, with_seen}
use Rattle.s3_level.specs.Inner.Turning.{NextIs}
use Rattle.s3_job_files.specs.Inner.Holds.{seen}
use Rattle.s3_level.proofs.Beginning.{nothing_begins, one_begins}
use Rattle.s3_level.proofs.Leaving.{leaves_err, leaves_kept, leaves_memory, leaves_ok, still}
use Rattle.s3_level.proofs.level.Level.begin.Goals as goal

pub returns-then-not-has_job-clause-world : goal.returns-then-not-has_job-clause-world
returns-then-not-has_job-clause-world g c = λ s.
    nothing_begins (with_seen (seen c.args.pack.now.areas (g.P.Sectors.state c.args.pack.now.pool).contents) s) SectorFault c.args.self.now (HoldsParts c.pass_over.new.self (with_seen (seen c.args.pack.now.areas (g.P.Sectors.state c.args.pack.now.pool).contents) s)) (c.has_job.ensures.none (search rules)) (c.pass_over.ensures.world (with_seen (seen c.args.pack.now.areas (g.P.Sectors.state c.args.pack.now.pool).contents) s))

pub returns-in_ok-start-in-Ok-clause-world : goal.returns-in_ok-start-in-Ok-clause-world
returns-in_ok-start-in-Ok-clause-world g c = λ s.
    one_begins (with_seen (seen c.args.pack.now.areas (g.P.Sectors.state c.args.pack.now.pool).contents) s) SectorFault c.args.self.now (HoldsParts c.start.new.self (with_seen (seen c.start.new.pack.areas (g.P.Sectors.state c.start.new.pack.pool).contents) s)) (Ok c.in-Ok.job) (jobs_from c.args.self.now.deck c.in-Ok.job.after)
    (subst (NextIs c.args.self.now.deck c.args.self.now.next) c.in-Ok.is c.next_job.ensures.job) (c.in_ok-start-in-Ok.ensures.world s)

pub returns-in_ok-refuse-in-Err-Faulty-clause-world : goal.returns-in_ok-refuse-in-Err-Faulty-clause-world
returns-in_ok-refuse-in-Err-Faulty-clause-world g c = λ s.
    one_begins (with_seen (seen c.args.pack.now.areas (g.P.Sectors.state c.args.pack.now.pool).contents) s) SectorFault c.args.self.now (HoldsParts c.refuse.new.self (with_seen (seen c.args.pack.now.areas (g.P.Sectors.state c.args.pack.now.pool).contents) s)) (Err c.in-Err-Faulty.faulty) (jobs_from c.args.self.now.deck c.in-Err-Faulty.faulty.after)
    (search rules) (c.in_ok-refuse-in-Err-Faulty.ensures.world (with_seen (seen c.args.pack.now.areas (g.P.Sectors.state c.args.pack.now.pool).contents) s))

pub returns-then-not-has_job-clause-leaves : goal.returns-then-not-has_job-clause-leaves
returns-then-not-has_job-clause-leaves g c = leaves_kept _ c.requires.free.ready c.pass_over.ensures.keeps

pub returns-in_err-start-in-Ok-clause-leaves : goal.returns-in_err-start-in-Ok-clause-leaves
returns-in_err-start-in-Ok-clause-leaves g c = leaves_err c.from_residual.result c.from_residual.ensures.1 c.in_err-start-in-Ok.ensures.leaves

pub returns-in_ok-start-in-Ok-clause-leaves : goal.returns-in_ok-start-in-Ok-clause-leaves
returns-in_ok-start-in-Ok-clause-leaves g c = leaves_ok _ c.in_ok-start-in-Ok.ensures.leaves

pub returns-in-Err-NoMemory-clause-leaves : goal.returns-in-Err-NoMemory-clause-leaves
returns-in-Err-NoMemory-clause-leaves g c = leaves_memory _ refl c.requires.free.ready.files.pack (still c.args.self.now)

pub returns-in_err-refuse-in-Err-Faulty-clause-leaves : goal.returns-in_err-refuse-in-Err-Faulty-clause-leaves
returns-in_err-refuse-in-Err-Faulty-clause-leaves g c = leaves_memory c.from_residual-in_err-refuse-in-Err-Faulty.result c.from_residual-in_err-refuse-in-Err-Faulty.ensures.1 c.requires.free.ready.files.pack c.refuse.ensures.keeps.stays

pub returns-in_ok-refuse-in-Err-Faulty-clause-leaves : goal.returns-in_ok-refuse-in-Err-Faulty-clause-leaves
returns-in_ok-refuse-in-Err-Faulty-clause-leaves g c = leaves_kept _ c.requires.free.ready c.refuse.ensures.keeps
