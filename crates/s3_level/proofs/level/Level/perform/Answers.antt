use Rattle.std.proofs.Common.{Ok, sym, ◌∙◌, slice_range}
use Rattle.s3_solo.specs.Serving.{data_of}
use Rattle.s3_level.proofs.Starting.{program_performed, source_performed}
use Rattle.s3_level.specs.Inner.Holds.{HoldsParts, with_seen}
use Rattle.s3_job_files.specs.Inner.Holds.{seen}
use Rattle.s3_level.proofs.Leaving.{leaves_kept, leaves_memory}
use Rattle.s3_level.proofs.level.Level.perform.Goals as goal

pub returns-in_ok-compile-clause-world : goal.returns-in_ok-compile-clause-world
returns-in_ok-compile-clause-world g c = λ s.
    source_performed {T = Unit {0}} {E = Unit {0}} (Ok (tt {0})) c.args.number c.run_card.result c.data_from.result c.args.job.now (data_of c.args.self.now.deck c.args.job.now) (slice_range c.args.self.now.deck c.data_from.result c.data_to.result)
    (HoldsParts c.args.self.now (with_seen (seen c.args.pack.now.areas (g.P.Sectors.state c.args.pack.now.pool).contents) s)) (HoldsParts c.compile.new.self (with_seen (seen c.args.pack.now.areas (g.P.Sectors.state c.args.pack.now.pool).contents) s))
    (sym c.is_compile.ensures ∙ c.if-is_compile.true) c.run_card.ensures c.data_from.ensures (λ i. slice_range c.args.self.now.deck (c.data_from.ensures i) (c.data_to.ensures.value i)) (c.in_ok-compile.ensures.world (with_seen (seen c.args.pack.now.areas (g.P.Sectors.state c.args.pack.now.pool).contents) s))

pub returns-else-is_compile-clause-world : goal.returns-else-is_compile-clause-world
returns-else-is_compile-clause-world g c = λ s.
    program_performed c.run.result c.args.number c.args.job.now (data_of c.args.self.now.deck c.args.job.now) (HoldsParts c.args.self.now (with_seen (seen c.args.pack.now.areas (g.P.Sectors.state c.args.pack.now.pool).contents) s))
    (HoldsParts c.run.new.self (with_seen (seen c.run.new.pack.areas (g.P.Sectors.state c.run.new.pack.pool).contents) s))
    (sym c.is_compile.ensures ∙ c.if-is_compile.false) (c.run.ensures.world s)

pub returns-in_ok-compile-clause-leaves : goal.returns-in_ok-compile-clause-leaves
returns-in_ok-compile-clause-leaves g c = leaves_kept _ c.requires.free.ready c.compile.ensures.keeps

pub returns-in_err-compile-clause-leaves : goal.returns-in_err-compile-clause-leaves
returns-in_err-compile-clause-leaves g c = leaves_memory c.from_residual.result c.from_residual.ensures.1 c.requires.free.ready.files.pack c.compile.ensures.keeps.stays
