use Rattle.std.proofs.Common.{subst}
use Rattle.s3_store.specs.declared.sector_fault.SectorFault.{SectorFault}
use Rattle.s3_job_files.specs.Inner.Holds.{seen}
use Rattle.s3_level.specs.Inner.Holds.{HoldsParts, with_seen}
use Rattle.s3_level.specs.Inner.Turning.{FileServed}
use Rattle.s3_level.proofs.Files.{file_acts, file_fails, file_idles, file_stops}
use Rattle.s3_level.proofs.Leaving.{leaves_err, leaves_ok, leaves_then}
use Rattle.s3_level.proofs.level.Level.serve_file.Goals as goal

pub returns-in_err-took-clause-served : goal.returns-in_err-took-clause-served
returns-in_err-took-clause-served g c = λ s.
    file_fails c.from_residual.result (HoldsParts c.args.self.now (with_seen (seen c.args.pack.now.areas (g.P.Sectors.state c.args.pack.now.pool).contents) s))
    (HoldsParts c.take_file.new.self (with_seen (seen c.take_file.new.pack.areas (g.P.Sectors.state c.take_file.new.pack.pool).contents) s)) c.from_residual.ensures.0 (c.in_err-took.ensures.fails s)

pub returns-else-took-clause-served : goal.returns-else-took-clause-served
returns-else-took-clause-served g c = λ s.
    file_idles SectorFault (HoldsParts c.args.self.now (with_seen (seen c.args.pack.now.areas (g.P.Sectors.state c.args.pack.now.pool).contents) s))
    (HoldsParts c.take_file.new.self (with_seen (seen c.take_file.new.pack.areas (g.P.Sectors.state c.take_file.new.pack.pool).contents) s))
    (subst (λ took. FileServed took (HoldsParts c.args.self.now (with_seen (seen c.args.pack.now.areas (g.P.Sectors.state c.args.pack.now.pool).contents) s))
    (HoldsParts c.take_file.new.self (with_seen (seen c.take_file.new.pack.areas (g.P.Sectors.state c.take_file.new.pack.pool).contents) s))) c.if-took.false (c.in_ok-took.ensures.served s))

pub returns-in_ok-stand-clause-served : goal.returns-in_ok-stand-clause-served
returns-in_ok-stand-clause-served g c = λ s.
    file_acts SectorFault (HoldsParts c.args.self.now (with_seen (seen c.args.pack.now.areas (g.P.Sectors.state c.args.pack.now.pool).contents) s))
    (HoldsParts c.take_file.new.self (with_seen (seen c.take_file.new.pack.areas (g.P.Sectors.state c.take_file.new.pack.pool).contents) s))
    (HoldsParts c.stand.new.self (with_seen (seen c.stand.new.pack.areas (g.P.Sectors.state c.stand.new.pack.pool).contents) s))
    (subst (λ took. FileServed took (HoldsParts c.args.self.now (with_seen (seen c.args.pack.now.areas (g.P.Sectors.state c.args.pack.now.pool).contents) s))
    (HoldsParts c.take_file.new.self (with_seen (seen c.take_file.new.pack.areas (g.P.Sectors.state c.take_file.new.pack.pool).contents) s))) c.if-took.true (c.in_ok-took.ensures.served s))
    (c.in_ok-stand.ensures.world s)

pub returns-in_err-stand-clause-served : goal.returns-in_err-stand-clause-served
returns-in_err-stand-clause-served g c = λ s.
    file_stops c.from_residual-in_err-stand.result (HoldsParts c.args.self.now (with_seen (seen c.args.pack.now.areas (g.P.Sectors.state c.args.pack.now.pool).contents) s))
    (HoldsParts c.take_file.new.self (with_seen (seen c.take_file.new.pack.areas (g.P.Sectors.state c.take_file.new.pack.pool).contents) s))
    (HoldsParts c.stand.new.self (with_seen (seen c.stand.new.pack.areas (g.P.Sectors.state c.stand.new.pack.pool).contents) s)) c.from_residual-in_err-stand.ensures.0
    (subst (λ took. FileServed took (HoldsParts c.args.self.now (with_seen (seen c.args.pack.now.areas (g.P.Sectors.state c.args.pack.now.pool).contents) s))
    (HoldsParts c.take_file.new.self (with_seen (seen c.take_file.new.pack.areas (g.P.Sectors.state c.take_file.new.pack.pool).contents) s))) c.if-took.true (c.in_ok-took.ensures.served s))

pub returns-in_err-took-clause-leaves : goal.returns-in_err-took-clause-leaves
returns-in_err-took-clause-leaves g c = leaves_err c.from_residual.result c.from_residual.ensures.1 c.in_err-took.ensures.leaves

pub returns-else-took-clause-leaves : goal.returns-else-took-clause-leaves
returns-else-took-clause-leaves g c = leaves_ok _ c.in_ok-took.ensures.leaves

pub returns-in_ok-stand-clause-leaves : goal.returns-in_ok-stand-clause-leaves
returns-in_ok-stand-clause-leaves g c = leaves_ok _ (leaves_then c.in_ok-took.ensures.leaves c.in_ok-stand.ensures.leaves)

pub returns-in_err-stand-clause-leaves : goal.returns-in_err-stand-clause-leaves
returns-in_err-stand-clause-leaves g c = leaves_err c.from_residual-in_err-stand.result c.from_residual-in_err-stand.ensures.1 (leaves_then c.in_ok-took.ensures.leaves c.in_err-stand.ensures.leaves)
