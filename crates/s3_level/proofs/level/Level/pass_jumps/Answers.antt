use Rattle.s3_level.proofs.Jumping.{jumps_stand}
use Rattle.s3_level.specs.Inner.Holds.{HoldsParts, with_seen}
use Rattle.s3_job_files.specs.Inner.Holds.{seen}
use Rattle.s3_level.proofs.Leaving.{leaves_behind, leaves_err, leaves_ok}
use Rattle.s3_level.proofs.level.Level.pass_jumps.Goals as goal

pub returns-clause-world : goal.returns-clause-world
returns-clause-world g c = λ s.
    jumps_stand c.take_jumps-times.result (HoldsParts c.args.self.now (with_seen (seen c.args.pack.now.areas (g.P.Sectors.state c.args.pack.now.pool).contents) s)) (HoldsParts c.take_jumps-times.new.self (with_seen (seen c.args.pack.now.areas (g.P.Sectors.state c.args.pack.now.pool).contents) s)) (HoldsParts c.stand.new.self (with_seen (seen c.stand.new.pack.areas (g.P.Sectors.state c.stand.new.pack.pool).contents) s))
    (c.take_jumps-times.ensures.world (with_seen (seen c.args.pack.now.areas (g.P.Sectors.state c.args.pack.now.pool).contents) s)) (c.in_ok-stand.ensures.world s)

pub returns-in_err-stand-clause-leaves : goal.returns-in_err-stand-clause-leaves
returns-in_err-stand-clause-leaves g c = leaves_err c.from_residual.result c.from_residual.ensures.1 (leaves_behind c.take_jumps-times.ensures.keeps.stays c.in_err-stand.ensures.leaves)

pub returns-clause-leaves : goal.returns-clause-leaves
returns-clause-leaves g c = leaves_ok _ (leaves_behind c.take_jumps-times.ensures.keeps.stays c.in_ok-stand.ensures.leaves)
