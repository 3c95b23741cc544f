use Rattle.s3_cycle.specs.Inner.Requests.{answer_of}
use Rattle.s3_level.specs.Inner.Holds.{HoldsParts, with_seen}
use Rattle.s3_job_files.specs.Inner.Holds.{seen}
use Rattle.s3_level.proofs.Replies.{goes_on, stays_there}
use Rattle.s3_level.proofs.Leaving.{leaves_same}
use Rattle.s3_level.proofs.level.Level.go_on.Goals as goal

pub returns-then-takes-clause-world : goal.returns-then-takes-clause-world
unfolding answer_of
returns-then-takes-clause-world g c = λ s.
    goes_on _ c.resume.result c.args.digit c.args.self.now (HoldsParts c.resume.new.self (with_seen (seen c.resume.new.pack.areas (g.P.Sectors.state c.resume.new.pack.pool).contents) s)) (c.takes.ensures.fits c.if-takes.true) (c.resume.ensures.world s)

pub returns-else-takes-clause-world : goal.returns-else-takes-clause-world
returns-else-takes-clause-world g c = λ s.
    stays_there (with_seen (seen c.args.pack.now.areas (g.P.Sectors.state c.args.pack.now.pool).contents) s) c.args.digit c.takes.result c.args.self.now c.if-takes.false (c.takes.ensures.world (with_seen (seen c.args.pack.now.areas (g.P.Sectors.state c.args.pack.now.pool).contents) s))

pub returns-else-takes-clause-leaves : goal.returns-else-takes-clause-leaves
returns-else-takes-clause-leaves g c = leaves_same _ c.requires.ready
