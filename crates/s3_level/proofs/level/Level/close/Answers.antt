use Rattle.s3_level.proofs.Ending.{closed_wholly}
use Rattle.s3_level.proofs.level.Level.close.Goals as goal

pub returns-clause-world : goal.returns-clause-world
returns-clause-world g c = λ blocks are.
    closed_wholly c.end_job.result c.args.self.now c.end_job.new.self c.args.pack.now.areas c.end_job.new.pack.areas (g.P.Sectors.state c.args.pack.now.pool) (g.P.Sectors.state c.end_job.new.pack.pool) blocks
    c.requires.ready.files.pack are c.end_job.ensures.leaves.pack.others c.end_job.ensures.leaves.stays.id c.end_job.ensures.world
