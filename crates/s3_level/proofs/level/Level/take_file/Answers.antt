use Rattle.s3_job_files.specs.Inner.Holds.{seen}
use Rattle.s3_level.proofs.Files.{can_serve, file_asked, file_taken, file_there}
use Rattle.s3_level.proofs.Leaving.{leaves_served}
use Rattle.s3_level.proofs.level.Level.take_file.Goals as goal

pub returns-clause-served : goal.returns-clause-served
returns-clause-served g c = λ s.
    file_taken c.serve.result (seen c.args.pack.now.areas (g.P.Sectors.state c.args.pack.now.pool).contents) (seen c.serve.new.pack.areas (g.P.Sectors.state c.serve.new.pack.pool).contents)
    s c.args.self.now c.in-Some.job c.serve.new.self c.in-Some.is c.requires.ready c.serve.ensures.place c.serve.ensures.serves

pub returns-clause-fails : goal.returns-clause-fails
returns-clause-fails g c = λ s.
    file_there c.serve.result (seen c.args.pack.now.areas (g.P.Sectors.state c.args.pack.now.pool).contents) s c.args.self.now c.in-Some.job c.in-Some.is c.requires.ready c.serve.ensures.fails

pub serve-requires-clause-asks : goal.serve-requires-clause-asks
serve-requires-clause-asks g c = file_asked c.args.self.now c.in-Some.job c.in-Some.is c.requires.asks

pub serve-requires-clause-can : goal.serve-requires-clause-can
serve-requires-clause-can g c = can_serve c.args.self.now c.in-Some.job (seen c.args.pack.now.areas (g.P.Sectors.state c.args.pack.now.pool).contents) c.in-Some.is c.requires.ready

pub returns-clause-leaves : goal.returns-clause-leaves
returns-clause-leaves g c = leaves_served c.in-Some.is c.requires.ready c.serve.ensures
