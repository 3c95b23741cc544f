use Rattle.s3_cycle.specs.Inner.Requests.{answer_of}
use Rattle.s3_solo.specs.Serving.{with_answer}
use Rattle.s3_level.proofs.Running.{then_stands}
use Rattle.s3_level.specs.Inner.Holds.{HoldsParts, with_seen}
use Rattle.s3_job_files.specs.Inner.Holds.{seen}
use Rattle.s3_level.proofs.Leaving.{leaves_behind}
use Rattle.s3_level.proofs.level.Level.resume.Goals as goal

pub returns-clause-world : goal.returns-clause-world
returns-clause-world g c = λ s.
    then_stands c.stand.result (with_answer (answer_of c.args.answer)) (HoldsParts c.args.self.now (with_seen (seen c.args.pack.now.areas (g.P.Sectors.state c.args.pack.now.pool).contents) s)) (HoldsParts c.take_answer.new.self (with_seen (seen c.args.pack.now.areas (g.P.Sectors.state c.args.pack.now.pool).contents) s)) (HoldsParts c.stand.new.self (with_seen (seen c.stand.new.pack.areas (g.P.Sectors.state c.stand.new.pack.pool).contents) s))
    (c.take_answer.ensures.world (with_seen (seen c.args.pack.now.areas (g.P.Sectors.state c.args.pack.now.pool).contents) s)) (c.stand.ensures.world s)

pub returns-clause-leaves : goal.returns-clause-leaves
returns-clause-leaves g c = leaves_behind c.take_answer.ensures.keeps.stays c.stand.ensures.leaves
