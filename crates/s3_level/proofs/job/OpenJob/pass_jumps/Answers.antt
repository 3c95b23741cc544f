use Rattle.std.proofs.Common.{refl}
use Rattle.s3_level.proofs.OfLines.{job_stays}
use Rattle.s3_level.proofs.job.OpenJob.pass_jumps.Goals as goal

pub returns-clause-ready : goal.returns-clause-ready
returns-clause-ready c = λ ready. job_stays c.args.self.now.files.level c.args.self.now _ ready refl refl (λ source stands. (c.pass_jumps.ensures.goes source stands).0)

pub returns-clause-place : goal.returns-clause-place
returns-clause-place c = record { number = refl; program = refl; next = refl; end = refl; level = refl; stands = λ source stands. (c.pass_jumps.ensures.goes source stands).0 }
