use Rattle.std.specs.Prelude.{Err}
use Rattle.s3_level.proofs.Starting.{taken_then_started}
use Rattle.s3_ocl.specs.Streams.{jobs_from}
use Rattle.s3_level.specs.Inner.Holds.{HoldsParts}
use Rattle.s3_level.proofs.Leaving.{keeps_then}
use Rattle.s3_level.proofs.level.Level.refuse.Goals as goal

pub returns-clause-world : goal.returns-clause-world
returns-clause-world c = λ s.
    taken_then_started s c.show_fault.result c.args.self.now (HoldsParts c.take_job-number.new.self s) (HoldsParts c.show_fault.new.self s) (Err c.args.faulty) (jobs_from c.args.self.now.deck c.args.faulty.after)
    c.take_job-number.result c.take_job-number.ensures.number (c.take_job-number.ensures.world s) (c.show_fault.ensures.world s)

pub returns-clause-keeps : goal.returns-clause-keeps
returns-clause-keeps c = keeps_then c.take_job-number.ensures.keeps c.show_fault.ensures.keeps
